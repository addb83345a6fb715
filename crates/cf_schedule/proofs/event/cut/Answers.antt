-- The kit's cut at the first blank is the definition's.
use Rattle.std.proofs.Common.{ℕ, MatchOption, arith, List, Bor}
use Rattle.std.specs.Prelude.{Option, Some, None}
use Rattle.std.proofs.lemmas.Str.Pattern.{split_parts, IsSplitOnceResult}
use Rattle.cf_schedule.specs.LineRead.{IsUnspaced, CutsAtSpace}
use Rattle.cf_schedule.proofs.Spacing.{lacks_at}
use Rattle.cf_schedule.proofs.event.cut.Goals as goal

cut_by : (s : List ℕ) (r : Option (Bor (List ℕ) × Bor (List ℕ))) → IsSplitOnceResult 32 s r
    → MatchOption r (IsUnspaced s) (λ p. CutsAtSpace s p.0.now p.1.now)
cut_by s None h = lacks_at 32 s (split_parts 32 s None h (omega arith))
cut_by s (Some p) h =
    let parts = split_parts 32 s (Some p) h (omega arith) in
    record { whole = parts.0; word = lacks_at 32 p.0.now parts.1 }

pub returns : goal.returns
returns c = cut_by c.args.text.now c.split_once.result c.split_once.ensures.cases
