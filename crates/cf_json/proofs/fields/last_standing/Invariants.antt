use Rattle.std.proofs.Common.{◌≡◌, ◌++◌, List, ℕ, map, reverse, vec_len}
use Rattle.std.specs.Prelude.{String}
use Rattle.std.specs.BTreeSet.{contains_text}
use Rattle.std.specs.declared.alloc.Global.{Global}
use Rattle.cf_json.specs.Members.{entry_of}
use Rattle.cf_json.specs.Spans.{Span}
use Rattle.cf_json.proofs.Lasts.{has, lasts}
use Rattle.cf_json.proofs.fields.last_standing.Given as goal

abbrev pub invariant-loop-key : goal.invariant-loop-key
invariant-loop-key l =
    (done : List (String Global × Span)) × (l.members.items ++ done ≡ l.fn.members.items)
    × (map entry_of l.kept.items ≡ reverse (lasts (map entry_of done)))
    × ((k : List ℕ) → contains_text l.seen k ≡ has k (map entry_of done))

abbrev pub decreases-loop-key : goal.decreases-loop-key
decreases-loop-key l = vec_len l.members
