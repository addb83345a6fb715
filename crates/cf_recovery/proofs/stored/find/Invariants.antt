use Rattle.std.proofs.Common.{◌≡◌, ℕ, ◌+◌, ◌<◌, ◌≤◌, false}
use Rattle.cf_recovery.specs.Stored.{stored, is_at}
use Rattle.cf_recovery.proofs.stored.find.Given as goal

abbrev pub invariant-loop-i : goal.invariant-loop-i
invariant-loop-i l =
    (j : ℕ) → l.from ≤ j → j < l.i → is_at (stored l.epochs l.publications) l.at.epoch (l.at.offset + l.ahead) j ≡ false
