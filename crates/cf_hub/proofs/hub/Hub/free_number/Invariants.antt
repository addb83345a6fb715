use Rattle.std.proofs.Common.{◌≡◌, ◌<◌, ℕ, is_some, true}
use Rattle.cf_hub.specs.Hub.{attached_at}
use Rattle.cf_hub.proofs.hub.Hub.free_number.Given as goal

abbrev pub invariant-loop-number : goal.invariant-loop-number
invariant-loop-number l = (j : ℕ) → j < l.number → is_some (attached_at l.self j) ≡ true
