use Rattle.std.proofs.Common.{◌≡◌, length}
use Rattle.cf_schedule.specs.Fresh.{are_fresh}
use Rattle.cf_schedule.proofs.whole.fresh.Given as goal

abbrev pub invariant-loop-event : goal.invariant-loop-event
invariant-loop-event l = are_fresh l.fn.events ≡ are_fresh l.rest

abbrev pub decreases-loop-event : goal.decreases-loop-event
decreases-loop-event l = length l.rest
