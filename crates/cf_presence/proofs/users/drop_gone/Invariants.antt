use Rattle.std.proofs.Common.{◌+◌, length}
use Rattle.std.specs.Prelude.{filter, not}
use Rattle.std.specs.Map.{values_of}
use Rattle.cf_presence.specs.Presence.{stays}
use Rattle.cf_presence.specs.UserCounts.{Tallies, clients_with}
use Rattle.cf_presence.proofs.users.drop_gone.Given as goal

abbrev pub invariant-loop-entry : goal.invariant-loop-entry
invariant-loop-entry l =
    let now = l.fn.now in
    Tallies l.users (λ u. clients_with u (filter (stays now) (values_of l.clients.entries))
    + clients_with u (filter (λ s. not (stays now s)) l.rest))

abbrev pub decreases-loop-entry : goal.decreases-loop-entry
decreases-loop-entry l = length l.rest
