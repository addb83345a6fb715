use Rattle.cf_subscribers.specs.Follows.{sessions_of}
use Rattle.cf_hub.specs.Hub.{attached_in}
use Rattle.cf_hub.proofs.Ending.{IsSettling, from_on}
use Rattle.cf_hub.proofs.deliveries.settle_all.Given as goal

abbrev pub invariant-loop-next : goal.invariant-loop-next
invariant-loop-next l = IsSettling l.channel (attached_in l.sessions) l.rows l.next

abbrev pub decreases-loop-next : goal.decreases-loop-next
decreases-loop-next l = from_on l.next (sessions_of l.rows l.channel)
