use Rattle.cf_hub.specs.Hub.{attached_in}
use Rattle.cf_hub.proofs.DeliveryOutcomes.{IsOnItsWay}
use Rattle.cf_hub.proofs.hub.Hub.deliver_to_all.Given as goal

abbrev pub invariant-loop-session : goal.invariant-loop-session
invariant-loop-session l =
    IsOnItsWay l.publication l.channel l.epoch l.fn.self (attached_in l.self-inside.1.1.1.1.0)
    l.self-inside.1.1.1.1.1.1.1.0 l.self-inside.1.1.1.1.1.1.1.1.0 l.counts l.yielded l.session-iterator
