use Rattle.cf_dispatch.specs.Dispatch.{Dispatches}
use Rattle.cf_node.proofs.dispatcher.dispatch.Given as goal

abbrev pub invariant-loop : goal.invariant-loop
invariant-loop g l = Dispatches g.M.Mailbox.receives g.M.Mailbox.brings g.M.Mailbox.wakes l.initial.mailbox l.mailbox
