-- A round in which it may pass on is one delivery more (`one_delivery_more`).
use Rattle.cf_node.proofs.Delivering.{one_delivery_more}
use Rattle.cf_node.proofs.dispatcher.dispatch.Goals as goal

pub loop-preserved-then-may : goal.loop-preserved-then-may
loop-preserved-then-may g c =
    one_delivery_more g.M.Mailbox.receives g.M.Mailbox.brings g.M.Mailbox.wakes c.args.mailbox.now c.loop.mailbox
    c.pass_on.new.mailbox c.loop.invariant c.pass_on.ensures
