-- What each round takes comes behind what the rounds before took (`grows_own`, `grows_more`).
use Rattle.cf_node.proofs.Growing.{grows_more, grows_none, grows_own}
use Rattle.cf_node.proofs.desk.take_over.Goals as goal

pub returns-then-not-may_wait : goal.returns-then-not-may_wait
returns-then-not-may_wait g c = grows_none c.args.outbox.now.outs.items

pub loop-init : goal.loop-init
loop-init g c = grows_none c.args.outbox.now.outs.items

pub loop-preserved : goal.loop-preserved
loop-preserved g c =
    grows_more c.args.outbox.now.outs.items c.loop.outbox.outs.items c.take.new.outbox.outs.items c.loop.invariant
    (grows_own c.args.handler.now.client.standing.number c.loop.outbox c.take.new.outbox c.take.ensures)

pub returns-then-not-take : goal.returns-then-not-take
returns-then-not-take g c =
    grows_more c.args.outbox.now.outs.items c.loop.outbox.outs.items c.take.new.outbox.outs.items c.loop.invariant
    (grows_own c.args.handler.now.client.standing.number c.loop.outbox c.take.new.outbox c.take.ensures)
