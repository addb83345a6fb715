-- The loop keeps that those named so far had their turns, none more often than it stood in the list (`goes_on`).
use Rattle.cf_dispatch.proofs.Batches.{goes_on}
use Rattle.cf_dispatch.proofs.batch.take_batch.Goals as goal

pub loop-named-preserved : goal.loop-named-preserved
loop-named-preserved g c =
    goes_on g.O.Outlets.gets c.loop-named._named c.in-Some.session
    c.args.hub.now.node c.loop-named.hub.node c.next_with_output.new.self.node c.take.new.hub.node
    c.args.outlets.now c.loop-named.outlets c.take.new.self c.loop-named.invariant
    (record { turn = c.in-Some.ensures.next; same = c.in-Some.ensures.same }) c.take.ensures
