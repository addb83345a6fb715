-- The loop keeps that what is written and what still waits make what waited, in order.
use Rattle.cf_queue.specs.Meaning.{meaning}
use Rattle.cf_speak.specs.Shown.{scene_of}
use Rattle.cf_speak.proofs.Waiting.{written_more}
use Rattle.cf_speak.proofs.conversation.write_waiting.Goals as goal

pub loop-out-preserved : goal.loop-out-preserved
loop-out-preserved g c =
    written_more (scene_of c.args.node.now) (scene_of c.loop-out.node) (scene_of c.take.new.self)
    (g.W.Write.contents c.args.writer.now) (g.W.Write.contents c.loop-out.writer)
    (g.W.Write.contents c.write_one.new.writer)
    (meaning c.in-Some.out) c.loop-out.invariant c.in-Some.ensures.front c.in-Some.ensures.step
    c.in_ok-write_one.ensures.written
