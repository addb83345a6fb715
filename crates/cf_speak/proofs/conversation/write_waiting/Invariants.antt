use Rattle.std.proofs.Common.{length}
use Rattle.cf_speak.specs.Scene.{member, notes_in}
use Rattle.cf_speak.specs.Shown.{scene_of}
use Rattle.cf_speak.proofs.Waiting.{Written}
use Rattle.cf_speak.proofs.conversation.write_waiting.Given as goal

abbrev pub invariant-loop-out : goal.invariant-loop-out
invariant-loop-out g l =
    Written (scene_of l.initial.node) (scene_of l.node) (g.W.Write.contents l.initial.writer)
    (g.W.Write.contents l.writer)

abbrev pub decreases-loop-out : goal.decreases-loop-out
decreases-loop-out g l = length (notes_in (member (scene_of l.node)))
