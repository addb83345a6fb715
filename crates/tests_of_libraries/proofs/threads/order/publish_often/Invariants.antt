-- The loop keeps that the pass is of this word.
use Rattle.std.proofs.Common.{◌≡◌}
use Rattle.tests_of_libraries.proofs.threads.order.publish_often.Given as goal

abbrev pub invariant-loop : goal.invariant-loop
invariant-loop g l = l.pass.word ≡ g.N.WordNaming.word
