use Rattle.cf_node.specs.Desk.{Grows}
use Rattle.cf_node.proofs.desk.take_over.Given as goal

abbrev pub invariant-loop : goal.invariant-loop
invariant-loop g l = Grows l.initial.outbox.outs.items l.outbox.outs.items
