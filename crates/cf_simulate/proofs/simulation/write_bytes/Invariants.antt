use Rattle.cf_simulate.specs.Simulation.{Leaves}
use Rattle.cf_simulate.proofs.simulation.write_bytes.Given as goal

abbrev pub invariant-loop : goal.invariant-loop
invariant-loop g l = Leaves (g.W.Write.contents l.initial.writer) (g.W.Write.contents l.writer) l.bytes l.rest
