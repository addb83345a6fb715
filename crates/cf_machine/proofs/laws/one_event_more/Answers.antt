-- Both clauses are the theory's: the run, and the trace, of one event more.
use Rattle.std.proofs.Common.{length, ◌+◌, refl}
use Rattle.cf_machine.specs.World.{start}
use Rattle.cf_machine.proofs.Schedules.{run-more, trace-more}
use Rattle.cf_machine.proofs.laws.one_event_more.Goals as goal

pub returns-clause-run : goal.returns-clause-run
returns-clause-run c = λ config events event. run-more config start events event

pub returns-clause-trace : goal.returns-clause-trace
returns-clause-trace c = λ config events event. trace-more config 1 (1 + length events) start events event refl
