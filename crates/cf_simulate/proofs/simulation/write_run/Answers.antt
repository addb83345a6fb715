-- What `write_events` promises of the run is said for the schedule; without one nothing was written.
use Rattle.std.proofs.Common.{rules}
use Rattle.cf_simulate.proofs.Steps.{part_written}
use Rattle.cf_simulate.proofs.simulation.write_run.Goals as goal

pub returns-in-Err-clause-ends : goal.returns-in-Err-clause-ends
returns-in-Err-clause-ends g c =
    part_written _ _ _ _ _ _ c.write_events-run.result c.write_events-run.ensures.done c.write_events-run.ensures.ends
    (search rules)
