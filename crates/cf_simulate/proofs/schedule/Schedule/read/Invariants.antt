use Rattle.std.proofs.Common.{take, List, ℕ}
use Rattle.cf_simulate.specs.ScheduleRead.{HasLines, IsReadTo}
use Rattle.cf_simulate.proofs.Reading.{texts}
use Rattle.cf_simulate.proofs.schedule.Schedule.read.Given as goal

abbrev pub invariant-loop-before : goal.invariant-loop-before
invariant-loop-before l =
    let read : List (List ℕ) = texts (take l.before l.line-items) in
    IsReadTo l.nodes read l.schedule × HasLines l.nodes read l.schedule
