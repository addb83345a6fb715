-- Before any line nothing is read and no line is numbered.
use Rattle.std.proofs.Common.{rules}
use Rattle.cf_simulate.proofs.Reading.{no_lines, none_read}
use Rattle.cf_simulate.proofs.schedule.Schedule.new.Goals as goal

pub returns-clause-events : goal.returns-clause-events
returns-clause-events c = λ nodes. none_read nodes _ c.new.ensures.items (search rules)

pub returns-clause-lines : goal.returns-clause-lines
returns-clause-lines c = λ nodes. no_lines nodes _ _ c.new-2.ensures.items c.new.ensures.items
