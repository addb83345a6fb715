-- A line that is passed over adds nothing; one that says an event is added, or refused with its reason.
use Rattle.cf_schedule.specs.Seen.{seen}
use Rattle.cf_schedule.specs.ScheduleLine.{Says, IsPassedOver}
use Rattle.cf_simulate.proofs.Reading.{lines_passed, one_passed, none_given, some_given, if_err}
use Rattle.cf_simulate.proofs.schedule.Schedule.read_line.Goals as goal

pub returns-in-Ok-None-clause-ok : goal.returns-in-Ok-None-clause-ok
returns-in-Ok-None-clause-ok c = λ before read.
    let passed =
    none_given (IsPassedOver c.args.line.now) (λ e. Says c.args.nodes c.args.line.now (seen e)) c.in-Ok-None.field-0
    c.in-Ok-None.field-0-is c.in-Ok-None.ensures.found in
    one_passed c.args.nodes before c.args.line.now c.args.self.now passed read

pub returns-in-Ok-None-clause-lines : goal.returns-in-Ok-None-clause-lines
returns-in-Ok-None-clause-lines c =
    λ before number read. lines_passed c.args.nodes before c.args.line.now c.args.self.now read

pub returns-in-Ok-Some-clause-err : goal.returns-in-Ok-Some-clause-err
returns-in-Ok-Some-clause-err c =
    let says = some_given (IsPassedOver c.args.line.now) (λ e. Says c.args.nodes c.args.line.now (seen e))
    c.in-Ok-Some.field-0 c.in-Ok-Some.event c.in-Ok-Some.field-0-is c.in-Ok-Some.ensures.found in
    if_err _ _ c.add.result (λ f h before read. h c.args.nodes before says read) c.add.ensures.err
