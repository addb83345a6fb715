-- The line that was read is put behind the others, and the notes of epochs grow with it.
use Rattle.std.proofs.lemmas.Result.{on_ok_weaker}
use Rattle.cf_simulate.proofs.Reading.{line_added, one_more}
use Rattle.cf_simulate.proofs.schedule.Schedule.add.Goals as goal

pub returns-clause-ok : goal.returns-clause-ok
returns-clause-ok c =
    on_ok_weaker c.keep_epoch-kept.result
    (λ notes nodes before says read. one_more nodes before c.args.line.now c.args.self.now _ c.args.event says notes
    c.in_ok-push.ensures.items read)
    c.keep_epoch-kept.ensures.ok

pub returns-clause-lines : goal.returns-clause-lines
returns-clause-lines c =
    on_ok_weaker c.keep_epoch-kept.result
    (λ notes nodes before number says read.
    line_added nodes before (record { number = c.args.number; text = c.args.line }) c.args.event
    c.args.self.now.lines.items _ c.args.self.now.events.items _
    c.in_ok-push-2.ensures.items c.in_ok-push.ensures.items number says read)
    c.keep_epoch-kept.ensures.ok
