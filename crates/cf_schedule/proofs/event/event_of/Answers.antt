-- By the first word: each arm is the reader of that kind of line, and a word that is none is refused.
use Rattle.std.proofs.Common.{codes, rules, ◌∷◌, ◌++◌, Err, refl, sym, subst, ◌∙◌}
use Rattle.cf_schedule.specs.Word.{IsClientName, IsChannelName}
use Rattle.cf_schedule.proofs.Lines.{no_break, no_forget, no_take, no_word}
use Rattle.cf_schedule.proofs.Refusals.{answers_at, none_at, refused_name}
use Rattle.cf_schedule.proofs.event.event_of.Goals as goal

pub returns-in-epoch : goal.returns-in-epoch
returns-in-epoch c =
    answers_at c.args.nodes c.args.line.now c.in-Some.word.now (codes "epoch") c.in-Some.rest.now c.epoch.result
    c.in-Some.ensures c.in-epoch.is (c.epoch.ensures c.args.nodes)

pub returns-in-ask : goal.returns-in-ask
returns-in-ask c =
    answers_at c.args.nodes c.args.line.now c.in-Some.word.now c.in-Some.word.now c.in-Some.rest.now c.in_channel.result
    c.in-Some.ensures refl (c.in_channel.ensures c.args.nodes c.in-ask.is)

pub returns-in-publish : goal.returns-in-publish
returns-in-publish c =
    answers_at c.args.nodes c.args.line.now c.in-Some.word.now (codes "publish") c.in-Some.rest.now c.publish.result
    c.in-Some.ensures c.in-publish.is (c.publish.ensures c.args.nodes)

pub returns-in-publishkey : goal.returns-in-publishkey
returns-in-publishkey c =
    answers_at c.args.nodes c.args.line.now c.in-Some.word.now (codes "publishkey") c.in-Some.rest.now
    c.publish-in-publishkey.result c.in-Some.ensures c.in-publishkey.is (c.publish-in-publishkey.ensures c.args.nodes)

pub returns-in-trim : goal.returns-in-trim
returns-in-trim c =
    answers_at c.args.nodes c.args.line.now c.in-Some.word.now (codes "trim") c.in-Some.rest.now c.trim.result
    c.in-Some.ensures c.in-trim.is (c.trim.ensures c.args.nodes)

pub returns-in-put : goal.returns-in-put
returns-in-put c =
    answers_at c.args.nodes c.args.line.now c.in-Some.word.now (codes "put") c.in-Some.rest.now c.put.result
    c.in-Some.ensures c.in-put.is (c.put.ensures c.args.nodes)

pub returns-in-putkey : goal.returns-in-putkey
returns-in-putkey c =
    answers_at c.args.nodes c.args.line.now c.in-Some.word.now (codes "putkey") c.in-Some.rest.now
    c.put-in-putkey.result c.in-Some.ensures c.in-putkey.is (c.put-in-putkey.ensures c.args.nodes)

pub returns-in-size : goal.returns-in-size
returns-in-size c =
    answers_at c.args.nodes c.args.line.now c.in-Some.word.now (codes "size") c.in-Some.rest.now c.size.result
    c.in-Some.ensures c.in-size.is (c.size.ensures c.args.nodes)

pub returns-in-list : goal.returns-in-list
returns-in-list c =
    answers_at c.args.nodes c.args.line.now c.in-Some.word.now (codes "list") c.in-Some.rest.now c.list.result
    c.in-Some.ensures c.in-list.is (c.list.ensures c.args.nodes)

pub returns-in-connect : goal.returns-in-connect
returns-in-connect c =
    answers_at c.args.nodes c.args.line.now c.in-Some.word.now (codes "connect") c.in-Some.rest.now c.connect.result
    c.in-Some.ensures c.in-connect.is c.connect.ensures

pub returns-in-deliver : goal.returns-in-deliver
returns-in-deliver c =
    answers_at c.args.nodes c.args.line.now c.in-Some.word.now (codes "deliver") c.in-Some.rest.now c.deliver.result
    c.in-Some.ensures c.in-deliver.is c.deliver.ensures

pub returns-in-restart : goal.returns-in-restart
returns-in-restart c =
    answers_at c.args.nodes c.args.line.now c.in-Some.word.now (codes "restart") c.in-Some.rest.now c.restart.result
    c.in-Some.ensures c.in-restart.is c.restart.ensures

pub returns-in_default-word : goal.returns-in_default-word
returns-in_default-word c =
    let d = c.in_default-word in
    none_at c.args.nodes c.args.line.now c.in-Some.word.now c.in-Some.rest.now c.in-Some.ensures
    (no_word c.args.nodes c.in-Some.word.now c.in-Some.rest.now c.in-Some.ensures.word (
      d.not-epoch,
      d.not-connect,
      d.not-ask,
      d.not-askfrom,
      d.not-read,
      d.not-finish,
      d.not-publish,
      d.not-publishkey,
      d.not-put,
      d.not-putkey,
      d.not-deliver,
      d.not-take,
      d.not-break,
      d.not-leave,
      d.not-trim,
      d.not-forget,
      d.not-size,
      d.not-restart,
      d.not-check,
      d.not-list,
    ))

pub returns-in-Ok : goal.returns-in-Ok
returns-in-Ok c = (search rules, c.in-Some.ensures.whole ∙ (λ i. c.in-take.is i ++ 32 ∷ sym c.in-Ok.ensures.ok i))

pub returns-in-Err : goal.returns-in-Err
returns-in-Err c =
    answers_at c.args.nodes c.args.line.now c.in-Some.word.now (codes "take") c.in-Some.rest.now (Err c.in-Err.fault)
    c.in-Some.ensures c.in-take.is
    (refused_name _ _ _ c.in-Err.ensures.unreadable
    (λ not_name. no_take c.args.nodes c.in-Some.rest.now (λ x h. not_name (subst IsClientName (sym h.1) h.0))))

pub returns-in-Ok-read : goal.returns-in-Ok-read
returns-in-Ok-read c =
    (search rules, c.in-Some.ensures.whole ∙ (λ i. c.in-break.is i ++ 32 ∷ sym c.in-Ok-read.ensures.ok i))

pub returns-in-Err-read : goal.returns-in-Err-read
returns-in-Err-read c =
    answers_at c.args.nodes c.args.line.now c.in-Some.word.now (codes "break") c.in-Some.rest.now
    (Err c.in-Err-read.fault) c.in-Some.ensures c.in-break.is
    (refused_name _ _ _ c.in-Err-read.ensures.unreadable
    (λ not_name. no_break c.args.nodes c.in-Some.rest.now (λ x h. not_name (subst IsClientName (sym h.1) h.0))))

pub returns-in-Ok-read-2 : goal.returns-in-Ok-read-2
returns-in-Ok-read-2 c =
    (search rules, c.in-Some.ensures.whole ∙ (λ i. c.in-forget.is i ++ 32 ∷ sym c.in-Ok-read-2.ensures.ok i))

pub returns-in-Err-read-2 : goal.returns-in-Err-read-2
returns-in-Err-read-2 c =
    answers_at c.args.nodes c.args.line.now c.in-Some.word.now (codes "forget") c.in-Some.rest.now
    (Err c.in-Err-read-2.fault) c.in-Some.ensures c.in-forget.is
    (refused_name _ _ _ c.in-Err-read-2.ensures.unreadable
    (λ not_name. no_forget c.args.nodes c.in-Some.rest.now (λ x h. not_name (subst IsChannelName (sym h.1) h.0))))
