-- Without a subscription that is ready nothing changes; with one, the answer is said and the subscription put, or left
-- at its
-- end.
use Rattle.std.proofs.Common.{◌∙◌, sym, ap, refl, not, ◌&&◌, if◌then◌else◌}
use Rattle.cf_queue.specs.OutQueue.{Item}
use Rattle.cf_hub.specs.declared.fate.Fate.TheVariants as fate
use Rattle.cf_hub.specs.Rows.{off_after}
use Rattle.cf_hub.specs.Session.{state_of}
use Rattle.cf_model.specs.Sessions.{SessionState, is_off}
use Rattle.cf_hub.specs.Reply.{finish_texts}
use Rattle.cf_hub.specs.declared.step.Step.{Step}
use Rattle.cf_hub.specs.Subscriptions.{progress_at}
use Rattle.cf_hub.proofs.Finishing.{finish_state, finish_offs, not_ready}
use Rattle.cf_hub.proofs.Notes.{with_queue}
use Rattle.cf_hub.proofs.Puts.{same_state, subs_of}
use Rattle.cf_hub.proofs.Replies.{answered}
use Rattle.cf_hub.proofs.session.AttachedSession.finish.Goals as goal

pub returns-in-None-clause-state : goal.returns-in-None-clause-state
returns-in-None-clause-state c =
    not_ready c.none.result.refused c.args.channel.now (state_of c.args.self.now)
    (with_queue (subs_of c.answer_at.new.subscriptions) c.args.self.now.queue)
    ((state_of c.args.self.now).subs c.args.channel.now) c.in-None.ensures.answered.1
    (same_state c.args.self.now.subscriptions c.answer_at.new.subscriptions c.args.channel.now c.args.self.now.queue
    c.in-None.ensures.answered.0)

pub returns-in-None-clause-offs : goal.returns-in-None-clause-offs
returns-in-None-clause-offs c = λ d.
    ap (λ (s : SessionState _ Item). is_off (s.subs d))
    (same_state c.args.self.now.subscriptions c.answer_at.new.subscriptions c.args.channel.now c.args.self.now.queue
    c.in-None.ensures.answered.0)
    ∙ ap (λ (t : Step). off_after t.fate c.args.channel.now d (is_off ((state_of c.args.self.now).subs d)))
    (sym c.none.ensures)

pub returns-in-Some-clause-state : goal.returns-in-Some-clause-state
returns-in-Some-clause-state c =
    finish_state c.in-Some.answered c.args.channel.now (state_of c.args.self.now) (state_of c.leave_if.new.self)
    (answered c.in-Some.answered c.args.channel.now c.args.self.now.subscriptions c.answer_at.new.subscriptions
    c.args.self.now.queue c.in-Some.ensures.answered.1
    (progress_at c.args.self.now.subscriptions c.args.channel.now) refl c.in-Some.ensures.answered.0
    (state_of c.leave_if.new.self) c.in-Some.answered.released.insufficient refl c.leave_if.ensures.state)
    c.enqueue_finish.result.refused (state_of c.enqueue_finish.new.self) c.in-Some.answered.released.insufficient
    refl c.enqueue_finish.ensures.state

pub returns-in-Some-clause-offs : goal.returns-in-Some-clause-offs
returns-in-Some-clause-offs c = λ d.
    finish_offs c.in-Some.answered c.args.channel.now (state_of c.args.self.now) (state_of c.leave_if.new.self)
    (answered c.in-Some.answered c.args.channel.now c.args.self.now.subscriptions c.answer_at.new.subscriptions
    c.args.self.now.queue c.in-Some.ensures.answered.1
    (progress_at c.args.self.now.subscriptions c.args.channel.now) refl c.in-Some.ensures.answered.0
    (state_of c.leave_if.new.self) c.in-Some.answered.released.insufficient refl c.leave_if.ensures.state)
    c.enqueue_finish.result.refused (state_of c.enqueue_finish.new.self) c.in-Some.answered.released.insufficient
    refl
    (finish_texts c.args.channel.now c.in-Some.answered) c.enqueue_finish.ensures.state d
    ∙ ap (λ f. off_after f c.args.channel.now d (is_off ((state_of c.args.self.now).subs d)))
    (sym (c.enqueue_finish.ensures.fate ∙ ap (λ t. if not t
    && (state_of c.enqueue_finish.new.self).closed then fate.Closed
    else (if c.in-Some.answered.released.insufficient then fate.Ended else fate.Passed))
    c.is_closed-was_closed.ensures))
