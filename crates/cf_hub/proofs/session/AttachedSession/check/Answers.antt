-- A check that goes on leaves all subscriptions on; one that ends says so, or closes if there is no memory for the
-- text.
use Rattle.std.proofs.Common.{◌∙◌, Bool, subst, sym, ap, inl, not, ◌&&◌, if◌then◌else◌}
use Rattle.cf_queue.specs.OutQueue.{Item, Text, Close}
use Rattle.cf_hub.specs.declared.fate.Fate.TheVariants as fate
use Rattle.cf_hub.specs.declared.step.Step.{Step}
use Rattle.cf_hub.specs.Rows.{off_after}
use Rattle.cf_hub.specs.Session.{state_of}
use Rattle.cf_model.specs.Sessions.{SessionState, is_off, no_memory, checks}
use Rattle.cf_hub.specs.WantOfMemory.{OrCloses}
use Rattle.cf_hub.specs.Wordings.{plain, end_text}
use Rattle.cf_hub.proofs.Checks.{checked, ended, left, still_on}
use Rattle.cf_hub.proofs.States.{said_off, ends_off}
use Rattle.cf_hub.proofs.session.AttachedSession.check.Goals as goal

pub returns-in_default-clause-state : goal.returns-in_default-clause-state
returns-in_default-clause-state c =
    inl (checked c.args.channel.now c.args.top c.args.self.now.subscriptions c.check_at-checked.new.subscriptions
    c.args.self.now.queue c.check_at-checked.result c.check_at-checked.ensures.after
    c.check_at-checked.ensures.answer c.in_default.not-Ended)

pub returns-in_default-clause-offs : goal.returns-in_default-clause-offs
returns-in_default-clause-offs c = λ d.
    still_on c.args.channel.now c.args.top c.args.self.now.subscriptions c.check_at-checked.new.subscriptions
    c.args.self.now.queue c.check_at-checked.result c.check_at-checked.ensures.after
    c.check_at-checked.ensures.answer d
    ∙ ap (λ (t : Step). off_after t.fate c.args.channel.now d (is_off ((state_of c.args.self.now).subs d)))
    (sym c.passed.ensures)

pub returns-in-Ended-clause-state : goal.returns-in-Ended-clause-state
returns-in-Ended-clause-state c =
    subst (λ (r : Bool). OrCloses r plain (checks plain c.args.channel.now c.args.top) (state_of c.args.self.now)
    (state_of c.say-refused.new.self)) (sym c.step.ensures.refused)
    (ended c.args.channel.now c.args.top c.args.self.now.subscriptions c.check_at-checked.new.subscriptions
    c.args.self.now.queue c.check_at-checked.result c.check_at-checked.ensures.after
    c.check_at-checked.ensures.answer c.in-Ended.is c.say-refused.result (state_of c.leave.new.self)
    (state_of c.say-refused.new.self) c.leave.ensures.state
    (c.say-refused.ensures.state (end_text c.args.channel.now) c.end_text.ensures))

pub returns-in-Ended-clause-offs : goal.returns-in-Ended-clause-offs
returns-in-Ended-clause-offs c = λ d.
    said_off c.args.channel.now d plain (Text (end_text c.args.channel.now)) (Close no_memory) c.say-refused.result
    (state_of c.leave.new.self) (state_of c.say-refused.new.self) fate.Ended
    (is_off ((state_of c.args.self.now).subs d))
    (c.say-refused.ensures.state (end_text c.args.channel.now) c.end_text.ensures)
    (ap (λ (s : SessionState _ Item). is_off (s.subs d))
    (left c.args.channel.now c.args.top c.args.self.now.subscriptions c.check_at-checked.new.subscriptions
    c.args.self.now.queue c.check_at-checked.result c.check_at-checked.ensures.after
    c.check_at-checked.ensures.answer c.in-Ended.is (state_of c.leave.new.self) c.leave.ensures.state)
    ∙ ends_off c.args.channel.now d (state_of c.args.self.now))
    ∙ ap (λ f. off_after f c.args.channel.now d (is_off ((state_of c.args.self.now).subs d)))
    (sym (c.step.ensures.fate ∙ ap (λ t. if not t && (state_of c.say-refused.new.self).closed then fate.Closed
    else fate.Ended) (c.is_closed-was_closed.ensures
    ∙ ap (λ (s : SessionState _ Item). s.closed) (sym c.leave.ensures.state))))
