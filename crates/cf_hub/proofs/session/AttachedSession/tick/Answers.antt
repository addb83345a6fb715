-- Neither a close nor a ping ends a subscription, channel by channel.
use Rattle.std.proofs.Common.{◌∙◌, [], sym, ap, refl, not, ◌&&◌, if◌then◌else◌}
use Rattle.cf_queue.specs.OutQueue.{Text, Close}
use Rattle.cf_hub.specs.declared.fate.Fate.TheVariants as fate
use Rattle.cf_hub.specs.Rows.{off_after}
use Rattle.cf_hub.specs.Session.{state_of}
use Rattle.cf_model.specs.Sessions.{is_off, no_memory}
use Rattle.cf_hub.specs.Wordings.{plain, ping_text}
use Rattle.cf_hub.proofs.States.{said_off, closed_now_off}
use Rattle.cf_hub.proofs.session.AttachedSession.tick.Goals as goal

pub returns-then-seconds-ge-PONG_SECONDS-clause-offs : goal.returns-then-seconds-ge-PONG_SECONDS-clause-offs
returns-then-seconds-ge-PONG_SECONDS-clause-offs c = λ d.
    closed_now_off [] d (Close c.code.result) (state_of c.args.self.now) (state_of c.close-open.new.self) fate.Passed
    c.close-open.ensures.state
    ∙ ap (λ f. off_after f [] d (is_off ((state_of c.args.self.now).subs d)))
    (sym (c.step.ensures.fate ∙ ap (λ t. if not t && (state_of c.close-open.new.self).closed then fate.Closed
    else fate.Passed) c.is_closed-was_closed.ensures))

pub returns-clause-offs : goal.returns-clause-offs
returns-clause-offs c = λ d.
    said_off [] d plain (Text ping_text) (Close no_memory) c.say-refused.result (state_of c.args.self.now)
    (state_of c.say-refused.new.self) fate.Passed (is_off ((state_of c.args.self.now).subs d))
    (c.say-refused.ensures.state ping_text c.ping_text.ensures) refl
    ∙ ap (λ f. off_after f [] d (is_off ((state_of c.args.self.now).subs d)))
    (sym (c.step-2.ensures.fate ∙ ap (λ t. if not t && (state_of c.say-refused.new.self).closed then fate.Closed
    else fate.Passed) c.is_closed-was_closed.ensures))
