-- What is said or closes ends no subscription (`said_off`), channel by channel.
use Rattle.std.proofs.Common.{◌∙◌, [], string_bytes, sym, ap, refl, not, ◌&&◌, if◌then◌else◌}
use Rattle.cf_queue.specs.OutQueue.{Text, Close}
use Rattle.cf_hub.specs.declared.fate.Fate.TheVariants as fate
use Rattle.cf_hub.specs.Rows.{off_after}
use Rattle.cf_hub.specs.Session.{state_of}
use Rattle.cf_model.specs.Sessions.{is_off, no_memory}
use Rattle.cf_hub.specs.Wordings.{plain}
use Rattle.cf_hub.proofs.States.{said_off}
use Rattle.cf_hub.proofs.session.AttachedSession.tell.Goals as goal

pub returns-clause-offs : goal.returns-clause-offs
returns-clause-offs c = λ d.
    said_off [] d plain (Text (string_bytes c.args.text)) (Close no_memory) c.say-refused.result
    (state_of c.args.self.now) (state_of c.say-refused.new.self) fate.Passed
    (is_off ((state_of c.args.self.now).subs d))
    (c.say-refused.ensures.state (string_bytes c.args.text) c.shared.ensures) refl
    ∙ ap (λ f. off_after f [] d (is_off ((state_of c.args.self.now).subs d)))
    (sym (c.step.ensures.fate ∙ ap (λ t. if not t && (state_of c.say-refused.new.self).closed then fate.Closed
    else fate.Passed) c.is_closed-was_closed.ensures))
