-- By what the subscription does with the delivery (`meeting`), an arm each; what isn't ended leaves the state as the
-- definition has it.
use Rattle.std.proofs.Common.{rules, ◌≡◌, Bool, sym, subst, ◌∙◌}
use Rattle.cf_recovery.specs.declared.verdict.Verdict.TheVariants as answer
use Rattle.cf_hub.specs.declared.subscription.Meets.TheVariants as meets
use Rattle.cf_model.specs.Sessions.{comes}
use Rattle.cf_hub.specs.WantOfMemory.{Serves}
use Rattle.cf_hub.specs.Subscriptions.{meeting, progress_at}
use Rattle.cf_hub.specs.Session.{state_of}
use Rattle.cf_hub.specs.Wordings.{at_offset, delivering, end_text}
use Rattle.cf_hub.proofs.Puts.{dropped, ended, kept, not_given_up, passed, unasked}
use Rattle.cf_hub.proofs.session.AttachedSession.deliver_here.Goals as goal

pub returns-in-Nothing-clause-state : goal.returns-in-Nothing-clause-state
returns-in-Nothing-clause-state c =
    let met : meeting (at_offset c.args.epoch.now c.args.publication.now)
    (progress_at c.args.self.now.subscriptions c.args.channel.now) ≡ meets.Nothing = search rules in
    unasked c.args.self.now.subscriptions c.take_at-meets.new.subscriptions c.args.channel.now c.args.self.now.queue
    c.args.epoch.now c.args.publication.now c.none.result.refused met
    (not_given_up c.take_at-meets.result meets.Nothing (c.take_at-meets.ensures.meets ∙ met) (λ e. cc)
    c.take_at-meets.ensures.after)

pub returns-in-Buffer-clause-state : goal.returns-in-Buffer-clause-state
returns-in-Buffer-clause-state c =
    let met : meeting (at_offset c.args.epoch.now c.args.publication.now)
    (progress_at c.args.self.now.subscriptions c.args.channel.now) ≡ meets.Buffer = search rules in
    kept c.args.self.now.subscriptions c.take_at-meets.new.subscriptions c.args.channel.now c.args.self.now.queue
    c.args.epoch.now c.args.publication.now c.take_at-meets.result met c.take_at-meets.ensures.after

pub returns-in-On-Drop-clause-state : goal.returns-in-On-Drop-clause-state
returns-in-On-Drop-clause-state c =
    let met : meeting (at_offset c.args.epoch.now c.args.publication.now)
    (progress_at c.args.self.now.subscriptions c.args.channel.now) ≡ meets.On answer.Drop = search rules in
    dropped c.args.self.now.subscriptions c.take_at-meets.new.subscriptions c.args.channel.now c.args.self.now.queue
    c.args.epoch.now c.args.publication.now c.none-in-On-Drop.result.refused met
    (not_given_up c.take_at-meets.result (meets.On answer.Drop) (c.take_at-meets.ensures.meets ∙ met) (λ e. cc)
    c.take_at-meets.ensures.after)

pub returns-in-On-Pass-clause-state : goal.returns-in-On-Pass-clause-state
returns-in-On-Pass-clause-state c =
    let met : meeting (at_offset c.args.epoch.now c.args.publication.now)
    (progress_at c.args.self.now.subscriptions c.args.channel.now) ≡ meets.On answer.Pass = search rules in
    subst (λ (refused : Bool). Serves refused (delivering c.args.publication.now) c.args.channel.now
    (comes (delivering c.args.publication.now) c.args.channel.now
    (at_offset c.args.epoch.now c.args.publication.now)) (state_of c.args.self.now)
    (state_of c.enqueue_publication-refused.new.self)) (sym c.step.ensures.refused)
    (passed c.args.self.now.subscriptions c.take_at-meets.new.subscriptions c.args.channel.now c.args.self.now.queue
    c.args.epoch.now c.args.publication.now c.enqueue_publication-refused.result
    (state_of c.enqueue_publication-refused.new.self) met
    (not_given_up c.take_at-meets.result (meets.On answer.Pass) (c.take_at-meets.ensures.meets ∙ met) (λ e. cc)
    c.take_at-meets.ensures.after)
    c.enqueue_publication-refused.ensures.state)

pub returns-in-On-Insufficient-clause-state : goal.returns-in-On-Insufficient-clause-state
returns-in-On-Insufficient-clause-state c =
    let met : meeting (at_offset c.args.epoch.now c.args.publication.now)
    (progress_at c.args.self.now.subscriptions c.args.channel.now) ≡ meets.On answer.Insufficient = search rules in
    subst (λ (refused : Bool). Serves refused (delivering c.args.publication.now) c.args.channel.now
    (comes (delivering c.args.publication.now) c.args.channel.now
    (at_offset c.args.epoch.now c.args.publication.now)) (state_of c.args.self.now)
    (state_of c.say-refused.new.self)) (sym c.step-in-On-Insufficient.ensures.refused)
    (ended c.args.self.now.subscriptions c.take_at-meets.new.subscriptions c.args.channel.now c.args.self.now.queue
    c.args.epoch.now c.args.publication.now c.say-refused.result
    (state_of c.leave.new.self) (state_of c.say-refused.new.self) met
    (not_given_up c.take_at-meets.result (meets.On answer.Insufficient) (c.take_at-meets.ensures.meets ∙ met) (λ e. cc)
    c.take_at-meets.ensures.after)
    c.leave.ensures.state (c.say-refused.ensures.state (end_text c.args.channel.now) c.end_text.ensures))
