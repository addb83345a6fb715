-- The text is the one asked for, and the queue that took it is the definition's.
use Rattle.std.proofs.Common.{rules, ◌≡◌, ℕ, List, subst, inl}
use Rattle.cf_queue.specs.OutQueue.{Text}
use Rattle.cf_model.specs.Sessions.{push}
use Rattle.cf_hub.specs.Wordings.{plain}
use Rattle.cf_hub.proofs.Notes.{with_queue, queue_fits}
use Rattle.cf_hub.proofs.Puts.{subs_of}
use Rattle.cf_hub.proofs.session.AttachedSession.say.Goals as goal

pub returns-in-Ok-clause-state : goal.returns-in-Ok-clause-state
returns-in-Ok-clause-state c = λ t h.
    let is : c.in-Some.text ≡ t = search rules in
    inl (subst (λ (u : List ℕ). with_queue (subs_of c.args.self.now.subscriptions) c.push.new.self
    ≡ push plain (Text u) (with_queue (subs_of c.args.self.now.subscriptions) c.args.self.now.queue)) is
    (queue_fits c.in-Some.text (subs_of c.args.self.now.subscriptions) c.args.self.now.queue c.push.new.self
    c.args.self.now.limited c.in-Ok.ensures.room c.in-Ok.ensures.ok c.in-Ok.ensures.last))
