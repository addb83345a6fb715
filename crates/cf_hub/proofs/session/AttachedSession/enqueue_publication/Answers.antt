-- The text is the push's, and the queue that took it is the definition's.
use Rattle.std.proofs.Common.{rules, ◌≡◌, ℕ, List, inl, subst}
use Rattle.cf_queue.specs.OutQueue.{Text}
use Rattle.cf_model.specs.Sessions.{push}
use Rattle.cf_hub.specs.Wordings.{plain, push_text}
use Rattle.cf_hub.proofs.Notes.{with_queue, queue_fits}
use Rattle.cf_hub.proofs.Puts.{subs_of}
use Rattle.cf_hub.proofs.session.AttachedSession.enqueue_publication.Goals as goal

pub returns-in-Ok-clause-state : goal.returns-in-Ok-clause-state
returns-in-Ok-clause-state c =
    let is : c.in-Some.text ≡ push_text c.args.channel.now c.args.publication.now = search rules in
    inl (subst (λ (t : List ℕ). with_queue (subs_of c.args.self.now.subscriptions) c.push_shared.new.self
    ≡ push plain (Text t) (with_queue (subs_of c.args.self.now.subscriptions) c.args.self.now.queue)) is
    (queue_fits c.in-Some.text (subs_of c.args.self.now.subscriptions) c.args.self.now.queue c.push_shared.new.self
    c.args.self.now.limited c.in-Ok.ensures.room c.in-Ok.ensures.ok c.in-Ok.ensures.last))
