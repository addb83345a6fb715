-- A closed queue refuses each text so, and none as slow, by the lemma.
use Rattle.std.proofs.Common.{◌∙◌, ap, refl, sym}
use Rattle.cf_queue.proofs.Slow.{closed_not_slow}
use Rattle.cf_queue.proofs.queue.OutQueue.push_shared.Goals as goal

pub returns-then-self-clause-closed : goal.returns-then-self-clause-closed
returns-then-self-clause-closed c = ((λ _. sym (ap (λ q. q.closed) c.self.view_is) ∙ c.if-self.true), (λ _. refl))

pub returns-then-self-clause-slow : goal.returns-then-self-clause-slow
returns-then-self-clause-slow c =
    closed_not_slow c.args.text.now c.args.self.now (sym (ap (λ q. q.closed) c.self.view_is) ∙ c.if-self.true)
