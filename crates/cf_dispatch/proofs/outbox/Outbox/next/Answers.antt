-- What the deque promises of its front is carried over the view.
use Rattle.std.proofs.Common.{ap, sym, ◌∙◌}
use Rattle.cf_dispatch.proofs.outbox.Outbox.next.Goals as goal

-- the front, and nothing else, leaves what is there
pub returns-clause-front : goal.returns-clause-front
returns-clause-front c = sym (ap (λ b. b.outs.items) c.self.view_is) ∙ c.pop_front.ensures.items
