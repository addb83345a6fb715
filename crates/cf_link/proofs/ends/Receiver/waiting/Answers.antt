-- Within the capacity, as the queue's rule says of its length.
use Rattle.std.proofs.Common.{◌≤◌, subst, ap, ◌∙◌}
use Rattle.crossbeam_queue.specs.Passes.{ruled_capacity}
use Rattle.cf_link.specs.Link.{End}
use Rattle.cf_link.proofs.ends.Receiver.waiting.Goals as goal

pub returns-clause-within : goal.returns-clause-within
returns-clause-within g c =
    subst (λ room. c.len_as.result ≤ room) (ap ruled_capacity c.deref.ensures
    ∙ ap (λ (e : End g.row.T.Denot). e.capacity) c.self.view_is) c.len_as.ensures.rule.0
