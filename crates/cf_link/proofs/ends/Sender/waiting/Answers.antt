-- Within the capacity, and no more than was sent, as the queue's rule says of its length.
use Rattle.std.proofs.Common.{◌+◌, ◌≤◌, subst, ap, ◌∙◌, length}
use Rattle.crossbeam_queue.specs.Passes.{view, ruled_capacity}
use Rattle.cf_link.specs.Link.{End}
use Rattle.cf_link.proofs.ends.Sender.waiting.Goals as goal

pub returns-clause-within : goal.returns-clause-within
returns-clause-within g c =
    subst (λ room. c.len_as.result ≤ room) (ap ruled_capacity c.deref.ensures
    ∙ ap (λ (e : End g.row.T.Denot). e.capacity) c.self.view_is) c.len_as.ensures.rule.0

pub returns-clause-sent : goal.returns-clause-sent
returns-clause-sent g c =
    let held = c.len_as.ensures.rule.1 in
    subst (λ (e : End g.row.T.Denot). length e.told + c.len_as.result ≤ length e.items) c.self.view_is
    (subst (λ n. length (view c.self.inside.pass).received + n ≤ length (view c.self.inside.pass).sent) held.1 held.2)
