-- If the count is full the log stays: what `follow` promises, over the view.
use Rattle.std.proofs.Common.{ap, ◌∙◌}
use Rattle.cf_order.proofs.together.NamedOwner.append.Goals as goal

pub returns-then-count-ge-MOST_ENTRIES-clause-log :
    goal.returns-then-count-ge-MOST_ENTRIES-clause-log
returns-then-count-ge-MOST_ENTRIES-clause-log g c =
    ap (λ o. o.log) c.follow.ensures.owner ∙ c.self.view_is
