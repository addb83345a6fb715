-- What the table promises of its next session is carried over the view, with the bound that the invariant has.
use Rattle.std.proofs.Common.{ℕ, Option, sym, ap, subst, refl}
use Rattle.std.specs.Prelude.{IfNone, IfSome}
use Rattle.cf_hub.specs.Hub.{HasNoneFrom, IsNextFrom, Node}
use Rattle.cf_hub.specs.Session.{Attached}
use Rattle.cf_hub.proofs.Hubs.{bounded_view, seen}
use Rattle.cf_hub.proofs.Pinging.{next_below}
use Rattle.cf_hub.proofs.hub.Hub.next_from.Goals as goal

pub returns-clause-none : goal.returns-clause-none
returns-clause-none c =
    subst (λ (f : ℕ → Option Attached). IfNone c.next_from.result (HasNoneFrom c.args.from f))
    (sym (seen c.args.self.now c.self.inside.sessions (ap (λ (h : Node). h.sessions) (sym c.self.view_is))))
    c.next_from.ensures.none

pub returns-clause-next : goal.returns-clause-next
returns-clause-next c =
    next_below c.next_from.result c.args.from _ (bounded_view _ _ c.self.inside.sessions c.self.view_is refl
    c.self.invariant.1.below)
    (subst (λ (f : ℕ → Option Attached). IfSome c.next_from.result (λ k. IsNextFrom c.args.from k f))
    (sym (seen c.args.self.now c.self.inside.sessions (ap (λ (h : Node). h.sessions) (sym c.self.view_is))))
    c.next_from.ensures.next)
