-- The loop keeps that all numbers below are taken, which the invariant says of those below the count of taken ones.
use Rattle.std.proofs.Common.{ℕ, Option, ◌∙◌, is_some, sym, ap}
use Rattle.cf_hub.specs.Hub.{Node}
use Rattle.cf_hub.specs.Session.{Attached}
use Rattle.cf_hub.proofs.Hubs.{seen}
use Rattle.cf_hub.proofs.hub.Hub.free_number.Goals as goal

pub loop-number-init : goal.loop-number-init
loop-number-init c = λ j h.
    ap (λ (g : ℕ → Option Attached). is_some (g j))
    (seen c.args.self.now c.self.inside.sessions (ap (λ (h : Node). h.sessions) (sym c.self.view_is)))
    ∙ c.self.invariant.1.taken j h
