-- Deliveries of a dispatcher, one after another.
use Rattle.std.proofs.Common.{Option, [], ◌∷◌, refl}
use Rattle.cf_hub.specs.declared.delivered.Delivered.{Delivered}
use Rattle.cf_dispatch.specs.Dispatch.{Dispatches, Delivers}

module _ {P L : Type 0} (receives : P → Option L → P → Type 0) (brings : P → L → Delivered → P → Type 0)
    (wakes : P → P → Type 0) where
  pub no_delivery : (p : P) → Dispatches receives brings wakes p p
  no_delivery p = ([], refl)

  pub one_delivery_more : (p mid q : P) → Dispatches receives brings wakes p mid → Delivers receives brings wakes mid q
      → Dispatches receives brings wakes p q
  one_delivery_more p mid q d t = (t.0 ∷ d.0, (mid, d.1, t.1))
