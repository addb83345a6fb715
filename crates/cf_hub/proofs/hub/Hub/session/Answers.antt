-- What the table promises of the place is carried over the view.
use Rattle.std.proofs.Common.{◌∙◌, ℕ, Option, option_map, sym, ap}
use Rattle.cf_hub.specs.Hub.{Node}
use Rattle.cf_hub.specs.Session.{Attached, attached_of}
use Rattle.cf_hub.proofs.Hubs.{seen}
use Rattle.cf_hub.proofs.hub.Hub.session.Goals as goal

pub returns : goal.returns
returns c = ap (option_map attached_of) c.get.ensures
    ∙ ap (λ (g : ℕ → Option Attached). g c.args.number)
    (sym (seen c.args.self.now c.self.inside.sessions (ap (λ (h : Node). h.sessions) (sym c.self.view_is))))
