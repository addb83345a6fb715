-- The count of refusals isn't 0: read from the view.
use Rattle.std.proofs.Common.{◌==◌, ap, not}
use Rattle.cf_hub.specs.Hub.{Node}
use Rattle.cf_hub.proofs.hub.Hub.short.Goals as goal

pub returns : goal.returns
returns c = ap (λ (h : Node). not (h.refused == 0)) c.self.view_is
