-- What the fields keep is said of the view, for those who call from outside.
use Rattle.std.proofs.Common.{refl}
use Rattle.cf_hub.proofs.Hubs.{agrees_view, bounded_view}
use Rattle.cf_hub.proofs.hub.Hub.invariant.Goals as goal

pub returns-clause-agrees : goal.returns-clause-agrees
returns-clause-agrees c = agrees_view _ _ c.self.inside.sessions c.self.view_is refl c.self.invariant.0

pub returns-clause-bounded : goal.returns-clause-bounded
returns-clause-bounded c = bounded_view _ _ c.self.inside.sessions c.self.view_is refl c.self.invariant.1.below
