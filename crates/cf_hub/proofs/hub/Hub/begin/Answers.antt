-- A caller of `start`, whose clause it hands on.
use Rattle.cf_hub.proofs.hub.Hub.begin.Goals as goal

pub returns-in-Ok-clause-ok : goal.returns-in-Ok-clause-ok
returns-in-Ok-clause-ok c = c.in-Ok.ensures.ok
