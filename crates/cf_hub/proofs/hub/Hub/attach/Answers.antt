-- A caller of `open`, whose clauses it hands on.
use Rattle.cf_hub.proofs.hub.Hub.attach.Goals as goal

pub returns-in-Ok-clause-number : goal.returns-in-Ok-clause-number
returns-in-Ok-clause-number c = c.in-Some.ensures.0

pub returns-in-Ok-clause-opens : goal.returns-in-Ok-clause-opens
returns-in-Ok-clause-opens c = c.in-Ok.ensures.opens

pub returns-in-Ok-clause-known : goal.returns-in-Ok-clause-known
returns-in-Ok-clause-known c = c.in-Ok.ensures.known
