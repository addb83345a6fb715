-- A caller of `ask_since`, whose clauses are rewritten by where the client was last.
use Rattle.cf_client.proofs.client.Client.ask_from.Goals as goal

pub returns-clause-text : goal.returns-clause-text
returns-clause-text c = rw c.position-from.ensures.last at c.ask_since.ensures.text

pub returns-clause-ok : goal.returns-clause-ok
returns-clause-ok c = rw c.position-from.ensures.last at c.ask_since.ensures.ok
