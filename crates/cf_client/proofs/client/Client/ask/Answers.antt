-- A caller of `ask_since`, whose clauses it hands on.
use Rattle.cf_client.proofs.client.Client.ask.Goals as goal

pub returns-clause-text : goal.returns-clause-text
returns-clause-text c = c.ask_since.ensures.text

pub returns-clause-ok : goal.returns-clause-ok
returns-clause-ok c = c.ask_since.ensures.ok
