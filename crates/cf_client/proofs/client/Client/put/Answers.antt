-- A caller of `put_key`, whose text it hands on.
use Rattle.cf_client.proofs.client.Client.put.Goals as goal

pub returns-clause-text : goal.returns-clause-text
returns-clause-text c = c.put_key.ensures.text
