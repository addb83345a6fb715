-- A caller of presence's `stats`, whose clauses it hands on.
use Rattle.cf_shard.proofs.shard.Shard.stats.Goals as goal

pub returns-clause-clients : goal.returns-clause-clients
returns-clause-clients g c = rw (← c.self.view_is) c.stats.ensures.clients

pub returns-clause-users : goal.returns-clause-users
returns-clause-users g c = rw (← c.self.view_is) c.stats.ensures.users
