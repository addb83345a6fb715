-- It is a part of the invariant.
use Rattle.cf_shard.proofs.shard.Shard.stays_fresh.Goals as goal

pub returns : goal.returns
returns g c = rw (← c.self.view_is) c.self.invariant.1
