-- Streams of which none stands are those of the empty log (`no_streams_shard`), in which no epoch opened yet.
use Rattle.cf_shard.proofs.Logs.{no_streams_shard}
use Rattle.cf_shard.proofs.Opening.{fresh-first}
use Rattle.cf_shard.proofs.shard.Shard.new.Goals as goal

pub invariant_of-result : goal.invariant_of-result
invariant_of-result g c = (
  no_streams_shard _ _ _ _ c.requires.streams c.requires.owner.0 c.requires.owner.1,
  fresh-first g.E.Epochs.draws _ _ c.requires.owner.1,
)
