-- The lemma `sound-of-shards`, since a source of cf_epochs gives no epoch twice (`none-twice`).
use Rattle.cf_running_ties.proofs.ShardsSeen.{sound-of-shards}
use Rattle.cf_running_ties.proofs.Sources.{none-twice}
use Rattle.cf_running_ties.proofs.laws.what_is_seen_of_shards_is_sound.Goals as goal

pub returns : goal.returns
returns c = λ shards seen all. sound-of-shards (none-twice c.told_apart.ensures) shards seen all
