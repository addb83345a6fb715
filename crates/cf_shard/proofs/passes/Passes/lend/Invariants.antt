use Rattle.std.proofs.Common.{◌≡◌, map, take}
use Rattle.cf_shard.specs.Shards.{lent}
use Rattle.cf_shard.proofs.passes.Passes.lend.Given as goal

abbrev pub invariant-loop-shard : goal.invariant-loop-shard
invariant-loop-shard g l = (l.self ≡ l.initial.self) × (l.list.items ≡ map lent (take l.shard l.initial.self))
