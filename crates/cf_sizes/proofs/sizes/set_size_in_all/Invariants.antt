-- The loop keeps that all shards so far took the size, or that one of them is full, and that the others' passes stay.
use Rattle.cf_sizes.proofs.Sizing.{IsUpTo}
use Rattle.cf_sizes.proofs.sizes.set_size_in_all.Given as goal

abbrev pub invariant-loop-shard : goal.invariant-loop-shard
invariant-loop-shard g l = IsUpTo l.initial.passes l.passes l.name l.size l.shard l.all
