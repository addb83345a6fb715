-- The loop keeps that each round made one copy of the publication.
use Rattle.std.proofs.Common.{◌≡◌, vec_len}
use Rattle.cf_shard.specs.Delivery.{AreCopies}
use Rattle.cf_shard.proofs.delivery.copies_of.Given as goal

abbrev pub invariant-loop : goal.invariant-loop
invariant-loop l = (vec_len l.copies ≡ l.counter) × AreCopies l.channel l.publication.datum l.copies.items
