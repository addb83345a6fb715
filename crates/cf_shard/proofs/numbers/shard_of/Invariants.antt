-- The loop keeps that the number is the sum of the bytes so far, modulo 16.
use Rattle.std.proofs.Common.{◌≡◌, ◌<◌, ◌%◌, sum, take}
use Rattle.cf_shard.proofs.numbers.shard_of.Given as goal

abbrev pub invariant-loop-byte : goal.invariant-loop-byte
invariant-loop-byte l =
    (l.number < 16) × (l.byte-items ≡ l.channel) × (l.number ≡ sum (take l.byte-index l.byte-items) % 16)
