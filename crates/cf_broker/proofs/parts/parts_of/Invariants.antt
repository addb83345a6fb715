-- The loop keeps that there are as many parts as sources of epochs so far.
use Rattle.std.proofs.Common.{◌≡◌, vec_len, length}
use Rattle.cf_broker.proofs.parts.parts_of.Given as goal

abbrev pub invariant-loop-source : goal.invariant-loop-source
invariant-loop-source g l = vec_len l.parts ≡ length l.yielded
