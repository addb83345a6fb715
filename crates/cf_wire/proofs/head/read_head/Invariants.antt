-- The loop keeps that the bytes so far came from the stream, and that no blank line ends in them.
use Rattle.std.proofs.Common.{◌+◌, ◌-◌, length}
use Rattle.std.specs.Io.KnownBytes.{Consumes}
use Rattle.cf_wire.specs.Heads.{HasNoEnd, longest_head}
use Rattle.cf_wire.proofs.head.read_head.Given as goal

abbrev pub invariant-loop-chunk : goal.invariant-loop-chunk
invariant-loop-chunk g l =
    Consumes (g.S.Read.remaining l.initial.stream) (g.S.Read.remaining l.stream) l.head.items
    × HasNoEnd l.head.items (length l.head.items + 1)

abbrev pub decreases-loop-chunk : goal.decreases-loop-chunk
decreases-loop-chunk g l = longest_head - length l.head.items
