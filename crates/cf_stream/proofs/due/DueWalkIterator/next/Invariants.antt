-- The loop keeps that the channels due among those left are those due among all.
use Rattle.std.proofs.Common.{◌≡◌, false, length, map, string_bytes}
use Rattle.cf_stream.specs.Streams.{due_channels}
use Rattle.cf_stream.proofs.due.DueWalkIterator.next.Given as goal

abbrev pub invariant-loop-channel : goal.invariant-loop-channel
invariant-loop-channel l =
    (l.self-inside.is_quiet ≡ false) × (due_channels l.self-inside.now l.self-inside.namespaces.now
    (map (λ e. (string_bytes e.0, e.1)) l.self-inside.rest) ≡ l.fn.self)

abbrev pub decreases-loop-channel : goal.decreases-loop-channel
decreases-loop-channel l = length l.self-inside.rest
