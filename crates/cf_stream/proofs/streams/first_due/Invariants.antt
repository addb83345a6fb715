use Rattle.std.proofs.Common.{◌≡◌, ◌<◌, ℕ}
use Rattle.cf_stream.specs.Streams.{due_channels}
use Rattle.cf_stream.proofs.Channels.{by_bytes}
use Rattle.cf_stream.proofs.streams.first_due.Given as goal

-- before that moment nothing is due of the streams that were walked over
abbrev pub invariant-loop-channel : goal.invariant-loop-channel
invariant-loop-channel l =
    (t : ℕ) → t < l.until → due_channels t l.namespaces (by_bytes l.channel-iterator)
    ≡ due_channels t l.namespaces (by_bytes l.map.entries)
