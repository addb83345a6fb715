-- At the walk's end no entry is due before the moment that it found, and so no stream of the map (`entries_quiet`).
use Rattle.std.proofs.Common.{◌∙◌, sym, ap}
use Rattle.cf_stream.specs.Streams.{due_channels}
use Rattle.cf_stream.proofs.Channels.{by_bytes}
use Rattle.cf_stream.proofs.Quieting.{entries_quiet}
use Rattle.cf_stream.proofs.streams.first_due.Goals as goal

pub returns : goal.returns
returns c =
    entries_quiet c.loop-channel.until c.args.namespaces.now c.args.map.now c.iter-channel-items.ensures.ordered
    (λ t early. sym (c.loop-channel.invariant t early)
    ∙ ap (λ es. due_channels t c.args.namespaces.now (by_bytes es)) c.in-None.ensures.steps.0)
