-- What the map leaves is each entry, ticked by the seconds of its channel, if it stays.
use Rattle.std.proofs.Common.{rules, string_bytes}
use Rattle.cf_stream.specs.Stream.{stays, ticked}
use Rattle.cf_stream.specs.Streams.{seconds_at}
use Rattle.cf_stream.proofs.Ticks.{map_filter_same_pairs}
use Rattle.cf_stream.proofs.streams.tick_in.Goals as goal

pub returns-clause-entries : goal.returns-clause-entries
returns-clause-entries c =
    map_filter_same_pairs _ (λ k. ticked c.args.now (seconds_at c.args.namespaces.now (string_bytes k)))
    (stays c.args.now) _ (λ k v b w f' t. search rules) _ _ c.retain.ensures.filtered
