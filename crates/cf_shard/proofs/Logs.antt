-- Where no stream stands, the streams are what the empty log leaves.
use Rattle.std.proofs.Common.{◌≡◌, List, [], None, Option, refl, sym, subst}
use Rattle.std.specs.Ordering.{nat_cmp}
use Rattle.std.specs.Cmp.Lexicographic.{slice_cmp}
use Rattle.std.specs.FinMap as fin
use Rattle.atomic_table.specs.Seated.{TableId}
use Rattle.cf_protocol.specs.LogEntry.{Entry}
use Rattle.cf_protocol.specs.Settings.{NamespaceTable}
use Rattle.cf_order.specs.Passes.{OwnerState}
use Rattle.cf_stream.specs.ChannelLists.{ShowsAt}
use Rattle.cf_stream.specs.LogState.{IsState}
use Rattle.cf_stream.specs.Stream.{Shown}
use Rattle.cf_stream.specs.Streams.{StreamMap, size_at}
use Rattle.cf_shard.specs.Shard.{IsShard, no_streams}

empty_state : (t : NamespaceTable) → IsState t (no_streams t) []
empty_state t = record {
  settings = refl;
  lists = record {
    at = λ q. subst (λ (o : Option Shown). ShowsAt (size_at t q) o None)
        (sym (fin.get-empty (slice_cmp nat_cmp) q)) tt;
  };
}

pub no_streams_shard : (t : NamespaceTable) (w : TableId) (k : StreamMap) (o : OwnerState) → k ≡ no_streams t
    → o.word ≡ w → o.log ≡ [] → IsShard t w k o
no_streams_shard t w k o is named empty =
    subst (λ (k : StreamMap). IsShard t w k o) (sym is) (record {
      named = named;
      state = subst (λ (log : List Entry). IsState t (no_streams t) log) (sym empty) (empty_state t);
    })
