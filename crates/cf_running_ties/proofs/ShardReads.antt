-- What a read of a lent shard answers is, in positions, what the stream answers that the log then has.
use Rattle.std.proofs.Common.{◌≡◌, ℕ, Bool, Option, Some, None, List, [], ◌++◌, append-nil, refl, sym, ap, ◌∙◌, subst}
use Rattle.cf_protocol.specs.Datum.{Placed}
use Rattle.cf_protocol.specs.LogEntry.{Entry}
use Rattle.cf_protocol.specs.Position.{Position}
use Rattle.cf_stream.specs.ChannelLists.{ReadsAt, ShowsAt, life_or}
use Rattle.cf_stream.specs.LogState.{IsState, life_in, opening}
use Rattle.cf_stream.specs.PublicationList.{IsRead, opened, state_of}
use Rattle.cf_model.specs.Streams.{Life}
use Rattle.cf_stream.specs.Stream.{Shown}
use Rattle.cf_model.specs.Streams.{read_of}
use Rattle.cf_stream.specs.Streams.{StreamMap, size_at, stream_of}
use Rattle.cf_machine.specs.Config.{Config}
use Rattle.cf_shard.specs.ShardLog.{entries_of_use}
use Rattle.cf_hub_moves.specs.Readings.{answered}
use Rattle.cf_hub_moves.proofs.Readings.{reading-is}
use Rattle.cf_running_ties.proofs.ShardCalls.{none-life, opened-life, shows}

abbrev of_some : Life → Option Life → Life
of_some d None = d
of_some d (Some l) = l

module _ (cfg : Config) (k : StreamMap) (log : List Entry) (is : IsState cfg.namespaces k log) (c : List ℕ) where
  abbrev life : List Entry → Option Life
  life l = life_in cfg.namespaces l c

  -- the log after a use has the stream that stood, or the one that opened
  life-used : (e : List ℕ) → life (log ++ entries_of_use k c e) ≡ Some (life_or (life log) e)
  life-used e = by_stream (stream_of k c) refl (life log) refl
    where
      by_stream : (o : Option Shown) → stream_of k c ≡ o → (l : Option Life) → life log ≡ l
          → life (log ++ opening o c e []) ≡ Some (life_or l e)
      by_stream None i l j =
          opened-life cfg k log is c e
          ∙ sym (ap (λ (z : Option Life). Some (life_or z e))
          (sym j ∙ none-life cfg k log is c (stream_of k c) (life log) (shows cfg k log is c) i))
      by_stream (Some s) i (Some l) j = ap life (append-nil log) ∙ j
      by_stream (Some s) i None j =
          absurd (let h : ShowsAt (size_at k.namespaces c) (stream_of k c) (life log) = shows cfg k log is c in
          subst (λ l. ShowsAt (size_at k.namespaces c) (Some s) l) j
          (subst (λ o. ShowsAt (size_at k.namespaces c) o (life log)) i h))

  pub reads : (since : Option Position) (p : Position) (recovered : Bool) (items : List Placed) (l : Life)
      → ReadsAt k c since p recovered items
      → life (log ++ entries_of_use k c p.epoch) ≡ Some l → answered p recovered items ≡ read_of since (state_of l)
  reads since p recovered items l r e =
      let same : life_or (life log) p.epoch ≡ l = ap (of_some (opened p.epoch)) (sym (life-used p.epoch) ∙ e) in
      reading-is l since p recovered items (subst (λ z. IsRead z since p recovered items) same
      (r.off (life_in cfg.namespaces log) is.lists))
