-- A shard's log stands beside the machine's broker.
use Rattle.std.proofs.Common.{◌≡◌, ℕ, ℤ, ◌-◌, Bool, true, Option, Some, None, List, [], ◌∷◌, ◌++◌, length, refl, sym}
use Rattle.std.proofs.Common.{ap, subst, ◌∙◌}
use Rattle.std.specs.Option.{option_map}
use Rattle.cf_protocol.specs.Datum.{Datum, Placed}
use Rattle.cf_protocol.specs.Position.{Position}
use Rattle.cf_protocol.specs.Note.{placed_from}
use Rattle.cf_protocol.specs.LogEntry.{Entry}
use Rattle.cf_protocol.specs.Settings.{NamespaceTable, settings_of}
use Rattle.cf_model.specs.Streams.{StreamState}
use Rattle.cf_stream.specs.ChannelLists.{stands_at as life_stands}
use Rattle.cf_stream.specs.LogState.{life_in, sizes_in}
use Rattle.cf_model.specs.Streams.{read_of}
use Rattle.cf_stream.specs.PublicationList.{IsRead, IsListed, state_of}
use Rattle.cf_model.specs.Streams.{Life}
use Rattle.cf_machine.specs.Config.{Config}
use Rattle.cf_machine.specs.LooseRun.{Happening}
use Rattle.cf_machine.specs.PublicationList.{Broker, StandsOver, is_repeat, repeats, stands_at}
use Rattle.cf_machine.specs.World.{World, start}
use Rattle.cf_machine.proofs.Headline.{streams_stand, keys_beside}
use Rattle.cf_machine.specs.Lives.{life_by}
use Rattle.cf_running.specs.ShardLogs.{IsTied, IsIn, IsApart, MayGain, logs_after, Goes, IsStream, ReadsAs, ListsAs}
use Rattle.cf_running.specs.Server as server
use Rattle.cf_running.proofs.Gaining.{size-unset, gain, Gains, gained-world, gains, keeps-mine, keeps-other}

-- at the start
pub starts : (mine : List ℕ → Bool) (sizes : NamespaceTable) → IsTied mine sizes [] start.broker
starts mine sizes = record {
  waits = refl;
  log_of = record {
    life = λ c own. refl;
    size = λ c own. size-unset (settings_of sizes c);
    unopened = λ c e own h. refl;
  };
}

module _ (cfg : Config) (its : List ℕ → Bool) (past : List Happening) (log : List Entry) (x : Entry)
    (t : IsTied its cfg.namespaces log (logs_after cfg past).broker) (own : IsIn its x) (may : MayGain cfg log x) where
  -- what an entry needs
  its_gains : Gains cfg its (sizes_in cfg.namespaces log) (logs_after cfg past) x
  its_gains = gains cfg its log (logs_after cfg past) t.waits (streams_stand cfg past) (keys_beside cfg past) t.log_of x
      own may

  gone : (P : Broker → Type 0) → P (gain cfg its x (logs_after cfg past).broker)
      → Goes cfg (logs_after cfg past) its x P
  gone P h = record {
    allowed = its_gains.allowed;
    leads = subst (λ (v : World). P v.broker) (sym (gained-world cfg its (logs_after cfg past) x its_gains.allowed)) h;
  }

  pub tied-gains : Goes cfg (logs_after cfg past) its x (IsTied its cfg.namespaces (log ++ x ∷ []))
  tied-gains =
      gone (IsTied its cfg.namespaces (log ++ x ∷ []))
      (record {
        waits = its_gains.waits;
        log_of = keeps-mine cfg its log (logs_after cfg past) x its_gains t.log_of;
      })

  -- seen from another shard
  pub tied-other : (mine : List ℕ → Bool) (other : List Entry)
      → IsTied mine cfg.namespaces other (logs_after cfg past).broker → IsApart mine its x
      → Goes cfg (logs_after cfg past) its x (IsTied mine cfg.namespaces other)
  tied-other mine other u apart =
      gone (IsTied mine cfg.namespaces other) (record {
        waits = its_gains.waits;
        log_of = keeps-other cfg its (sizes_in cfg.namespaces log) (logs_after cfg past) x its_gains mine other u.log_of
            apart;
      })

pub tied-apart : (cfg : Config) (mine its : List ℕ → Bool) (past : List Happening) (log other : List Entry) (x : Entry)
    → IsTied mine cfg.namespaces log (logs_after cfg past).broker
    → IsTied its cfg.namespaces other (logs_after cfg past).broker
    → IsIn its x → IsApart mine its x → MayGain cfg other x
    → Goes cfg (logs_after cfg past) its x (IsTied mine cfg.namespaces log)
tied-apart cfg mine its past log other x t u own apart may = tied-other cfg its past other x u own may mine log t apart

-- ---- answers

pub stream_of : (lists : List ℕ → List Datum) (keys : List ℕ → List (List ℕ)) (o : Option StreamState) (l : Life)
    → StandsOver lists o → life_by lists keys o ≡ Some l
    → (o ≡ Some (state_of l)) × (lists l.epoch ≡ l.list) × (keys l.epoch ≡ l.keys)
stream_of lists keys None l k e = absurd (cc)
stream_of lists keys (Some s) l k e =
    let of_some : Option Life → Life = λ o. elim o [ None ↦ l | Some z ↦ z ] in
    let same : ◌≡◌ {A = Life} (record { epoch = s.epoch; list = lists s.epoch; keys = keys s.epoch; held = s.held }) l =
    ap of_some e in (
      ap (λ (n : ℕ). Some (record { epoch = s.epoch; top = n; held = s.held })) k.0
          ∙ ap (λ (z : Life). Some (state_of z)) same,
      ap lists (sym (ap (λ (z : Life). z.epoch) same)) ∙ ap (λ (z : Life). z.list) same,
      ap keys (sym (ap (λ (z : Life). z.epoch) same)) ∙ ap (λ (z : Life). z.keys) same,
    )

pub its_stream : (cfg : Config) (mine : List ℕ → Bool) (past : List Happening) (log : List Entry) (c : List ℕ)
    (l : Life)
    → IsTied mine cfg.namespaces log (logs_after cfg past).broker → mine c ≡ true
    → life_in cfg.namespaces log c ≡ Some l → IsStream (logs_after cfg past).broker c l
its_stream cfg mine past log c l t own e =
    let b : Broker = (logs_after cfg past).broker in
    let f = stream_of (b.lists c) (b.keys c) (b.streams c) l (streams_stand cfg past c) (t.log_of.life c own ∙ e) in
    record { stream = f.0; list = f.1; keys = f.2 }

its_none : (lists : List ℕ → List Datum) (keys : List ℕ → List (List ℕ)) (o : Option StreamState)
    → life_by lists keys o ≡ None → o ≡ None
its_none lists keys None e = refl
its_none lists keys (Some s) e = absurd (cc)

-- where the stream stands
pub its_position : (cfg : Config) (mine : List ℕ → Bool) (past : List Happening) (log : List Entry) (c : List ℕ)
    → IsTied mine cfg.namespaces log (logs_after cfg past).broker → mine c ≡ true
    → option_map life_stands (life_in cfg.namespaces log c) ≡ stands_at ((logs_after cfg past).broker.streams c)
its_position cfg mine past log c t own = by_life (life_in cfg.namespaces log c) refl
  where
    by_life : (o : Option Life) → life_in cfg.namespaces log c ≡ o
        → option_map life_stands o ≡ stands_at ((logs_after cfg past).broker.streams c)
    by_life None e =
        let b : Broker = (logs_after cfg past).broker in
        sym (ap stands_at (its_none (b.lists c) (b.keys c) (b.streams c) (t.log_of.life c own ∙ e)))
    by_life (Some l) e = sym (ap stands_at (its_stream cfg mine past log c l t own e).stream)

-- what a publish repeats
pub its_repeat : (cfg : Config) (mine : List ℕ → Bool) (past : List Happening) (log : List Entry) (c key : List ℕ)
    → IsTied mine cfg.namespaces log (logs_after cfg past).broker → mine c ≡ true
    → server.repeats key (life_in cfg.namespaces log c) ≡ is_repeat c key (logs_after cfg past).broker
its_repeat cfg mine past log c key t own = ap (server.repeats key) (sym (t.log_of.life c own)) ∙ by_stream (b.streams c)
  where
    b : Broker
    b = (logs_after cfg past).broker

    by_stream : (o : Option StreamState) → server.repeats key (life_by (b.lists c) (b.keys c) o)
        ≡ repeats b.keys c key o
    by_stream None = refl
    by_stream (Some s) = refl

pub reads-as : (b : Broker) (c : List ℕ) (l : Life) (since : Option Position) (p : Position) (recovered : Bool)
    (ps : List Placed)
    → IsStream b c l → IsRead l since p recovered ps → ReadsAs b c since p recovered ps
reads-as b c l since p recovered ps s r = record {
  state = state_of l;
  stands = s.stream;
  at = r.at;
  exact = r.exact;
  run = subst (λ (ds : List Datum). ps ≡ placed_from ds (read_of since (state_of l)).low
      (length l.list - (read_of since (state_of l)).low)) (sym s.list) r.run;
}

pub lists-as : (b : Broker) (c : List ℕ) (l : Life) (since : Option Position) (limit : ℤ) (p : Position)
    (ps : List Placed)
    → IsStream b c l → IsListed l since limit p ps → ListsAs b c since limit p ps
lists-as b c l since limit p ps s r = record {
  state = state_of l;
  listing = r.listing;
  stands = s.stream;
  is = r.is;
  at = r.at;
  run = subst (λ (ds : List Datum). ps ≡ placed_from ds r.listing.low r.listing.count) (sym s.list) r.run;
}
