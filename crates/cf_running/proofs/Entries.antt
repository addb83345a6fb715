-- A shard's log gains an entry, and the machine's broker goes with it.
use Rattle.std.proofs.Common.{◌≡◌, ◌≢◌, ◌⊎◌, inl, inr, ◌<◌, ◌≤◌, ℕ, ◌+◌, ◌==◌, nat_lt, ◌&&◌, not, Bool, true, false}
use Rattle.std.proofs.Common.{if◌then◌else◌, cond, is_some, Option, Some, None, List, [], ◌∷◌, ◌++◌, length, append-nil}
use Rattle.std.proofs.Common.{append_assoc, refl, sym, ap, subst, ◌∙◌, arith}
use Rattle.std.specs.Prelude.{is_none}
use Rattle.std.specs.Option.{option_map}
use Rattle.std.specs.Str.{bytes_eq}
use Rattle.std.proofs.lemmas.Bool.{and_parts, both_ways, false_from_ne_true}
use Rattle.std.proofs.lemmas.Bool.Decides.{nat_tests}
use Rattle.std.proofs.lemmas.List.Sums.{fold-append}
use Rattle.cf_protocol.specs.Names.{with, is_among}
use Rattle.cf_protocol.specs.Datum.{Datum}
use Rattle.cf_protocol.specs.Note.{Lists, Put}
use Rattle.cf_protocol.specs.LogEntry.{Entry}
use Rattle.cf_protocol.specs.LogEntry.Entry.{Open, Publish, Trim, Forget, Size}
use Rattle.cf_protocol.specs.Settings.{NamespaceTable, settings_of}
use Rattle.cf_model.specs.Keys.{repeat_of}
use Rattle.cf_stream.specs.LogState.{life_in, sizes_in}
use Rattle.cf_stream.specs.Streams.{size_at}
use Rattle.cf_model.specs.Streams.{in_namespace}
use Rattle.cf_stream.specs.PublicationList.{opened as opened_life, published, kept_newest}
use Rattle.cf_model.specs.Streams.{Life}
use Rattle.cf_model.specs.Streams.{StreamState, last_offset}
use Rattle.cf_stream.proofs.LogStates.{changed}
use Rattle.cf_model.specs.Clients.{Client}
use Rattle.cf_machine.specs.ClientLink.{ClientLink}
use Rattle.cf_machine.specs.Config.{Config}
use Rattle.cf_machine.specs.IntervalMachine.{size_of}
use Rattle.cf_machine.specs.PublicationList.{Place, Broker, StandsOver, list_with, trim_at}
use Rattle.cf_machine.specs.Told.{loosely_tells}
use Rattle.cf_machine.specs.World.{World, broker_with}
use Rattle.cf_machine.proofs.Names.{text_tells, itself, not_this, by_test, with-same, with-other}
use Rattle.cf_machine.proofs.Brokering.{lists-trim}
use Rattle.cf_machine.specs.Lives.{life_by}
use Rattle.cf_running.specs.ShardLogs.{IsLogOf, is_about, IsIn, IsApart, MayGain, happening_of}
use Rattle.cf_running.specs.Server as server
use Rattle.cf_running.specs.Server.{Server, Site, Connection, Work, Free, Began, HasRead, ToFinish, ToGiveUp, ToPublish}
use Rattle.cf_running.specs.Server.{ToList, ToSay, at_number, change, gathered, gathered_in, lists_of, life_of, log_of}
use Rattle.cf_running.specs.Server.{is_in, may_gain, can_gain, place_in}
use Rattle.cf_running.proofs.Gaining.{Accepts, gain, Gains, gained-world, gains, keeps-mine, keeps-other, life-more}
use Rattle.cf_running.proofs.Gaining.{publish-stands, stands-below, list-cases}
use Rattle.cf_running.proofs.Beside.{Linked, Beside, Follows, none, quietly, and_then, number_tells, at-same, at-other}
use Rattle.cf_running.proofs.Beside.{connection-step}
use Rattle.cf_running.proofs.Turns as turns

-- ---- what a log has of a channel

abbrev epoch_of : Option Life → Option (List ℕ)
epoch_of o = option_map (λ l. l.epoch) o

gathered-more : (log : List Entry) (x : Entry) (q e : List ℕ)
    → gathered_in (log ++ x ∷ []) q e ≡ gathered q e (gathered_in log q e) x
gathered-more log x q e = fold-append (gathered q e) (None, []) log (x ∷ [])

mapped-epoch : (f : Life → Life) → ((l : Life) → (f l).epoch ≡ l.epoch) → (o : Option Life)
    → epoch_of (option_map f o) ≡ epoch_of o
mapped-epoch f h None = refl
mapped-epoch f h (Some l) = ap Some (h l)

by_bool : (t : Bool) (p q : Option (List ℕ) × List Datum) (x y : Option Life) → p.0 ≡ epoch_of x → q.0 ≡ epoch_of y
    → (if t then p else q).0 ≡ epoch_of (cond t x y)
by_bool true p q x y h k = h
by_bool false p q x y h k = k

keeps_some : (t : Bool) (n : ℕ) (p : Option (List ℕ) × List Datum) (o : Option Life) → p.0 ≡ epoch_of o
    → p.0 ≡ epoch_of (cond t (option_map (kept_newest n) o) o)
keeps_some true n p o h = h ∙ sym (mapped-epoch (kept_newest n) (λ l. refl) o)
keeps_some false n p o h = h

gathered-step : (sizes : NamespaceTable) (q e : List ℕ) (p : Option (List ℕ) × List Datum) (o : Option Life) (x : Entry)
    → p.0 ≡ epoch_of o → (gathered q e p x).0 ≡ epoch_of (changed sizes q o x)
gathered-step sizes q e p o (Open c i) h = by_bool (bytes_eq c q) (Some i, p.1) p (Some (opened_life i)) o refl h
gathered-step sizes q e p o (Publish c key d) h = keeps (bytes_eq c q) (is_in e p.0)
  where
    more : Life → Life
    more = published (size_at sizes q) key d

    keeps : (t u : Bool) → (if t && u then (p.0, p.1 ++ d ∷ []) else p).0 ≡ epoch_of (cond t (option_map more o) o)
    keeps true true = h ∙ sym (mapped-epoch more (λ l. refl) o)
    keeps true false = h ∙ sym (mapped-epoch more (λ l. refl) o)
    keeps false u = h
gathered-step sizes q e p o (Trim c n) h = keeps_some (bytes_eq c q) n p o h
gathered-step sizes q e p o (Forget c) h = by_bool (bytes_eq c q) (None, p.1) p None o refl h
gathered-step sizes q e p o (Size name n) h = keeps_some (in_namespace name q) n p o h

gathered-from : (sizes : NamespaceTable) (q e : List ℕ) (es log : List Entry)
    → (gathered_in log q e).0 ≡ epoch_of (life_in sizes log q)
    → (gathered_in (log ++ es) q e).0 ≡ epoch_of (life_in sizes (log ++ es) q)
gathered-from sizes q e [] log h =
    subst (λ l. (gathered_in l q e).0 ≡ epoch_of (life_in sizes l q)) (sym (append-nil log)) h
gathered-from sizes q e (x ∷ es) log h =
    subst (λ l. (gathered_in l q e).0 ≡ epoch_of (life_in sizes l q)) (append_assoc log (x ∷ []) es)
    (gathered-from sizes q e es (log ++ x ∷ [])
    (ap (λ (p : Option (List ℕ) × List Datum). p.0) (gathered-more log x q e)
    ∙ gathered-step (sizes_in sizes log) q e (gathered_in log q e) (life_in sizes log q) x h
    ∙ ap epoch_of (sym (life-more sizes log x q))))

-- the epoch that is gathered is the stream's
gathered-epoch : (sizes : NamespaceTable) (log : List Entry) (q e : List ℕ)
    → (gathered_in log q e).0 ≡ epoch_of (life_in sizes log q)
gathered-epoch sizes log q e = gathered-from sizes q e log [] refl

-- an entry that isn't about the channel
gathered-not : (its : List ℕ → Bool) (q e : List ℕ) (p : Option (List ℕ) × List Datum) (x : Entry)
    → is_about its x q ≡ false → gathered q e p x ≡ p
gathered-not its q e p (Open c i) h = ap (λ (t : Bool). if t then (Some i, p.1) else p) h
gathered-not its q e p (Publish c key d) h = ap (λ (t : Bool). if t && is_in e p.0 then (p.0, p.1 ++ d ∷ []) else p) h
gathered-not its q e p (Trim c n) h = refl
gathered-not its q e p (Forget c) h = ap (λ (t : Bool). if t then (None, p.1) else p) h
gathered-not its q e p (Size name n) h = refl

same_second : (t : Bool) (p q : Option (List ℕ) × List Datum) → p.1 ≡ q.1 → (if t then p else q).1 ≡ q.1
same_second true p q h = h
same_second false p q h = refl

-- ---- what may be gained

may-gain : (cfg : Config) (log : List Entry) (x : Entry) → may_gain cfg log x ≡ true → MayGain cfg log x
may-gain cfg log (Open c e) h =
    let a = and_parts (is_none (life_in cfg.namespaces log c)) _ h in
    let b = and_parts (not (length e == 0)) (not (is_among e _)) a.1 in
    (is-none (life_in cfg.namespaces log c) a.0, not-empty e b.0, is-not (is_among e _) b.1)
  where
    is-none : (o : Option Life) → is_none o ≡ true → o ≡ None
    is-none None k = refl
    is-none (Some l) k = absurd (cc)

    not-empty : (e : List ℕ) → not (length e == 0) ≡ true → e ≢ []
    not-empty e k = λ i. absurd (let f : not (length e == 0) ≡ false = ap (λ (l : List ℕ). not (length l == 0)) i in cc)

    is-not : (t : Bool) → not t ≡ true → t ≡ false
    is-not true k = absurd (cc)
    is-not false k = refl
may-gain cfg log (Publish c key d) h =
    let o : Option Life = life_in cfg.namespaces log c in
    let a = and_parts (is_some (settings_of cfg.namespaces c)) (server.is_below o && not (server.repeats key o)) h in
    let b = and_parts (server.is_below o) (not (server.repeats key o)) a.1 in
    (a.0, accepts o b.0 b.1)
  where
    under : (n : ℕ) → nat_lt n last_offset ≡ true → n < last_offset
    under n k = grind (arith, nat_tests)

    none : (o : Option ℕ) → not (is_some o) ≡ true → o ≡ None
    none None k = refl
    none (Some n) k = absurd (cc)

    accepts : (o : Option Life) → server.is_below o ≡ true → not (server.repeats key o) ≡ true → Accepts key o
    accepts None k i = absurd (cc)
    accepts (Some l) k i = (under (length l.list) k, none (repeat_of key l.keys) i)
may-gain cfg log (Trim c n) h = h
may-gain cfg log (Forget c) h = h
may-gain cfg log (Size name n) h = tt

own : (n : ℕ) → (n == n) ≡ true
own n = elim (number_tells n n) [
  | inl h ↦ h.0
  | inr h ↦ absurd (h.1 refl)
]

not_own : (n k : ℕ) → k ≢ n → (n == k) ≡ false
not_own n k h = elim (number_tells n k) [
  | inl i ↦ absurd (h (sym i.1))
  | inr i ↦ i.0
]

this_one : (q c : List ℕ) → q ≡ c → bytes_eq c q ≡ true
this_one q c h = subst (λ z. bytes_eq c z ≡ true) (sym h) (itself c)

quiet-entry : (its : List ℕ → Bool) (w : World) (x : Entry) (n : ℕ) → loosely_tells n w (happening_of its x) ≡ []
quiet-entry its w (Open c e) n = refl
quiet-entry its w (Publish c key d) n = refl
quiet-entry its w (Trim c k) n = refl
quiet-entry its w (Forget c) n = refl
quiet-entry its w (Size name k) n = refl

module _ (site : Site) (s : Server) (w : World) (b : Beside site s w)
    (over : (c : List ℕ) → StandsOver (w.broker.lists c) (w.broker.streams c))
    (keyed : (c e : List ℕ) → length (w.broker.keys c e) ≡ length (w.broker.lists c e)) where
  abbrev cfg : Config
  cfg = site.config

  -- the channels of a shard
  abbrev its : ℕ → List ℕ → Bool
  its n c = site.shard_of c == n

  -- an entry about one channel is about one of its shard's, as another size is
  of_channel : (c q : List ℕ) → bytes_eq c q ≡ true → its (site.shard_of c) q ≡ true
  of_channel c q h = elim (text_tells c q) [
    | inl e ↦ subst (λ z. its (site.shard_of c) z ≡ true) e.1 (own (site.shard_of c))
    | inr e ↦ absurd (both_ways (bytes_eq c q) e.0 h)
  ]

  of_shard : (n : ℕ) (name : List ℕ) (k : ℕ) → IsIn (its n) (Size name k)
  of_shard n name k q h = (and_parts (its n q) (in_namespace name q) h).0

  -- and then about none of the others
  of_none : (n m : ℕ) → m ≢ n → (x : Entry) → IsIn (its n) x → IsApart (its m) (its n) x
  of_none n m ne x in_it q h = elim (number_tells (site.shard_of q) n) [
    | inl e ↦ subst (λ z. (z == m) ≡ false) (sym e.1) (not_own n m ne)
    | inr e ↦ absurd (both_ways (its n q) e.0 (in_it q h))
  ]

  its-gains : (n : ℕ) (x : Entry) → IsIn (its n) x → can_gain site n x s ≡ true
      → Gains cfg (its n) (sizes_in cfg.namespaces (s.logs n)) w x
  its-gains n x in_it can =
      gains cfg (its n) (s.logs n) w b.waits over keyed (b.logs n) x in_it (may-gain cfg (s.logs n) x can)

  -- where a publication finds its stream
  abbrev StreamOf : (channel key : List ℕ) → Type 0
  StreamOf c key =
      (t : StreamState) × (w.broker.streams c ≡ Some t) × (nat_lt t.top last_offset ≡ true)
      × (repeat_of key (w.broker.keys c t.epoch) ≡ None)

  its-stream : (c key : List ℕ) (d : Datum) → can_gain site (site.shard_of c) (Publish c key d) s ≡ true
      → StreamOf c key
  its-stream c key d can =
      stands-below (w.broker.lists c) (w.broker.keys c) key (w.broker.streams c) (over c)
      (subst (Accepts key) (sym ((b.logs (site.shard_of c)).life c (own (site.shard_of c))))
      (may-gain cfg (s.logs (site.shard_of c)) (Publish c key d) can).1)

  -- ---- the lists

  -- an entry gathers what its happening lists
  abbrev Gathers : ℕ → Entry → Type 0
  Gathers n x =
      (q e : List ℕ) → (gain cfg (its n) x w.broker).lists q e ≡ (gathered q e (gathered_in (log_of site s q) q e) x).1

  open-gathers : (n : ℕ) (c i : List ℕ) → Gathers n (Open c i)
  open-gathers n c i q e =
      b.listed q e ∙ sym (same_second (bytes_eq c q) (Some i, (gathered_in (log_of site s q) q e).1)
      (gathered_in (log_of site s q) q e) refl)

  trim-gathers : (n : ℕ) (c : List ℕ) (k : ℕ) → Gathers n (Trim c k)
  trim-gathers n c k q e = ap (λ (l : Lists). l q e) (lists-trim c k w.broker) ∙ b.listed q e

  forget-gathers : (n : ℕ) (c : List ℕ) → Gathers n (Forget c)
  forget-gathers n c q e =
      b.listed q e ∙ sym (same_second (bytes_eq c q) (None, (gathered_in (log_of site s q) q e).1)
      (gathered_in (log_of site s q) q e) refl)

  size-gathers : (n : ℕ) (name : List ℕ) (k : ℕ) → Gathers n (Size name k)
  size-gathers n name k q e = b.listed q e

  publish-gathers : (c key : List ℕ) (d : Datum) → can_gain site (site.shard_of c) (Publish c key d) s ≡ true
      → Gathers (site.shard_of c) (Publish c key d)
  publish-gathers c key d can q e =
      let at = its-stream c key d can in
      ap (λ (v : Broker). v.lists q e) (publish-stands (size_of cfg c w.broker) c key d at.0 w.broker at.1 at.2 at.3)
      ∙ by_channel at (text_tells q c)
    where
      p : Option (List ℕ) × List Datum
      p = gathered_in (log_of site s q) q e

      -- the channel's stream is of this epoch
      its-epoch : (at : StreamOf c key) → q ≡ c → p.0 ≡ Some at.0.epoch
      its-epoch at h =
          gathered-epoch cfg.namespaces (log_of site s q) q e
          ∙ ap epoch_of (sym ((b.logs (site.shard_of q)).life q (own (site.shard_of q))))
          ∙ ap (λ (z : List ℕ). epoch_of (life_by (w.broker.lists z) (w.broker.keys z) (w.broker.streams z))) h
          ∙ ap (λ (o : Option StreamState). epoch_of (life_by (w.broker.lists c) (w.broker.keys c) o)) at.1

      by_epoch : (at : StreamOf c key) → q ≡ c → ((bytes_eq e at.0.epoch ≡ true) × (e ≡ at.0.epoch))
          ⊎ ((bytes_eq e at.0.epoch ≡ false) × (e ≢ at.0.epoch))
          → list_with c at.0.epoch d w.broker.lists q e
          ≡ (if bytes_eq c q && is_in e p.0 then (p.0, p.1 ++ d ∷ []) else p).1
      by_epoch at h (inl k) =
          ap (λ (f : List ℕ → List Datum). f e) (ap (λ (z : List ℕ). list_with c at.0.epoch d w.broker.lists z) h
          ∙ with-same w.broker.lists c (with (w.broker.lists c) at.0.epoch (w.broker.lists c at.0.epoch ++ d ∷ [])))
          ∙ ap (with (w.broker.lists c) at.0.epoch (w.broker.lists c at.0.epoch ++ d ∷ [])) k.1
          ∙ with-same (w.broker.lists c) at.0.epoch (w.broker.lists c at.0.epoch ++ d ∷ [])
          ∙ (λ i. w.broker.lists (sym h i) (sym k.1 i) ++ d ∷ [])
          ∙ ap (λ (ds : List Datum). ds ++ d ∷ []) (b.listed q e)
          ∙ sym (λ i. (if this_one q c h i && (ap (is_in e) (its-epoch at h) ∙ k.0) i then (p.0, p.1 ++ d ∷ [])
          else p).1)
      by_epoch at h (inr k) =
          elim (list-cases w.broker.lists c at.0.epoch d q e) [
            | inl same ↦
                same ∙ b.listed q e ∙ sym (λ i. (if this_one q c h i
                && (ap (is_in e) (its-epoch at h) ∙ k.0) i then (p.0, p.1 ++ d ∷ []) else p).1)
            | inr same ↦ absurd (k.1 same.1)
          ]

      by_channel : (at : StreamOf c key) → ((bytes_eq q c ≡ true) × (q ≡ c)) ⊎ ((bytes_eq q c ≡ false) × (q ≢ c))
          → list_with c at.0.epoch d w.broker.lists q e
          ≡ (if bytes_eq c q && is_in e p.0 then (p.0, p.1 ++ d ∷ []) else p).1
      by_channel at (inl h) = by_epoch at h.1 (text_tells e at.0.epoch)
      by_channel at (inr h) =
          ap (λ (f : List ℕ → List Datum). f e) (with-other w.broker.lists c
          (with (w.broker.lists c) at.0.epoch (w.broker.lists c at.0.epoch ++ d ∷ [])) q h.1)
          ∙ b.listed q e
          ∙ sym (ap (λ (z : Option (List ℕ) × List Datum). z.1)
          (gathered-not (its (site.shard_of c)) q e p (Publish c key d) (not_this c q (λ i. h.1 (sym i)))))

  listed-after : (n : ℕ) (x : Entry) → IsIn (its n) x → Gathers n x → (q e : List ℕ)
      → (gain cfg (its n) x w.broker).lists q e ≡ lists_of site (server.gain n x s) q e
  listed-after n x in_it gathers q e =
      elim (number_tells (site.shard_of q) n) [
        | inl h ↦
            gathers q e
            ∙ ap (λ (z : Option (List ℕ) × List Datum). z.1) (sym (gathered-more (log_of site s q) x q e))
            ∙ (λ i. (gathered_in (s.logs (h.1 i) ++ x ∷ []) q e).1)
            ∙ sym (ap (λ (l : List Entry). (gathered_in l q e).1)
            (ap (at_number s.logs n (s.logs n ++ x ∷ [])) h.1 ∙ at-same s.logs n (s.logs n ++ x ∷ [])))
        | inr h ↦
            gathers q e
            ∙ ap (λ (z : Option (List ℕ) × List Datum). z.1)
            (gathered-not (its n) q e (gathered_in (log_of site s q) q e) x
            (false_from_ne_true (is_about (its n) x q) (λ i. both_ways (its n q) h.0 (in_it q i))))
            ∙ sym (ap (λ (l : List Entry). (gathered_in l q e).1)
            (at-other s.logs n (s.logs n ++ x ∷ []) (site.shard_of q) h.1))
      ]

  -- ---- the whole

  entry-beside : (n : ℕ) (x : Entry) → IsIn (its n) x → can_gain site n x s ≡ true → Gathers n x
      → (accepted : List Place) → (gain cfg (its n) x w.broker).accepted ≡ accepted
      → Beside site (record (server.gain n x s) { accepted = accepted }) (broker_with (gain cfg (its n) x w.broker) w)
  entry-beside n x in_it can gathers accepted e =
      let g = its-gains n x in_it can in
      let log : List Entry = s.logs n ++ x ∷ [] in
      let now : Broker = gain cfg (its n) x w.broker in
      record {
        waits = g.waits;
        logs = λ m. elim (number_tells m n) [
          | inl h ↦
              subst (λ z. IsLogOf (its z) cfg.namespaces (at_number s.logs n log z) now) (sym h.1)
              (subst (λ l. IsLogOf (its n) cfg.namespaces l now) (sym (at-same s.logs n log))
              (keeps-mine cfg (its n) (s.logs n) w x g (b.logs n)))
          | inr h ↦
              subst (λ l. IsLogOf (its m) cfg.namespaces l now) (sym (at-other s.logs n log m h.1))
              (keeps-other cfg (its n) (sizes_in cfg.namespaces (s.logs n)) w x g (its m) (s.logs m) (b.logs m)
              (of_none n m h.1 x in_it))
        ];
        listed = listed-after n x in_it gathers;
        accepted = e;
        clients = b.clients;
        owns = b.owns;
      }

  entry-follows : (n : ℕ) (x : Entry) → IsIn (its n) x → can_gain site n x s ≡ true → Gathers n x
      → (accepted : List Place) → (gain cfg (its n) x w.broker).accepted ≡ accepted
      → Follows cfg w [] (Beside site (record (server.gain n x s) { accepted = accepted }))
  entry-follows n x in_it can gathers accepted e =
      quietly cfg w (happening_of (its n) x) _ (quiet-entry (its n) w x)
      (subst (Beside site (record (server.gain n x s) { accepted = accepted }))
      (sym (gained-world cfg (its n) w x (its-gains n x in_it can).allowed))
      (entry-beside n x in_it can gathers accepted e))

  gains-step : (n : ℕ) (x : Entry) → IsIn (its n) x → Gathers n x
      → (gain cfg (its n) x w.broker).accepted ≡ w.broker.accepted
      → Follows cfg w [] (Beside site (server.gains site n x s))
  gains-step n x in_it gathers e =
      by_test (λ (v : Server). Follows cfg w [] (Beside site v)) (can_gain site n x s) _ _
      (λ can. entry-follows n x in_it can gathers s.accepted (e ∙ b.accepted)) (λ can. none cfg w (Beside site s) b)

  pub opens-step : (c e : List ℕ) → Follows cfg w [] (Beside site (server.gains site (site.shard_of c) (Open c e) s))
  opens-step c e = gains-step (site.shard_of c) (Open c e) (of_channel c) (open-gathers (site.shard_of c) c e) refl

  trim-accepted : (c : List ℕ) (n : ℕ) (o : Option StreamState) → (trim_at c n o w.broker).accepted ≡ w.broker.accepted
  trim-accepted c n None = refl
  trim-accepted c n (Some t) = refl

  pub trims-step : (c : List ℕ) (n : ℕ) → Follows cfg w []
      (Beside site (server.gains site (site.shard_of c) (Trim c n) s))
  trims-step c n =
      gains-step (site.shard_of c) (Trim c n) (of_channel c) (trim-gathers (site.shard_of c) c n)
      (trim-accepted c n (w.broker.streams c))

  pub forgets-step : (c : List ℕ) → Follows cfg w [] (Beside site (server.gains site (site.shard_of c) (Forget c) s))
  forgets-step c = gains-step (site.shard_of c) (Forget c) (of_channel c) (forget-gathers (site.shard_of c) c) refl

  pub sizes-step : (shard : ℕ) (name : List ℕ) (n : ℕ)
      → Follows cfg w [] (Beside site (server.gains site shard (Size name n) s))
  sizes-step shard name n = gains-step shard (Size name n) (of_shard shard name n) (size-gathers shard name n) refl

  -- ---- an accepted publish

  its-place : (c key : List ℕ) (d : Datum) → can_gain site (site.shard_of c) (Publish c key d) s ≡ true
      → (gain cfg (its (site.shard_of c)) (Publish c key d) w.broker).accepted ≡ s.accepted
      ++ place_in c (life_of site s c)
  its-place c key d can =
      let at = its-stream c key d can in
      let below : (at.0.top ≡ length (w.broker.lists c at.0.epoch)) × (at.0.held ≤ at.0.top) =
      subst (StandsOver (w.broker.lists c)) at.1 (over c) in
      ap (λ (v : Broker). v.accepted) (publish-stands (size_of cfg c w.broker) c key d at.0 w.broker at.1 at.2 at.3)
      ∙ (λ i. b.accepted i ++ record { channel = c; at = record { epoch = at.0.epoch; offset = below.0 i + 1 } } ∷ [])
      ∙ ap (λ (o : Option Life). s.accepted ++ place_in c o)
      (sym (ap (life_by (w.broker.lists c) (w.broker.keys c)) at.1)
      ∙ (b.logs (site.shard_of c)).life c (own (site.shard_of c)))

  accepts-step : (c key : List ℕ) (d : Datum) → can_gain site (site.shard_of c) (Publish c key d) s ≡ true
      → Follows cfg w [] (Beside site (server.accepts site c key d s))
  accepts-step c key d can =
      entry-follows (site.shard_of c) (Publish c key d) (of_channel c) can (publish-gathers c key d can)
      (s.accepted ++ place_in c (life_of site s c)) (its-place c key d can)

-- its answer is on its way
answered : (k : Connection) (c : Client) (l : ClientLink) (d : List ℕ) (id : ℕ) (key : List ℕ) (x : Datum) (h : Work)
    → h ≡ ToPublish d id key x → Linked (record k { work = h }) c l
    → Linked (record k { work = ToSay d (Put id) }) c l
answered k c l d id key x h e i =
    let j : Linked (record k { work = ToPublish d id key x }) c l =
    subst (λ z. Linked (record k { work = z }) c l) e i in
    record { extra = j.extra; is = j.is; due = j.due; settled = j.settled; right = tt }

pub publishes-step : (site : Site) (s : Server) (w : World) (b : Beside site s w)
    (over : (c : List ℕ) → StandsOver (w.broker.lists c) (w.broker.streams c))
    (keyed : (c e : List ℕ) → length (w.broker.keys c e) ≡ length (w.broker.lists c e))
    (k : ℕ) (h : Work) → (s.connections k).work ≡ h
    → Follows site.config w [] (Beside site (server.publishes site k h s))
publishes-step site s w b over keyed k (ToPublish c id key d) e =
    by_test P (server.repeats key (life_of site s c)) _ _
    (λ r. is_answered s w b e)
    (λ r. by_test P (can_gain site (site.shard_of c) (Publish c key d) s) _ _
    (λ can. and_then site.config w [] [] _ _ (accepts-step site s w b over keyed c key d can)
    (λ v bv. is_answered (server.accepts site c key d s) v bv e))
    (λ can. none site.config w (Beside site s) b))
  where
    P : Server → Type 0
    P v = Follows site.config w [] (Beside site v)

    is_answered : (t : Server) (v : World) → Beside site t v → (t.connections k).work ≡ ToPublish c id key d
        → Follows site.config v [] (Beside site (change k (server.answers c id) t))
    is_answered t v bv i =
        connection-step site t v bv site.config k (server.answers c id) refl
        (λ x at l. turns.idle site t v bv x (t.clients x) (server.answers c id (t.connections k))
        (answered (t.connections k) (t.clients x) (v.links x) c id key d (t.connections k).work i l))
publishes-step site s w b over keyed k Free e = none site.config w (Beside site s) b
publishes-step site s w b over keyed k (Began c id since) e = none site.config w (Beside site s) b
publishes-step site s w b over keyed k (HasRead c r) e = none site.config w (Beside site s) b
publishes-step site s w b over keyed k (ToFinish c) e = none site.config w (Beside site s) b
publishes-step site s w b over keyed k (ToGiveUp c id code) e = none site.config w (Beside site s) b
publishes-step site s w b over keyed k (ToList c id limit) e = none site.config w (Beside site s) b
publishes-step site s w b over keyed k (ToSay c n) e = none site.config w (Beside site s) b
