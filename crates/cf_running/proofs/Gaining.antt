-- What an entry makes of a shard's log, its happening makes of the machine's broker.
use Rattle.std.proofs.Common.{◌≡◌, ◌≢◌, ◌<◌, ◌⊎◌, inl, inr, ℕ, ◌+◌, ◌==◌, ◌&&◌, ◌||◌, nat_lt, not, Bool, true, false}
use Rattle.std.proofs.Common.{if◌then◌else◌, cond, is_some, Option, Some, None, List, [], ◌∷◌, ◌++◌, length, append-nil}
use Rattle.std.proofs.Common.{append_assoc, refl, sym, ap, subst, ◌∙◌, arith, IsSome, IsSomeAnd}
use Rattle.std.specs.Prelude.{fold}
use Rattle.std.specs.Option.{option_map}
use Rattle.std.specs.List.{filter_map}
use Rattle.std.specs.Str.{bytes_eq}
use Rattle.std.proofs.lemmas.Bool.{both_ways, false_from_ne_true}
use Rattle.std.proofs.lemmas.Bool.Decides.{nat_tests}
use Rattle.std.proofs.lemmas.List.Elements.{filter_map-append}
use Rattle.cf_protocol.specs.Names.{with, is_among}
use Rattle.cf_protocol.specs.Datum.{Datum}
use Rattle.cf_protocol.specs.Note.{Lists}
use Rattle.cf_protocol.specs.LogEntry.{Entry}
use Rattle.cf_protocol.specs.LogEntry.Entry.{Open, Publish, Trim, Forget, Size}
use Rattle.cf_protocol.specs.Settings.{NamespaceTable, entry_at, namespace_of, settings_of, with_size}
use Rattle.cf_protocol.specs.declared.settings.Settings.{Settings}
use Rattle.cf_protocol.proofs.Sizes.{entry_at-with_size}
use Rattle.cf_model.specs.Keys.{repeat_of}
use Rattle.cf_model.specs.Streams.{StreamState, last_offset, opens_in, with_one_more, with_at_most}
use Rattle.cf_stream.specs.PublicationList.{opened as opened_life, published, kept_newest}
use Rattle.cf_model.specs.Streams.{Life}
use Rattle.cf_stream.specs.LogState.{life_in, sizes_after, sizes_in}
use Rattle.cf_stream.specs.Streams.{size_at, size_of as size_among}
use Rattle.cf_model.specs.Streams.{in_namespace}
use Rattle.cf_stream.proofs.LogStates.{changed, life_in-append, sizes_in-append}
use Rattle.cf_machine.specs.Config.{Config}
use Rattle.cf_machine.specs.IntervalMachine.{size_by, size_of}
use Rattle.cf_machine.specs.PublicationList.{Broker, Keys, StandsOver, open_at, opened_in, can_open, stands_or_opens}
use Rattle.cf_machine.specs.PublicationList.{is_full, at_last_offset, list_with, keys_with, add_at, publish, trim_at}
use Rattle.cf_machine.specs.PublicationList.{trim, set_size, forget}
use Rattle.cf_machine.specs.World.{World, broker_with}
use Rattle.cf_machine.specs.LooseRun.{loosely_allows, befalls}
use Rattle.cf_machine.proofs.Names.{text_tells, itself, not_this, with-same, with-other}
use Rattle.cf_machine.specs.Lives.{life_by, life_at}
use Rattle.cf_running.specs.ShardLogs.{opening_of, epochs_in, IsLogOf, is_about, IsIn, IsApart, MayGain, happening_of}

-- the other way round
this_one : (q c : List ℕ) → q ≡ c → bytes_eq c q ≡ true
this_one q c h = subst (λ z. bytes_eq c z ≡ true) (sym h) (itself c)

-- ---- the broker's lives

-- a change at channel c alone: of its stream, of its lists and of its keys
at_one : (b : Broker) (c : List ℕ) (lists : Lists) (keys : Keys) (streams : List ℕ → Option StreamState)
    (new : List ℕ → Option Life)
    → life_by (lists c) (keys c) (streams c) ≡ new c
    → ((q : List ℕ) → q ≢ c → (lists q ≡ b.lists q) × (keys q ≡ b.keys q) × (streams q ≡ b.streams q))
    → (q : List ℕ) → life_by (lists q) (keys q) (streams q) ≡ cond (bytes_eq c q) (new q) (life_at b q)
at_one b c lists keys streams new here there q =
    elim (text_tells q c) [
      | inl h ↦ subst (λ (t : Bool). life_by (lists q) (keys q) (streams q) ≡ cond t (new q) (life_at b q))
          (sym (this_one q c h.1))
          (subst (λ (z : List ℕ). life_by (lists z) (keys z) (streams z) ≡ new z) (sym h.1) here)
      | inr h ↦ subst (λ (t : Bool). life_by (lists q) (keys q) (streams q) ≡ cond t (new q) (life_at b q))
          (sym (not_this c q (λ e. h.1 (sym e))))
          (let t = there q h.1 in λ i. life_by (t.0 i) (t.1 i) (t.2 i))
    ]

life-open : (b : Broker) (c e : List ℕ) → b.lists c e ≡ [] → b.keys c e ≡ []
    → (q : List ℕ) → life_at (opened_in c e b) q ≡ cond (bytes_eq c q) (Some (opened_life e)) (life_at b q)
life-open b c e none no_keys q =
    at_one b c b.lists b.keys (with b.streams c (Some (opens_in e))) (λ x. Some (opened_life e))
    (ap (life_by (b.lists c) (b.keys c)) (with-same b.streams c (Some (opens_in e)))
    ∙ (λ i. Some (record { epoch = e; list = none i; keys = no_keys i; held = 0 })))
    (λ x ne. (refl, refl, with-other b.streams c (Some (opens_in e)) x ne)) q

-- a publish where a stream stands that isn't at the last offset, and that repeats none of it
abbrev pub added : ℕ → (channel key : List ℕ) → Datum → StreamState → Broker → Broker
added size c key d s b =
    record b {
      streams = with b.streams c (Some (with_one_more size s));
      lists = list_with c s.epoch d b.lists;
      keys = keys_with c s.epoch key b.keys;
      accepted = b.accepted ++ record { channel = c; at = record { epoch = s.epoch; offset = s.top + 1 } } ∷ [];
    }

pub publish-stands : (size : ℕ) (c key : List ℕ) (d : Datum) (s : StreamState) (b : Broker) → b.streams c ≡ Some s
    → nat_lt s.top last_offset ≡ true → repeat_of key (b.keys c s.epoch) ≡ None
    → publish size c key d b ≡ added size c key d s b
publish-stands size c key d s b e h r =
    ap (λ (v : Broker). add_at size c key d (v.streams c) v)
    (ap (λ (o : Option StreamState). open_at c o b.waiting b) e)
    ∙ ap (λ (o : Option StreamState). add_at size c key d o b) e
    ∙ (λ i. if not (is_some (r i)) && h i then added size c key d s b else b)

life-added : (sizes : List ℕ → ℕ) (size : ℕ) (b : Broker) (c key : List ℕ) (d : Datum) (s : StreamState)
    → size ≡ sizes c → b.streams c ≡ Some s
    → (q : List ℕ) → life_at (added size c key d s b) q
    ≡ cond (bytes_eq c q) (option_map (published (sizes q) key d) (life_at b q)) (life_at b q)
life-added sizes size b c key d s z e q =
    let more : List ℕ → List Datum = with (b.lists c) s.epoch (b.lists c s.epoch ++ d ∷ []) in
    let known : List ℕ → List (List ℕ) = with (b.keys c) s.epoch (b.keys c s.epoch ++ key ∷ []) in
    let grown : StreamState = with_one_more size s in
    at_one b c (list_with c s.epoch d b.lists) (keys_with c s.epoch key b.keys) (with b.streams c (Some grown))
    (λ x. option_map (published (sizes x) key d) (life_at b x))
    ((λ i. life_by (with-same b.lists c more i) (with-same b.keys c known i) (with-same b.streams c (Some grown) i))
    ∙ (λ i. Some (record {
      epoch = s.epoch;
      list = with-same (b.lists c) s.epoch (b.lists c s.epoch ++ d ∷ []) i;
      keys = with-same (b.keys c) s.epoch (b.keys c s.epoch ++ key ∷ []) i;
      held = (with_one_more (z i) s).held;
    }))
    ∙ sym (ap (λ (o : Option StreamState). option_map (published (sizes c) key d) (life_by (b.lists c) (b.keys c) o))
    e))
    (λ x ne. (with-other b.lists c more x ne, with-other b.keys c known x ne, with-other b.streams c (Some grown) x ne))
    q

life-trim : (b : Broker) (c : List ℕ) (n : ℕ) (s : StreamState) → b.streams c ≡ Some s
    → (q : List ℕ) → life_at (trim c n b) q ≡ cond (bytes_eq c q) (option_map (kept_newest n) (life_at b q))
    (life_at b q)
life-trim b c n s e q =
    ap (λ (o : Option StreamState). life_at (trim_at c n o b) q) e
    ∙ at_one b c b.lists b.keys (with b.streams c (Some (with_at_most n s)))
    (λ x. option_map (kept_newest n) (life_at b x))
    (ap (life_by (b.lists c) (b.keys c)) (with-same b.streams c (Some (with_at_most n s)))
    ∙ sym (ap (λ (o : Option StreamState). option_map (kept_newest n) (life_by (b.lists c) (b.keys c) o)) e))
    (λ x ne. (refl, refl, with-other b.streams c (Some (with_at_most n s)) x ne)) q

life-forget : (b : Broker) (c : List ℕ)
    → (q : List ℕ) → life_at (forget c b) q ≡ cond (bytes_eq c q) None (life_at b q)
life-forget b c q =
    at_one b c b.lists b.keys (with b.streams c None) (λ x. None)
    (ap (life_by (b.lists c) (b.keys c)) (with-same b.streams c None))
    (λ x ne. (refl, refl, with-other b.streams c None x ne)) q

life-size : (among : List ℕ → Bool) (n : ℕ) (b : Broker)
    → (q : List ℕ) → life_at (set_size among n b) q
    ≡ cond (among q) (option_map (kept_newest n) (life_at b q)) (life_at b q)
life-size among n b q = by_both (among q) (b.streams q)
  where
    by_both : (t : Bool) (o : Option StreamState)
        → life_by (b.lists q) (b.keys q) (cond t (option_map (with_at_most n) o) o)
        ≡ cond t (option_map (kept_newest n) (life_by (b.lists q) (b.keys q) o)) (life_by (b.lists q) (b.keys q) o)
    by_both false o = refl
    by_both true None = refl
    by_both true (Some s) = refl

-- ---- what the log says of the broker

stands : (lists : List ℕ → List Datum) (keys : List ℕ → List (List ℕ)) (o : Option StreamState)
    → IsSome (life_by lists keys o) → (s : StreamState) × (o ≡ Some s)
stands lists keys None h = absurd (cc)
stands lists keys (Some s) h = (s, refl)

stands-not : (lists : List ℕ → List Datum) (keys : List ℕ → List (List ℕ)) (o : Option StreamState)
    → life_by lists keys o ≡ None → o ≡ None
stands-not lists keys None h = refl
stands-not lists keys (Some s) h = absurd (cc)

-- the stream of a life accepts this key
abbrev pub Accepts : List ℕ → Option Life → Type 0
Accepts key o = IsSomeAnd o (λ l. (length l.list < last_offset) × (repeat_of key l.keys ≡ None))

pub stands-below : (lists : List ℕ → List Datum) (keys : List ℕ → List (List ℕ)) (key : List ℕ) (o : Option StreamState)
    → StandsOver lists o → Accepts key (life_by lists keys o)
    → (s : StreamState) × (o ≡ Some s) × (nat_lt s.top last_offset ≡ true) × (repeat_of key (keys s.epoch) ≡ None)
stands-below lists keys key None k h = absurd h
stands-below lists keys key (Some s) k h = (s, refl, below s.top (length (lists s.epoch)) k.0 h.0, h.1)
  where
    below : (a n : ℕ) → a ≡ n → n < last_offset → nat_lt a last_offset ≡ true
    below a n e h = grind (arith, nat_tests)

not_empty : (e : List ℕ) → e ≢ [] → (length e == 0) ≡ false
not_empty [] h = absurd (h refl)
not_empty (x ∷ e) h = grind (arith, nat_tests)

-- ---- the sizes

-- the same namespaces are set up, whatever their sizes become
set_up-after : (t : NamespaceTable) (x : Entry) (k : List ℕ)
    → is_some (entry_at (sizes_after t x) k) ≡ is_some (entry_at t k)
set_up-after t (Open c e) k = refl
set_up-after t (Publish c key d) k = refl
set_up-after t (Trim c n) k = refl
set_up-after t (Forget c) k = refl
set_up-after t (Size name n) k =
    ap (λ (o : Option Settings). is_some o) (entry_at-with_size name n t k) ∙ mapped (entry_at t k)
  where
    mapped : (o : Option Settings) → is_some (option_map
        (λ (s : Settings). cond (bytes_eq k name) (record s { size = n }) s) o) ≡ is_some o
    mapped None = refl
    mapped (Some s) = refl

set_up-same : (log : List Entry) (t : NamespaceTable) (k : List ℕ)
    → is_some (entry_at (fold sizes_after t log) k) ≡ is_some (entry_at t k)
set_up-same [] t k = refl
set_up-same (x ∷ log) t k = set_up-same log (sizes_after t x) k ∙ set_up-after t x k

-- a size before one was set
pub size-unset : (o : Option Settings) → size_by None o ≡ size_among o
size-unset None = refl
size-unset (Some s) = refl

-- a size that was set, where the namespace is set up
both_sized : (n : ℕ) (o p : Option Settings) → is_some p ≡ is_some o
    → size_by (Some n) o ≡ size_among (option_map (λ (s : Settings). record s { size = n }) p)
both_sized n None None h = refl
both_sized n (Some s) (Some t) h = refl
both_sized n None (Some t) h = absurd (cc)
both_sized n (Some s) None h = absurd (cc)

size-unchanged : (p : Option Settings) → size_among p ≡ size_among (option_map (λ (s : Settings). s) p)
size-unchanged None = refl
size-unchanged (Some s) = refl

-- ---- an entry is allowed, and does what it does

-- what an entry makes of the broker, where its shard has these channels
abbrev pub gain : Config → (its : List ℕ → Bool) → Entry → Broker → Broker
gain cfg its (Open c e) b = opened_in c e b
gain cfg its (Publish c key d) b = publish (size_of cfg c b) c key d b
gain cfg its (Trim c n) b = trim c n b
gain cfg its (Forget c) b = forget c b
gain cfg its (Size name n) b = set_size (λ q. its q && in_namespace name q) n b

-- and of the life of a channel that it is about, which holds at most so many
abbrev anew : ℕ → Option Life → Entry → Option Life
anew size old (Open c e) = Some (opened_life e)
anew size old (Publish c key d) = option_map (published size key d) old
anew size old (Trim c n) = option_map (kept_newest n) old
anew size old (Forget c) = None
anew size old (Size name n) = option_map (kept_newest n) old

pub record Gains (cfg : Config) (its : List ℕ → Bool) (sizes : NamespaceTable) (w : World) (x : Entry) : Type 0 where
  pub allowed : loosely_allows cfg w (happening_of its x) ≡ true
  pub life : (q : List ℕ) → life_at (gain cfg its x w.broker) q
      ≡ cond (is_about its x q) (anew (size_at sizes q) (life_at w.broker q) x) (life_at w.broker q)
  pub size : (q : List ℕ) → its q ≡ true → size_by ((gain cfg its x w.broker).sizes q) (settings_of cfg.namespaces q)
      ≡ size_at (sizes_after sizes x) q
  pub same_size : (q : List ℕ) → is_about its x q ≡ false → (gain cfg its x w.broker).sizes q ≡ w.broker.sizes q
  -- a list changes in the epoch of its channel's stream alone
  pub listed : (q e : List ℕ) → ((gain cfg its x w.broker).lists q e ≡ w.broker.lists q e)
      ⊎ IsSomeAnd (life_at w.broker q) (λ l. l.epoch ≡ e)
  pub waits : (gain cfg its x w.broker).waiting ≡ []

-- the happening of the entry is that
pub gained-world : (cfg : Config) (its : List ℕ → Bool) (w : World) (x : Entry)
    → loosely_allows cfg w (happening_of its x) ≡ true
    → befalls cfg w (happening_of its x) ≡ broker_with (gain cfg its x w.broker) w
gained-world cfg its w (Open c e) can = ap (λ (t : Bool). if t then broker_with (opened_in c e w.broker) w else w) can
gained-world cfg its w (Publish c key d) can =
    ap (λ (t : Bool). if t then broker_with (publish (size_of cfg c w.broker) c key d w.broker) w else w) can
gained-world cfg its w (Trim c n) can = ap (λ (t : Bool). if t then broker_with (trim c n w.broker) w else w) can
gained-world cfg its w (Forget c) can = ap (λ (t : Bool). if t then broker_with (forget c w.broker) w else w) can
gained-world cfg its w (Size name n) can = refl

all_four : (a b c d : Bool) → a ≡ false → b ≡ true → c ≡ false → d ≡ false → (not a && (b && (not c && not d))) ≡ true
all_four a b c d h i j k = rw (h, i, j, k) refl

no_length : (l : List Datum) → l ≡ [] → (length l == 0) ≡ true
no_length l h = ap (λ (x : List Datum). length x == 0) h

set_up : (s : Bool) (m f : Bool) → s ≡ true → m ≡ true → f ≡ false → (s && (m && not f)) ≡ true
set_up s m f h i j = rw (h, i, j) refl

-- one list with a datum more
pub list-cases : (lists : Lists) (c i : List ℕ) (d : Datum) (q e : List ℕ) → (list_with c i d lists q e ≡ lists q e)
    ⊎ ((q ≡ c) × (e ≡ i))
list-cases lists c i d q e =
    elim (text_tells q c) [
      | inr h ↦ inl (ap (λ (f : List ℕ → List Datum). f e)
          (with-other lists c (with (lists c) i (lists c i ++ d ∷ [])) q h.1))
      | inl h ↦ elim (text_tells e i) [
        | inl k ↦ inr (h.1, k.1)
        | inr k ↦ inl (
            ap (λ (t : Bool). (if t then with (lists c) i (lists c i ++ d ∷ []) else lists q) e) h.0
            ∙ with-other (lists c) i (lists c i ++ d ∷ []) e k.1
            ∙ ap (λ (z : List ℕ). lists z e) (sym h.1))
      ]
    ]

no_keys : (ks : List (List ℕ)) (ds : List Datum) → length ks ≡ length ds → ds ≡ [] → ks ≡ []
no_keys [] ds h e = refl
no_keys (k ∷ ks) ds h e = absurd (let none : length ds ≡ 0 = ap (λ (l : List Datum). length l) e in cc)

-- the log of one shard, and any entry in it
module _ (cfg : Config) (mine : List ℕ → Bool) (log : List Entry) (w : World)
    (waits : w.broker.waiting ≡ []) (over : (c : List ℕ) → StandsOver (w.broker.lists c) (w.broker.streams c))
    (keyed : (c e : List ℕ) → length (w.broker.keys c e) ≡ length (w.broker.lists c e))
    (l : IsLogOf mine cfg.namespaces log w.broker) where
  abbrev its_sizes : NamespaceTable
  its_sizes = sizes_in cfg.namespaces log

  -- a channel's size, where it is set
  sized : (name : List ℕ) (n : ℕ) (q : List ℕ) → mine q ≡ true
      → size_by (if mine q && in_namespace name q then Some n else w.broker.sizes q) (settings_of cfg.namespaces q)
      ≡ size_at (with_size name n its_sizes) q
  sized name n q own =
      ap (λ (t : Bool). size_by (if t && in_namespace name q then Some n else w.broker.sizes q)
      (settings_of cfg.namespaces q)) own
      ∙ by_name (in_namespace name q)
      ∙ sym (ap size_among (entry_at-with_size name n its_sizes (namespace_of q)))
    where
      by_name : (t : Bool) → size_by (if t then Some n else w.broker.sizes q) (settings_of cfg.namespaces q)
          ≡ size_among (option_map (λ (s : Settings). cond t (record s { size = n }) s) (settings_of its_sizes q))
      by_name true =
          both_sized n (settings_of cfg.namespaces q) (settings_of its_sizes q)
          (set_up-same log cfg.namespaces (namespace_of q))
      by_name false = l.size q own ∙ size-unchanged (settings_of its_sizes q)

  pub gains : (x : Entry) → IsIn mine x → MayGain cfg log x → Gains cfg mine its_sizes w x
  gains (Open c e) its may =
      let own : mine c ≡ true = its c (itself c) in
      let none : w.broker.streams c ≡ None =
      stands-not (w.broker.lists c) (w.broker.keys c) (w.broker.streams c) (l.life c own ∙ may.0) in
      let empty : w.broker.lists c e ≡ [] = l.unopened c e own may.2 in
      record {
        allowed =
            all_four (is_some (w.broker.streams c)) (length (w.broker.lists c e) == 0) (length e == 0)
            (is_among e w.broker.waiting)
            (ap (λ (o : Option StreamState). is_some o) none) (no_length (w.broker.lists c e) empty) (not_empty e may.1)
            (ap (λ (es : List (List ℕ)). is_among e es) waits);
        life = life-open w.broker c e empty (no_keys (w.broker.keys c e) (w.broker.lists c e) (keyed c e) empty);
        size = l.size;
        same_size = λ q h. refl;
        listed = λ q i. inl refl;
        waits = waits;
      }
  gains (Publish c key d) its may =
      let own : mine c ≡ true = its c (itself c) in
      let size : ℕ = size_of cfg c w.broker in
      let at = stands-below (w.broker.lists c) (w.broker.keys c) key (w.broker.streams c) (over c)
      (subst (Accepts key) (sym (l.life c own)) may.1) in
      let same : publish size c key d w.broker ≡ added size c key d at.0 w.broker =
      publish-stands size c key d at.0 w.broker at.1 at.2 at.3 in
      record {
        allowed =
            set_up (is_some (settings_of cfg.namespaces c)) (can_open c w.broker) (at_last_offset c w.broker) may.0
            (ap (λ (o : Option StreamState). stands_or_opens o w.broker.waiting) at.1) (ap is_full at.1 ∙ ap not at.2);
        life = λ q. ap (λ (b : Broker). life_at b q) same
            ∙ life-added (size_at its_sizes) size w.broker c key d at.0 (l.size c own) at.1 q;
        size = λ q i. ap (λ (b : Broker). size_by (b.sizes q) (settings_of cfg.namespaces q)) same ∙ l.size q i;
        same_size = λ q h. ap (λ (b : Broker). b.sizes q) same;
        listed = λ q i. elim (list-cases w.broker.lists c at.0.epoch d q i) [
          | inl h ↦ inl (ap (λ (b : Broker). b.lists q i) same ∙ h)
          | inr h ↦ inr (
              subst (λ (z : List ℕ). IsSomeAnd (life_at w.broker z) (λ k. k.epoch ≡ i)) (sym h.0)
              (subst (λ (o : Option StreamState). IsSomeAnd (life_by (w.broker.lists c) (w.broker.keys c) o)
              (λ k. k.epoch ≡ i)) (sym at.1) (sym h.1)))
        ];
        waits = ap (λ (b : Broker). b.waiting) same ∙ waits;
      }
  gains (Trim c n) its may =
      let own : mine c ≡ true = its c (itself c) in
      let at = stands (w.broker.lists c) (w.broker.keys c) (w.broker.streams c)
      (subst (λ (o : Option Life). IsSome o) (sym (l.life c own)) may) in
      record {
        allowed = ap (λ (o : Option StreamState). is_some o) at.1;
        life = life-trim w.broker c n at.0 at.1;
        size = λ q i. ap (λ (o : Option StreamState). size_by ((trim_at c n o w.broker).sizes q)
            (settings_of cfg.namespaces q)) at.1 ∙ l.size q i;
        same_size = λ q h. ap (λ (o : Option StreamState). (trim_at c n o w.broker).sizes q) at.1;
        listed = λ q i. inl (ap (λ (o : Option StreamState). (trim_at c n o w.broker).lists q i) at.1);
        waits = ap (λ (o : Option StreamState). (trim_at c n o w.broker).waiting) at.1 ∙ waits;
      }
  gains (Forget c) its may =
      let own : mine c ≡ true = its c (itself c) in
      let at = stands (w.broker.lists c) (w.broker.keys c) (w.broker.streams c)
      (subst (λ (o : Option Life). IsSome o) (sym (l.life c own)) may) in
      record {
        allowed = ap (λ (o : Option StreamState). is_some o) at.1;
        life = life-forget w.broker c;
        size = l.size;
        same_size = λ q h. refl;
        listed = λ q i. inl refl;
        waits = waits;
      }
  gains (Size name n) its may =
      record {
        allowed = refl;
        life = life-size (λ q. mine q && in_namespace name q) n w.broker;
        size = sized name n;
        same_size = λ q h. ap (λ (t : Bool). if t then Some n else w.broker.sizes q) h;
        listed = λ q i. inl refl;
        waits = waits;
      }

-- ---- the epoch in which a stream stands was opened

among-append : (e : List ℕ) (xs ys : List (List ℕ)) → is_among e (xs ++ ys) ≡ (is_among e xs || is_among e ys)
among-append e [] ys = refl
among-append e (x ∷ xs) ys =
    ap (λ b. bytes_eq x e || b) (among-append e xs ys) ∙ or-assoc (bytes_eq x e) (is_among e xs) (is_among e ys)
  where
    or-assoc : (a b c : Bool) → (a || (b || c)) ≡ ((a || b) || c)
    or-assoc true b c = refl
    or-assoc false b c = refl

or-first : (a b : Bool) → a ≡ true → (a || b) ≡ true
or-first a b h = rw h refl

or-none : (a b : Bool) → (a || b) ≡ false → a ≡ false
or-none a b h = grind arith

pub epochs-more : (log : List Entry) (x : Entry) (q : List ℕ)
    → epochs_in (log ++ x ∷ []) q ≡ epochs_in log q ++ filter_map (opening_of q) (x ∷ [])
epochs-more log x q = filter_map-append (opening_of q) log (x ∷ [])

pub not_before : (log : List Entry) (x : Entry) (q e : List ℕ) → is_among e (epochs_in (log ++ x ∷ []) q) ≡ false
    → is_among e (epochs_in log q) ≡ false
not_before log x q e h =
    or-none (is_among e (epochs_in log q)) (is_among e (filter_map (opening_of q) (x ∷ [])))
    (sym (among-append e (epochs_in log q) (filter_map (opening_of q) (x ∷ [])))
    ∙ ap (λ es. is_among e es) (sym (epochs-more log x q)) ∙ h)

abbrev pub WasOpened : List Entry → List ℕ → Option Life → Type 0
WasOpened log q None = Unit {0}
WasOpened log q (Some l) = is_among l.epoch (epochs_in log q) ≡ true

opened-before : (log : List Entry) (x : Entry) (q : List ℕ) (o : Option Life) → WasOpened log q o
    → WasOpened (log ++ x ∷ []) q o
opened-before log x q None h = tt
opened-before log x q (Some l) h =
    ap (λ es. is_among l.epoch es) (epochs-more log x q)
    ∙ among-append l.epoch (epochs_in log q) (filter_map (opening_of q) (x ∷ []))
    ∙ or-first (is_among l.epoch (epochs_in log q)) _ h

opened-mapped : (log : List Entry) (q : List ℕ) (f : Life → Life) → ((l : Life) → (f l).epoch ≡ l.epoch)
    → (o : Option Life) → WasOpened log q o → WasOpened log q (option_map f o)
opened-mapped log q f e None h = tt
opened-mapped log q f e (Some l) h = ap (λ i. is_among i (epochs_in log q)) (e l) ∙ h

opened-by : (log : List Entry) (q : List ℕ) (b : Bool) (x y : Option Life) → (b ≡ true → WasOpened log q x)
    → WasOpened log q y → WasOpened log q (cond b x y)
opened-by log q true x y h k = h refl
opened-by log q false x y h k = k

opened-step : (sizes : NamespaceTable) (log : List Entry) (x : Entry) (q : List ℕ) (o : Option Life) → WasOpened log q o
    → WasOpened (log ++ x ∷ []) q (changed sizes q o x)
opened-step sizes log (Open c e) q o h =
    opened-by (log ++ Open c e ∷ []) q (bytes_eq c q) (Some (opened_life e)) o
    (λ t. ap (λ es. is_among e es) (epochs-more log (Open c e) q)
    ∙ among-append e (epochs_in log q) (filter_map (opening_of q) (Open c e ∷ []))
    ∙ ap (λ b. is_among e (epochs_in log q) || b)
    (ap (λ (b : Bool). is_among e (filter_map (λ (o : Option (List ℕ)). o) ((if b then Some e else None) ∷ []))) t
    ∙ or-first (bytes_eq e e) false (itself e))
    ∙ or-true (is_among e (epochs_in log q)))
    (opened-before log (Open c e) q o h)
  where
    or-true : (a : Bool) → (a || true) ≡ true
    or-true true = refl
    or-true false = refl
opened-step sizes log (Publish c key d) q o h =
    opened-by (log ++ Publish c key d ∷ []) q (bytes_eq c q) (option_map (published (size_at sizes q) key d) o) o
    (λ t. opened-mapped (log ++ Publish c key d ∷ []) q (published (size_at sizes q) key d) (λ l. refl) o
    (opened-before log (Publish c key d) q o h)) (opened-before log (Publish c key d) q o h)
opened-step sizes log (Trim c n) q o h =
    opened-by (log ++ Trim c n ∷ []) q (bytes_eq c q) (option_map (kept_newest n) o) o
    (λ t. opened-mapped (log ++ Trim c n ∷ []) q (kept_newest n) (λ l. refl) o (opened-before log (Trim c n) q o h))
    (opened-before log (Trim c n) q o h)
opened-step sizes log (Forget c) q o h =
    opened-by (log ++ Forget c ∷ []) q (bytes_eq c q) None o (λ t. tt) (opened-before log (Forget c) q o h)
opened-step sizes log (Size name n) q o h =
    opened-by (log ++ Size name n ∷ []) q (in_namespace name q) (option_map (kept_newest n) o) o
    (λ t. opened-mapped (log ++ Size name n ∷ []) q (kept_newest n) (λ l. refl) o
    (opened-before log (Size name n) q o h)) (opened-before log (Size name n) q o h)

pub life-more : (sizes : NamespaceTable) (log : List Entry) (x : Entry) (q : List ℕ)
    → life_in sizes (log ++ x ∷ []) q ≡ changed (sizes_in sizes log) q (life_in sizes log q) x
life-more sizes log x q = life_in-append sizes q (x ∷ []) log

opened-from : (sizes : NamespaceTable) (q : List ℕ) (es log : List Entry) → WasOpened log q (life_in sizes log q)
    → WasOpened (log ++ es) q (life_in sizes (log ++ es) q)
opened-from sizes q [] log h = subst (λ l. WasOpened l q (life_in sizes l q)) (sym (append-nil log)) h
opened-from sizes q (x ∷ es) log h =
    subst (λ l. WasOpened l q (life_in sizes l q)) (append_assoc log (x ∷ []) es)
    (opened-from sizes q es (log ++ x ∷ [])
    (subst (WasOpened (log ++ x ∷ []) q) (sym (life-more sizes log x q))
    (opened-step (sizes_in sizes log) log x q (life_in sizes log q) h)))

-- the epoch in which a channel's stream stands is one in which it was opened
pub was_opened : (sizes : NamespaceTable) (log : List Entry) (q : List ℕ) → WasOpened log q (life_in sizes log q)
was_opened sizes log q = opened-from sizes q log [] tt

-- ---- THE TIE OF ONE LOG

opened-there : (log : List Entry) (q e : List ℕ) (o : Option Life) → WasOpened log q o → IsSomeAnd o (λ k. k.epoch ≡ e)
    → is_among e (epochs_in log q) ≡ true
opened-there log q e None h k = absurd k
opened-there log q e (Some z) h k = ap (λ i. is_among i (epochs_in log q)) (sym k) ∙ h

-- an entry that the log of one shard gains, and the log of this one
module _ (cfg : Config) (its : List ℕ → Bool) (sizes : NamespaceTable) (w : World) (x : Entry)
    (g : Gains cfg its sizes w x)
    (mine : List ℕ → Bool) (log : List Entry) (l : IsLogOf mine cfg.namespaces log w.broker) where
  -- nothing is listed where nothing was opened
  unopened-more : (q e : List ℕ) → mine q ≡ true → is_among e (epochs_in log q) ≡ false
      → (gain cfg its x w.broker).lists q e ≡ []
  unopened-more q e own h =
      elim (g.listed q e) [
        | inl same ↦ same ∙ l.unopened q e own h
        | inr k ↦ absurd (both_ways (is_among e (epochs_in log q)) h
            (opened-there log q e (life_in cfg.namespaces log q) (was_opened cfg.namespaces log q)
            (subst (λ (o : Option Life). IsSomeAnd o (λ z. z.epoch ≡ e)) (l.life q own) k)))
      ]

  -- where it is another shard
  pub keeps-other : IsApart mine its x → IsLogOf mine cfg.namespaces log (gain cfg its x w.broker)
  keeps-other apart = record {
    life = λ q own. g.life q ∙ ap (λ (t : Bool). cond t (anew (size_at sizes q) (life_at w.broker q) x)
        (life_at w.broker q)) (elsewhere q own) ∙ l.life q own;
    size = λ q own. ap (λ (o : Option ℕ). size_by o (settings_of cfg.namespaces q)) (g.same_size q (elsewhere q own))
        ∙ l.size q own;
    unopened = unopened-more;
  }
    where
      elsewhere : (q : List ℕ) → mine q ≡ true → is_about its x q ≡ false
      elsewhere q own = false_from_ne_true (is_about its x q) (λ h. both_ways (mine q) (apart q h) own)

-- at a channel of the shard an entry does what it does in its log
own_change : (its : List ℕ → Bool) (sizes : NamespaceTable) (q : List ℕ) → its q ≡ true → (o : Option Life) (x : Entry)
    → cond (is_about its x q) (anew (size_at sizes q) o x) o ≡ changed sizes q o x
own_change its sizes q own o (Open c e) = refl
own_change its sizes q own o (Publish c key d) = refl
own_change its sizes q own o (Trim c n) = refl
own_change its sizes q own o (Forget c) = refl
own_change its sizes q own o (Size name n) =
    ap (λ (t : Bool). cond (t && in_namespace name q) (option_map (kept_newest n) o) o) own

-- the shard that has the entry
pub keeps-mine : (cfg : Config) (mine : List ℕ → Bool) (log : List Entry) (w : World) (x : Entry)
    → Gains cfg mine (sizes_in cfg.namespaces log) w x
    → IsLogOf mine cfg.namespaces log w.broker → IsLogOf mine cfg.namespaces (log ++ x ∷ []) (gain cfg mine x w.broker)
keeps-mine cfg mine log w x g l =
    let sizes : NamespaceTable = sizes_in cfg.namespaces log in
    record {
      life = λ q own.
          g.life q ∙ own_change mine sizes q own (life_at w.broker q) x
          ∙ ap (λ (o : Option Life). changed sizes q o x) (l.life q own)
          ∙ sym (life-more cfg.namespaces log x q);
      size = λ q own. g.size q own ∙ ap (λ (t : NamespaceTable). size_at t q)
          (sym (sizes_in-append cfg.namespaces log (x ∷ [])));
      unopened = λ q e own h. unopened-more cfg mine sizes w x g mine log l q e own (not_before log x q e h);
    }
