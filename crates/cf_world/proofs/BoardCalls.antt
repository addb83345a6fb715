-- The broker beside the machine's, after each of its calls.
use Rattle.std.proofs.Common.{◌≡◌, ◌≤◌, ℕ, ℤ, ◌-◌, ◌==◌, ◌||◌, Bool, true, false, [], ◌∷◌, ◌++◌, Option, Some, None}
use Rattle.std.proofs.Common.{option_map, is_some, if◌then◌else◌, List, length, refl, sym, ap, subst, ◌∙◌}
use Rattle.std.specs.List.{All, AllZip}
use Rattle.std.specs.Str.{bytes_eq}
use Rattle.std.proofs.lemmas.List.Elements.{All-append}
use Rattle.std.proofs.lemmas.Option.{same_Some}
use Rattle.cf_protocol.specs.Epoch.{IsEpoch}
use Rattle.std.specs.BTreeSet.{contains_text}
use Rattle.cf_protocol.specs.Names.{with}
use Rattle.cf_protocol.specs.Datum.{Datum}
use Rattle.cf_protocol.specs.Note.{Lists, placed_from}
use Rattle.cf_protocol.specs.Position.{Position}
use Rattle.cf_protocol.specs.Settings.{NamespaceTable, entry_at, namespace_of, settings_of, with_size}
use Rattle.cf_protocol.specs.declared.settings.Settings.{Settings}
use Rattle.cf_stream.specs.Stream.{Shown}
use Rattle.cf_model.specs.Streams.{StreamState, last_offset, with_at_most}
use Rattle.cf_model.specs.Streams.{Listing, listed_above, read_of}
use Rattle.cf_stream.specs.Streams.{StreamMap, size_of as stream_size, stream_of}
use Rattle.cf_model.specs.Streams.{in_namespace}
use Rattle.cf_stream.specs.PublicationList.{kept_newest, state_of, IsListed, IsRead}
use Rattle.cf_model.specs.Streams.{Life}
use Rattle.cf_stream.specs.ChannelLists.{AreShown, ChangesAt, ChangesSize, ListsAt, ReadsAt, StandsAt, life_or}
use Rattle.cf_stream.specs.ChannelLists.{stands_at as life_stands}
use Rattle.cf_stream.specs.FreshEpochs.{Draws}
use Rattle.cf_stream.specs.declared.answer.History.{History}
use Rattle.cf_stream.specs.declared.answer.Recovery.{Recovery}
use Rattle.cf_machine.specs.ReadBack.{IsDatum}
use Rattle.cf_world.specs.BrokerTie.{AreSized, IsAccepted, IsStanding, ShowsBroker, Brings, Finds, FindsPast}
use Rattle.cf_machine.specs.FreshEpochs.{AreFresh}
use Rattle.cf_machine.specs.IntervalMachine.{size_by}
use Rattle.cf_machine.specs.Lives.{life_at, life_by}
use Rattle.cf_machine.specs.PublicationList.{Broker, Keys, epoch_comes, no_stream, opened, set_size, stands_at, trim}
use Rattle.cf_machine.specs.PublicationList.{trim_at, forget, forget_all}
use Rattle.cf_world.specs.declared.broker.WorldBroker.{WorldBroker as Code}
use Rattle.cf_world.specs.declared.epochs.WaitingEpochs.{WaitingEpochs}
use Rattle.cf_world.proofs.Boards.{shown-as, shown-changed, sized-still, life_of, takes_front, Opened, draws_opened}
use Rattle.cf_world.proofs.Named.{all-one}
use Rattle.cf_machine.proofs.Names.{with-all, with-same, with-other}
use Rattle.cf_protocol.proofs.Sizes.{entry_at-with_size}

-- ---- other streams over the same lists

pub shows-with : (table : NamespaceTable) (b new : Code) (m : Broker) (streams : List ℕ → Option StreamState)
    → ShowsBroker table b m
    → new.streams.namespaces ≡ b.streams.namespaces → new.epochs ≡ b.epochs → new.accepted ≡ b.accepted
    → AreShown new.streams (life_at (record m { streams = streams }))
    → ((q : List ℕ) (s : StreamState) → streams q ≡ Some s → IsStanding m.lists q s)
    → ShowsBroker table new (record m { streams = streams })
shows-with table b new m streams h ns epochs accepted shown standing = record {
  namespaces = sized-still table b.streams.namespaces new.streams.namespaces m.sizes m.sizes ns refl h.namespaces;
  waiting = ap (λ (w : WaitingEpochs). w.waiting.items) epochs ∙ h.waiting;
  came = λ x. ap (λ (w : WaitingEpochs). contains_text w.came x) epochs ∙ h.came x;
  epochs = h.epochs;
  streams = shown;
  standing = standing;
  accepted = subst (λ v. AllZip (IsAccepted m.lists) v.items m.accepted) (sym accepted) h.accepted;
  regular = h.regular;
  bounded = h.bounded;
  keyed = h.keyed;
}

-- nothing but the set of epochs was gone through
pub shows-same : (table : NamespaceTable) (b new : Code) (m : Broker) → ShowsBroker table b m
    → new.streams ≡ b.streams → new.epochs.waiting.items ≡ b.epochs.waiting.items
    → ((x : List ℕ) → contains_text new.epochs.came x ≡ contains_text b.epochs.came x)
    → new.accepted ≡ b.accepted → ShowsBroker table new m
shows-same table b new m h streams waiting came accepted = record {
  namespaces =
      sized-still table b.streams.namespaces new.streams.namespaces m.sizes m.sizes
      (ap (λ (k : StreamMap). k.namespaces) streams) refl h.namespaces;
  waiting = waiting ∙ h.waiting;
  came = λ x. came x ∙ h.came x;
  epochs = h.epochs;
  streams = subst (λ (k : StreamMap). AreShown k (life_at m)) (sym streams) h.streams;
  standing = h.standing;
  accepted = subst (λ v. AllZip (IsAccepted m.lists) v.items m.accepted) (sym accepted) h.accepted;
  regular = h.regular;
  bounded = h.bounded;
  keyed = h.keyed;
}

module _ (table : NamespaceTable) (b new : Code) (m : Broker) (h : ShowsBroker table b m) (c : List ℕ)
    (ns : new.streams.namespaces ≡ b.streams.namespaces) (epochs : new.epochs ≡ b.epochs)
    (accepted : new.accepted ≡ b.accepted) where
  -- ---- a trim
  trims : (n : ℕ) → ChangesAt b.streams new.streams c (option_map (kept_newest n)) → (o : Option StreamState)
      → m.streams c ≡ o → ShowsBroker table new (trim_at c n o m)
  trims n ch None j =
      let here : option_map (kept_newest n) (life_at m c) ≡ life_at m c =
      ap (λ (y : Option StreamState). option_map (kept_newest n) (option_map (life_of (m.lists c) (m.keys c)) y)) j
      ∙ sym (ap (option_map (life_of (m.lists c) (m.keys c))) j) in
      shows-with table b new m m.streams h ns epochs accepted
      (shown-changed b.streams new.streams c (option_map (kept_newest n)) (life_at m) (life_at m) ch h.streams here
      (λ q ne. refl)) h.standing
  trims n ch (Some s) j =
      let streams : List ℕ → Option StreamState = with m.streams c (Some (with_at_most n s)) in
      let m2 : Broker = record m { streams = streams } in
      let here : option_map (kept_newest n) (life_at m c) ≡ life_at m2 c =
      ap (λ (y : Option StreamState). option_map (kept_newest n) (option_map (life_of (m.lists c) (m.keys c)) y)) j
      ∙ sym (ap (option_map (life_of (m.lists c) (m.keys c))) (with-same m.streams c (Some (with_at_most n s)))) in
      let stood = h.standing c s j in
      shows-with table b new m streams h ns epochs accepted
      (shown-changed b.streams new.streams c (option_map (kept_newest n)) (life_at m) (life_at m2) ch h.streams here
      (λ q ne. sym (ap (option_map (life_of (m.lists q) (m.keys q)))
      (with-other m.streams c (Some (with_at_most n s)) q ne))))
      (with-all (λ q (y : Option StreamState). (s : StreamState) → y ≡ Some s → IsStanding m.lists q s) m.streams c
      (Some (with_at_most n s))
      (λ t i. let is : with_at_most n s ≡ t = cc in subst (IsStanding m.lists c) is
      (record { top = stood.top; within = stood.within; epoch = stood.epoch }))
      (λ q ne. h.standing q))

  -- ---- a stream ends
  forgets : ChangesAt b.streams new.streams c (λ _. None) → ShowsBroker table new (forget c m)
  forgets ch =
      let streams : List ℕ → Option StreamState = with m.streams c None in
      let m2 : Broker = record m { streams = streams } in
      shows-with table b new m streams h ns epochs accepted
      (shown-changed b.streams new.streams c (λ _. None) (life_at m) (life_at m2) ch h.streams
      (sym (ap (option_map (life_of (m.lists c) (m.keys c))) (with-same m.streams c None)))
      (λ q ne. sym (ap (option_map (life_of (m.lists q) (m.keys q))) (with-other m.streams c None q ne))))
      (with-all (λ q (y : Option StreamState). (s : StreamState) → y ≡ Some s → IsStanding m.lists q s) m.streams c None
      (λ t i. absurd (cc)) (λ q ne. h.standing q))

  forgets_none : ChangesAt b.streams new.streams c (λ _. None) → m.streams c ≡ None → ShowsBroker table new m
  forgets_none ch j =
      shows-with table b new m m.streams h ns epochs accepted
      (shown-changed b.streams new.streams c (λ _. None) (life_at m) (life_at m) ch h.streams
      (sym (ap (option_map (life_of (m.lists c) (m.keys c))) j)) (λ q ne. refl)) h.standing

  forgets_by : ChangesAt b.streams new.streams c (λ _. None) → (o : Option StreamState) → m.streams c ≡ o
      → ShowsBroker table new (if is_some o then forget c m else m)
  forgets_by ch None j = forgets_none ch j
  forgets_by ch (Some s) j = forgets ch

pub trim_shows : (table : NamespaceTable) (b new : Code) (m : Broker) (c : List ℕ) (n : ℕ) → ShowsBroker table b m
    → new.streams.namespaces ≡ b.streams.namespaces → new.epochs ≡ b.epochs → new.accepted ≡ b.accepted
    → ChangesAt b.streams new.streams c (option_map (kept_newest n)) → ShowsBroker table new (trim c n m)
trim_shows table b new m c n h ns epochs accepted ch =
    trims table b new m h c ns epochs accepted n ch (m.streams c) refl

pub forget_shows : (table : NamespaceTable) (b new : Code) (m : Broker) (c : List ℕ) → ShowsBroker table b m
    → new.streams.namespaces ≡ b.streams.namespaces → new.epochs ≡ b.epochs → new.accepted ≡ b.accepted
    → ChangesAt b.streams new.streams c (λ _. None)
    → ShowsBroker table new (if is_some (m.streams c) then forget c m else m)
forget_shows table b new m c h ns epochs accepted ch =
    forgets_by table b new m h c ns epochs accepted ch (m.streams c) refl

pub restart_shows : (table : NamespaceTable) (b new : Code) (m : Broker) → ShowsBroker table b m
    → new.streams.namespaces ≡ b.streams.namespaces → new.epochs ≡ b.epochs → new.accepted ≡ b.accepted
    → AreShown new.streams (λ _. None) → ShowsBroker table new (forget_all m)
restart_shows table b new m h ns epochs accepted none =
    shows-with table b new m no_stream h ns epochs accepted none (λ q s i. absurd (cc))

-- ---- a namespace gets another size

is_some-map : {A : Type 0} (f : A → A) (o : Option A) → is_some (option_map f o) ≡ is_some o
is_some-map f None = refl
is_some-map f (Some s) = refl

-- a channel's size, by whether its namespace is the one
size-set : (t : Bool) (n : ℕ) (now set : Option Settings) (was : Option ℕ) → is_some now ≡ is_some set
    → stream_size now ≡ size_by was set
    → stream_size (option_map (λ (s : Settings). if t then record s { size = n } else s) now)
    ≡ size_by (if t then Some n else was) set
size-set true n None None was h k = refl
size-set true n None (Some r) was h k = absurd (cc)
size-set true n (Some s) None was h k = absurd (cc)
size-set true n (Some s) (Some r) was h k = refl
size-set false n None set was h k = k
size-set false n (Some s) set was h k = k

sized-anew : (table now : NamespaceTable) (was : List ℕ → Option ℕ) (name : List ℕ) (n : ℕ) → AreSized table now was
    → AreSized table (with_size name n now) (λ c. if in_namespace name c then Some n else was c)
sized-anew table now was name n h = record {
  names = λ k. ap is_some (entry_at-with_size name n now k) ∙ (is_some-map _ (entry_at now k) ∙ h.names k);
  size = λ c.
      ap stream_size (entry_at-with_size name n now (namespace_of c))
      ∙ size-set (in_namespace name c) n (settings_of now c) (settings_of table c) (was c) (h.names (namespace_of c))
      (h.size c);
}

-- a stream of it holds no more than that
life-set : (t : Bool) (n : ℕ) (list : List ℕ → List Datum) (keys : List ℕ → List (List ℕ)) (o : Option StreamState)
    → (if t then option_map (kept_newest n) (option_map (life_of list keys) o) else option_map (life_of list keys) o)
    ≡ option_map (life_of list keys) (if t then option_map (with_at_most n) o else o)
life-set true n list keys None = refl
life-set true n list keys (Some s) = refl
life-set false n list keys o = refl

stands-set : (t : Bool) (n : ℕ) (lists : Lists) (q : List ℕ) (o : Option StreamState)
    → ((s : StreamState) → o ≡ Some s → IsStanding lists q s)
    → (s : StreamState) → (if t then option_map (with_at_most n) o else o) ≡ Some s → IsStanding lists q s
stands-set true n lists q None h s i = absurd (cc)
stands-set true n lists q (Some r) h s i =
    let stood = h r refl in
    let is : with_at_most n r ≡ s = cc in
    subst (IsStanding lists q) is (record { top = stood.top; within = stood.within; epoch = stood.epoch })
stands-set false n lists q o h s i = h s i

pub size_shows : (table : NamespaceTable) (b new : Code) (m : Broker) (name : List ℕ) (n : ℕ) → ShowsBroker table b m
    → new.streams.namespaces ≡ with_size name n b.streams.namespaces → new.epochs ≡ b.epochs → new.accepted ≡ b.accepted
    → ChangesSize b.streams new.streams name n → ShowsBroker table new (set_size (in_namespace name) n m)
size_shows table b new m name n h ns epochs accepted ch =
    let after : Broker = set_size (in_namespace name) n m in
    record {
      namespaces =
          subst (λ (t : NamespaceTable). AreSized table t after.sizes) (sym ns)
          (sized-anew table b.streams.namespaces m.sizes name n h.namespaces);
      waiting = ap (λ (w : WaitingEpochs). w.waiting.items) epochs ∙ h.waiting;
      came = λ x. ap (λ (w : WaitingEpochs). contains_text w.came x) epochs ∙ h.came x;
      epochs = h.epochs;
      streams = shown-as new.streams _ (life_at after) (ch.shows (life_at m) h.streams)
          (λ q. life-set (in_namespace name q) n (m.lists q) (m.keys q) (m.streams q));
      standing = λ q. stands-set (in_namespace name q) n m.lists q (m.streams q) (h.standing q);
      accepted = subst (λ v. AllZip (IsAccepted m.lists) v.items m.accepted) (sym accepted) h.accepted;
      regular = h.regular;
      bounded = h.bounded;
      keyed = h.keyed;
    }

-- it is set up, or nothing changes
pub size_shows_if : (table : NamespaceTable) (b : Code) (m : Broker) (name : List ℕ) (n : ℕ) → ShowsBroker table b m
    → (set : Bool) → set ≡ is_some (entry_at b.streams.namespaces name)
    → (new : Code) → ShowsBroker table new (if set then set_size (in_namespace name) n m else m)
    → ShowsBroker table new (if is_some (entry_at table name) then set_size (in_namespace name) n m else m)
size_shows_if table b m name n h set is new shows =
    subst (λ (t : Bool). ShowsBroker table new (if t then set_size (in_namespace name) n m else m))
    (is ∙ h.namespaces.names name) shows

-- ---- the stream of a channel stands, or was opened

pub opened_shows : (table : NamespaceTable) (b new : Code) (m m1 : Broker) → ShowsBroker table b m
    → (k : Option Shown) (c e : List ℕ) (o : Opened b m m1 k c e new.epochs)
    → new.streams.namespaces ≡ b.streams.namespaces → (change : Option Life → Option Life)
    → ChangesAt b.streams new.streams c change
    → change (life_at m c) ≡ Some (life_of (m1.lists c) (m1.keys c) o.state) → new.accepted ≡ b.accepted
    → ShowsBroker table new m1
opened_shows table b new m m1 h k c e o ns change ch here accepted = record {
  namespaces = sized-still table b.streams.namespaces new.streams.namespaces m.sizes m1.sizes ns o.sizes h.namespaces;
  waiting = o.waiting;
  came = o.came;
  epochs = o.epochs;
  streams = shown-changed b.streams new.streams c change (life_at m) (life_at m1) ch h.streams
      (here ∙ sym (ap (option_map (life_of (m1.lists c) (m1.keys c))) o.stands)) o.others;
  standing = o.standing;
  accepted = subst (λ v. AllZip (IsAccepted m1.lists) v.items m1.accepted) (sym accepted) o.accepted;
  regular = subst (λ (t : Lists). (x i : List ℕ) → All IsDatum (t x i)) (sym o.lists) h.regular;
  bounded = subst (λ (t : Lists). (x i : List ℕ) → length (t x i) ≤ last_offset) (sym o.lists) h.bounded;
  keyed = subst (λ (ks : Keys). (x i : List ℕ) → length (ks x i) ≡ length (m1.lists x i)) (sym o.keys)
      (subst (λ (t : Lists). (x i : List ℕ) → length (m.keys x i) ≡ length (t x i)) (sym o.lists) h.keyed);
}

-- ---- where a stream stands

stands-by : (lists : Lists) (keys : Keys) (c : List ℕ) (o : Option StreamState)
    → ((s : StreamState) → o ≡ Some s → IsStanding lists c s)
    → option_map life_stands (life_by (lists c) (keys c) o) ≡ stands_at o
stands-by lists keys c None h = refl
stands-by lists keys c (Some s) h = ap (λ (n : ℕ). Some (record { epoch = s.epoch; offset = n })) (sym (h s refl).top)

pub top-stands : (table : NamespaceTable) (b : Code) (m : Broker) → ShowsBroker table b m
    → (c : List ℕ) (o : Option Position) → StandsAt b.streams c o → o ≡ stands_at (m.streams c)
top-stands table b m h c o at = at.off (life_at m) h.streams ∙ stands-by m.lists m.keys c (m.streams c) (h.standing c)

-- ---- a read

pub read_shows : (table : NamespaceTable) (b new : Code) (m : Broker) (c : List ℕ) (since : Option Position)
    (r : Recovery)
    → ShowsBroker table b m → AreFresh m → Draws takes_front (stream_of b.streams c) r.position.epoch b.epochs
    new.epochs
    → new.streams.namespaces ≡ b.streams.namespaces
    → ChangesAt b.streams new.streams c (λ l. Some (life_or l r.position.epoch))
    → ReadsAt b.streams c since r.position r.recovered r.publications.items → new.accepted ≡ b.accepted
    → Finds table m c since new r
read_shows table b new m c since r h fresh drawn ns ch reads accepted =
    let e : List ℕ = r.position.epoch in
    let o : Opened b m (opened c m) (stream_of b.streams c) c e new.epochs =
    (draws_opened table b m h c e new.epochs fresh drawn).0 in
    let m1 : Broker = opened c m in
    let s : StreamState = o.state in
    let list : List Datum = m1.lists c s.epoch in
    let top : s.top ≡ length list = (o.standing c s o.stands).top in
    let found : IsRead (life_of (m1.lists c) (m1.keys c) s) since r.position r.recovered r.publications.items =
    subst (λ (l : Life). IsRead l since r.position r.recovered r.publications.items) o.life
    (reads.off (life_at m) h.streams) in
    let state : state_of (life_of (m1.lists c) (m1.keys c) s) ≡ s =
    ap (λ (n : ℕ). record { epoch = s.epoch; top = n; held = s.held }) (sym top) in
    let brings : Brings m1.lists c since s r = record {
      at = found.at ∙ ap (λ (n : ℕ). record { epoch = s.epoch; offset = n }) (sym top);
      recovered = found.exact ∙ ap (λ (t : StreamState). (read_of since t).recovered) state;
      publications =
          found.run ∙ ap (λ (t : StreamState). placed_from list (read_of since t).low (t.top - (read_of since t).low))
          state;
    } in
    record {
      state = s;
      stands = o.stands;
      brings = subst (λ (t : Lists). Brings t c since s r) o.lists brings;
      shows = opened_shows table b new m m1 h (stream_of b.streams c) c e o ns (λ l. Some (life_or l e)) ch
          (ap (λ (l : Life). Some l) o.life) accepted;
    }

-- ---- a history

pub history_shows : (table : NamespaceTable) (b new : Code) (m : Broker) (c : List ℕ) (limit : ℤ) (h : History)
    → ShowsBroker table b m → AreFresh m → Draws takes_front (stream_of b.streams c) h.position.epoch b.epochs
    new.epochs
    → new.streams.namespaces ≡ b.streams.namespaces
    → ChangesAt b.streams new.streams c (λ l. Some (life_or l h.position.epoch))
    → ListsAt b.streams c None limit h.position h.publications.items → new.accepted ≡ b.accepted
    → FindsPast table m c limit new h
history_shows table b new m c limit h shows fresh drawn ns ch lists accepted =
    let e : List ℕ = h.position.epoch in
    let o : Opened b m (opened c m) (stream_of b.streams c) c e new.epochs =
    (draws_opened table b m shows c e new.epochs fresh drawn).0 in
    let m1 : Broker = opened c m in
    let s : StreamState = o.state in
    let list : List Datum = m1.lists c s.epoch in
    let top : s.top ≡ length list = (o.standing c s o.stands).top in
    let found : IsListed (life_of (m1.lists c) (m1.keys c) s) None limit h.position h.publications.items =
    subst (λ (l : Life). IsListed l None limit h.position h.publications.items) o.life
    (lists.off (life_at m) shows.streams) in
    let state : state_of (life_of (m1.lists c) (m1.keys c) s) ≡ s =
    ap (λ (n : ℕ). record { epoch = s.epoch; top = n; held = s.held }) (sym top) in
    let listing : listed_above 0 limit s ≡ found.listing =
    ap (listed_above 0 limit) (sym state) ∙ same_Some _ _ found.is in
    let run : h.publications.items ≡ placed_from list (listed_above 0 limit s).low (listed_above 0 limit s).count =
    found.run ∙ ap (λ (l : Listing). placed_from list l.low l.count) (sym listing) in
    record {
      state = s;
      stands = o.stands;
      at = found.at ∙ ap (λ (l : Listing). l.at) (sym listing);
      publications =
          subst (λ (t : Lists). h.publications.items ≡ placed_from (t c s.epoch) (listed_above 0 limit s).low
          (listed_above 0 limit s).count) o.lists run;
      shows = opened_shows table b new m m1 shows (stream_of b.streams c) c e o ns (λ l. Some (life_or l e)) ch
          (ap (λ (l : Life). Some l) o.life) accepted;
    }

-- ---- an epoch comes

epoch_by : (table : NamespaceTable) (b : Code) (m : Broker) (e : List ℕ) (new : WaitingEpochs) → ShowsBroker table b m
    → IsEpoch e → (t : Bool)
    → new.waiting.items ≡ (if t then b.epochs.waiting.items else b.epochs.waiting.items ++ e ∷ [])
    → ((x : List ℕ) → contains_text new.came x ≡ (if t then contains_text b.epochs.came x else bytes_eq e x
    || contains_text b.epochs.came x))
    → ShowsBroker table (record b { epochs = new })
    (if t then m else record m { waiting = m.waiting ++ e ∷ []; came = e ∷ m.came })
epoch_by table b m e new h letters true waiting came =
    shows-same table b (record b { epochs = new }) m h refl waiting came refl
epoch_by table b m e new h letters false waiting came = record {
  namespaces = h.namespaces;
  waiting = waiting ∙ ap (λ (es : List (List ℕ)). es ++ e ∷ []) h.waiting;
  came = λ x. came x ∙ ap (λ (t : Bool). bytes_eq e x || t) (h.came x);
  epochs = All-append IsEpoch m.waiting (e ∷ []) h.epochs (all-one IsEpoch e letters);
  streams = h.streams;
  standing = h.standing;
  accepted = h.accepted;
  regular = h.regular;
  bounded = h.bounded;
  keyed = h.keyed;
}

pub epoch_shows : (table : NamespaceTable) (b : Code) (m : Broker) (e : List ℕ) (new : WaitingEpochs)
    → ShowsBroker table b m → IsEpoch e
    → new.waiting.items ≡ (if (length e == 0) || contains_text b.epochs.came e then b.epochs.waiting.items
    else b.epochs.waiting.items ++ e ∷ [])
    → ((x : List ℕ) → contains_text new.came x ≡ (if (length e == 0)
    || contains_text b.epochs.came e then contains_text b.epochs.came x else bytes_eq e x
    || contains_text b.epochs.came x))
    → ShowsBroker table (record b { epochs = new }) (epoch_comes e m)
epoch_shows table b m e new h letters waiting came =
    subst (λ (t : Bool). ShowsBroker table (record b { epochs = new })
    (if (length e == 0) || t then m else record m { waiting = m.waiting ++ e ∷ []; came = e ∷ m.came })) (h.came e)
    (epoch_by table b m e new h letters ((length e == 0) || contains_text b.epochs.came e) waiting came)
