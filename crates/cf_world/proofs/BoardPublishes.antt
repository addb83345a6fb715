-- The broker beside the machine's, after a publish, and where none can be drawn.
use Rattle.std.proofs.Common.{◌≡◌, ◌≢◌, ◌≤◌, ◌<◌, ℕ, ◌+◌, ◌&&◌, min, Bool, true, false, not, cond, nat_lt, Option, Some}
use Rattle.std.proofs.Common.{None, option_map, is_some, List, [], ◌∷◌, ◌++◌, length, slice_get, drop, length-append}
use Rattle.std.proofs.Common.{arith, refl, sym, ap, subst, ◌∙◌}
use Rattle.std.specs.List.{All, AllZip}
use Rattle.std.proofs.lemmas.List.Elements.{All-append}
use Rattle.std.specs.Option.{IsSome}
use Rattle.std.specs.String.{string_bytes}
use Rattle.std.specs.BTreeSet.{contains_text}
use Rattle.std.proofs.lemmas.Bool.{both_ways, lt-ltb}
use Rattle.cf_protocol.specs.Names.{with, is_among}
use Rattle.cf_protocol.specs.Epoch.{IsEpoch}
use Rattle.cf_protocol.specs.Datum.{Datum}
use Rattle.cf_protocol.specs.Note.{Lists}
use Rattle.cf_protocol.specs.Regular.{IsPlaced, IsBody, IsInfo}
use Rattle.cf_protocol.specs.Settings.{NamespaceTable, namespace_of, settings_of}
use Rattle.cf_model.specs.Keys.{KeyAt, recent, repeat_of, repeated_in}
use Rattle.cf_stream.specs.Stream.{Shown, IsAtLast, answer_by, answer_to, repeated_by}
use Rattle.cf_model.specs.Streams.{StreamState, last_offset, with_one_more}
use Rattle.cf_stream.specs.Streams.{stream_of, stood_or, size_at}
use Rattle.cf_stream.specs.PublicationList.{offered, published}
use Rattle.cf_model.specs.Streams.{Life}
use Rattle.cf_stream.specs.ChannelLists.{ChangesAt, life_with}
use Rattle.cf_stream.specs.declared.answer.Published.{Published}
use Rattle.cf_stream.specs.FreshEpochs.{Draws, DrawsNone, IsNoEpoch}
use Rattle.cf_machine.specs.ReadBack.{IsDatum}
use Rattle.cf_world.specs.BrokerTie.{IsAccepted, ShowsBroker, FindsNone, Publishes}
use Rattle.cf_machine.specs.FreshEpochs.{AreFresh}
use Rattle.cf_machine.specs.Lives.{life_at}
use Rattle.cf_machine.specs.PublicationList.{Broker, Keys, opened, open_at, can_open, is_full, is_repeat, repeats}
use Rattle.cf_machine.specs.PublicationList.{stands_or_opens, keys_with, list_with, add_at}
use Rattle.cf_world.specs.declared.broker.AcceptedPublication.{AcceptedPublication}
use Rattle.cf_world.specs.declared.broker.WorldBroker.{WorldBroker as Code}
use Rattle.cf_world.specs.declared.broker.PublishOutcome.TheVariants as outcome
use Rattle.cf_world.specs.declared.epochs.WaitingEpochs.{WaitingEpochs}
use Rattle.cf_world.proofs.BoardLists.{grown-list_with, keyed-with, keyed_here, listed_here, all-accepted-later}
use Rattle.cf_world.proofs.BoardLists.{all-zip-snoc, accepted-now}
use Rattle.cf_world.proofs.Boards.{shown-changed, sized-still, life_of, takes_front, Opened, draws_opened, shows_here}
use Rattle.cf_world.proofs.BoardCalls.{opened_shows, shows-same}
use Rattle.cf_world.proofs.Named.{all-one}
use Rattle.cf_machine.proofs.Names.{itself, with-both, with-same, with-other, with-two}

-- what is said of a stream over its channel's lists
abbrev Stood : (List ℕ → List Datum) → StreamState → Type 0
Stood list s = (s.top ≡ length (list s.epoch)) × (s.top ≤ last_offset) × IsEpoch s.epoch

-- ---- a publication more in a stream that stands

module _ (table : NamespaceTable) (b new : Code) (m m1 : Broker) (h : ShowsBroker table b m) (k : Option Shown)
    (c e : List ℕ) (o : Opened b m m1 k c e new.epochs)
    (ns : new.streams.namespaces ≡ b.streams.namespaces) (size : ℕ) (key : List ℕ) (d : Datum)
    (ch : ChangesAt b.streams new.streams c (life_with size key d e))
    (anew : is_some (repeat_of key (m1.keys c o.state.epoch)) ≡ false)
    (room : o.state.top < last_offset) where
  abbrev pub s : StreamState
  s = o.state

  abbrev pub more : List ℕ → List Datum
  more = with (m1.lists c) s.epoch (m1.lists c s.epoch ++ d ∷ [])

  abbrev pub more_keys : List ℕ → List (List ℕ)
  more_keys = with (m1.keys c) s.epoch (m1.keys c s.epoch ++ key ∷ [])

  abbrev pub after : Broker
  after = record m1 {
    streams = with m1.streams c (Some (with_one_more size s));
    lists = list_with c s.epoch d m1.lists;
    keys = keys_with c s.epoch key m1.keys;
    accepted = m1.accepted ++ record { channel = c; at = record { epoch = s.epoch; offset = s.top + 1 } } ∷ [];
  }

  abbrev l1 : Life
  l1 = life_of (m1.lists c) (m1.keys c) s

  here : life_with size key d e (life_at m c) ≡ life_at after c
  here =
      ap (λ (l : Life). Some (offered size key d l)) o.life
      ∙ (ap (λ (t : Bool). Some (cond t l1 (published size key d l1))) anew
      ∙ ((λ i. Some (record {
        epoch = s.epoch;
        list = sym (listed_here m1.lists c s.epoch d) i;
        keys = sym (keyed_here m1.keys c s.epoch key) i;
        held = min (s.held + 1) size;
      }))
      ∙ sym (ap (option_map (life_of (after.lists c) (after.keys c)))
      (with-same m1.streams c (Some (with_one_more size s))))))

  there : (q : List ℕ) → q ≢ c → life_at m q ≡ life_at after q
  there q ne =
      o.others q ne
      ∙ ((λ i. option_map (life_of (sym (with-other m1.lists c more q ne) i)
      (sym (with-other m1.keys c more_keys q ne) i)) (m1.streams q))
      ∙ ap (option_map (life_of (after.lists q) (after.keys q)))
      (sym (with-other m1.streams c (Some (with_one_more size s)) q ne)))

  standing : (q : List ℕ) (t : StreamState) → after.streams q ≡ Some t → Stood (after.lists q) t
  standing =
      with-both (λ q (list : List ℕ → List Datum) (y : Option StreamState). (t : StreamState) → y ≡ Some t
      → Stood list t) m1.lists m1.streams c more (Some (with_one_more size s))
      (λ t i.
      let is : with_one_more size s ≡ t = cc in
      let stood = o.standing c s o.stands in
      let top : s.top + 1 ≡ length (more s.epoch) =
      rw (with-same (m1.lists c) s.epoch (m1.lists c s.epoch ++ d ∷ []), length-append, ← stood.top) refl in
      subst (Stood more) is (top, omega (arith, room), stood.epoch))
      (λ q ne t i. let stood = o.standing q t i in (stood.top, stood.within, stood.epoch))

  module _ (a : AcceptedPublication) (pushed : new.accepted.items ≡ b.accepted.items ++ a ∷ [])
      (channel : string_bytes a.channel ≡ c) (at : a.epoch ≡ e)
      (publication : a.publication ≡ record { offset = s.top + 1; datum = d }) (body : IsBody d.body)
      (info : IsInfo d.info) where
    regular : IsPlaced IsBody a.publication
    regular =
        let fits : s.top + 1 ≤ 18446744073709551615 = omega (arith, room) in
        subst (IsPlaced IsBody) (sym publication) (record { body = body; info = info; offset = fits })

    old_regular : (x i : List ℕ) → All IsDatum (m1.lists x i)
    old_regular = subst (λ (t : Lists). (x i : List ℕ) → All IsDatum (t x i)) (sym o.lists) h.regular

    old_bounded : (x i : List ℕ) → length (m1.lists x i) ≤ last_offset
    old_bounded = subst (λ (t : Lists). (x i : List ℕ) → length (t x i) ≤ last_offset) (sym o.lists) h.bounded

    old_keyed : (x i : List ℕ) → length (m1.keys x i) ≡ length (m1.lists x i)
    old_keyed =
        subst (λ (ks : Keys). (x i : List ℕ) → length (ks x i) ≡ length (m1.lists x i)) (sym o.keys)
        (subst (λ (t : Lists). (x i : List ℕ) → length (m.keys x i) ≡ length (t x i)) (sym o.lists) h.keyed)

    accepts : AllZip (IsAccepted after.lists) new.accepted.items after.accepted
    accepts =
        subst (λ (xs : List AcceptedPublication). AllZip (IsAccepted after.lists) xs after.accepted) (sym pushed)
        (all-zip-snoc (IsAccepted after.lists) b.accepted.items m1.accepted a _
        (all-accepted-later m1.lists after.lists b.accepted.items m1.accepted (grown-list_with m1.lists c s.epoch d)
        o.accepted)
        (accepted-now m1.lists c s.epoch d s.top a (o.standing c s o.stands).top channel (at ∙ sym o.epoch) publication
        regular))

    shows_after : ShowsBroker table new after
    shows_after = record {
      namespaces =
          sized-still table b.streams.namespaces new.streams.namespaces m.sizes m1.sizes ns o.sizes h.namespaces;
      waiting = o.waiting;
      came = o.came;
      epochs = o.epochs;
      streams = shown-changed b.streams new.streams c (life_with size key d e) (life_at m) (life_at after) ch h.streams
          here there;
      standing = λ q t i. let stood = standing q t i in record { top = stood.0; within = stood.1; epoch = stood.2 };
      accepted = accepts;
      regular =
          with-two (λ x i (l : List Datum). All IsDatum l) m1.lists c s.epoch (m1.lists c s.epoch ++ d ∷ [])
          (All-append IsDatum (m1.lists c s.epoch) (d ∷ []) (old_regular c s.epoch) (all-one IsDatum d (body, info)))
          old_regular;
      bounded =
          with-two (λ x i (l : List Datum). length l ≤ last_offset) m1.lists c s.epoch (m1.lists c s.epoch ++ d ∷ [])
          (let top = (o.standing c s o.stands).top in rw length-append (omega (arith, room, top))) old_bounded;
      keyed = keyed-with m1.lists m1.keys c s.epoch key d old_keyed;
    }

    pub added_shows : ShowsBroker table new (add_at size c key d (m1.streams c) m1)
    added_shows =
        subst (λ (y : Option StreamState). ShowsBroker table new (add_at size c key d y m1)) (sym o.stands)
        (subst (λ (t : Bool). ShowsBroker table new (cond (not t && nat_lt s.top last_offset) after m1)) (sym anew)
        (subst (λ (t : Bool). ShowsBroker table new (cond t after m1)) (sym (lt-ltb s.top last_offset room))
        shows_after))

-- a stream that did not refuse a new key has room
room_left : (k : Option Shown) (e key : List ℕ) (n : ℕ) → ((size : ℕ) → (stood_or k e size).top ≡ n) → n ≤ last_offset
    → repeated_by (stood_or k e 0) key ≡ None
    → (IsAtLast k key → ⊥) → n < last_offset
room_left None e key n top within none last = let zero' : 0 ≡ n = top 0 in omega arith
room_left (Some s) e key n top within none last =
    let same : s.top ≡ n = top 0 in
    let not_last : s.top ≢ last_offset = λ i. last (none, i) in
    omega arith

-- an answer says whether the publish was a repeat
answered_anew : (r : Option ℕ) (e : List ℕ) (top : ℕ) (p : Published) → p ≡ answer_by r e top → p.repeated ≡ false
    → (r ≡ None) × (p.position.offset ≡ top + 1)
answered_anew None e top p is no' = (refl, ap (λ (q : Published). q.position.offset) is)
answered_anew (Some o) e top p is no' = absurd (both_ways p.repeated no' (ap (λ (q : Published). q.repeated) is))

answered_again : (r : Option ℕ) (e : List ℕ) (top : ℕ) (p : Published) → p ≡ answer_by r e top → p.repeated ≡ true
    → is_some r ≡ true
answered_again None e top p is yes' = absurd (both_ways p.repeated (ap (λ (q : Published). q.repeated) is) yes')
answered_again (Some o) e top p is yes' = refl

-- the keys that a stream remembers are those of its list
known : (ks : List KeyAt) (keys : List (List ℕ)) (key : List ℕ) (t : Bool) → ks ≡ recent keys
    → is_some (repeated_in ks key) ≡ t → is_some (repeat_of key keys) ≡ t
known ks keys key t is h = ap (λ (rs : List KeyAt). is_some (repeated_in rs key)) (sym is) ∙ h

module _ (table : NamespaceTable) (m : Broker) (b new : Code) (c key e : List ℕ) (d : Datum) (p : Published)
    (fresh : AreFresh m) (h : ShowsBroker table b m)
    (set : IsSome (settings_of b.streams.namespaces c))
    (drawn : Draws takes_front (stream_of b.streams c) e b.epochs new.epochs)
    (ns : new.streams.namespaces ≡ b.streams.namespaces)
    (ch : ChangesAt b.streams new.streams c (life_with (size_at b.streams.namespaces c) key d e))
    (answer : p ≡ answer_to (stood_or (stream_of b.streams c) e (size_at b.streams.namespaces c)) key) where
  abbrev m1 : Broker
  m1 = opened c m

  abbrev size : ℕ
  size = size_at b.streams.namespaces c

  -- the stream as it stood, or was opened
  abbrev sh : Shown
  sh = stood_or (stream_of b.streams c) e size

  opens : Opened b m m1 (stream_of b.streams c) c e new.epochs × (can_open c m ≡ true)
  opens = draws_opened table b m h c e new.epochs fresh drawn

  set_up : is_some (settings_of table c) ≡ true
  set_up = sym (h.namespaces.names (namespace_of c)) ∙ set

  -- whether the publish repeats another
  told : (t : Bool) → is_some (repeated_by sh key) ≡ t → (is_some (repeat_of key (m1.keys c opens.0.state.epoch)) ≡ t)
      × (is_repeat c key m ≡ t)
  told t is =
      let so : is_some (repeat_of key (m1.keys c opens.0.state.epoch)) ≡ t =
      known sh.recent (m1.keys c opens.0.state.epoch) key t (opens.0.remembered size) is in
      (so, opens.0.repeat key ∙ so)

  pub published_shows : p.repeated ≡ false → (a : AcceptedPublication) → (IsAtLast (stream_of b.streams c) key → ⊥)
      → new.accepted.items ≡ b.accepted.items ++ a ∷ []
      → string_bytes a.channel ≡ c → a.epoch ≡ e → a.publication ≡ record { offset = p.position.offset; datum = d }
      → IsBody d.body → IsInfo d.info
      → Publishes table m c key d new outcome.Accepted
  published_shows no' a last pushed channel at publication regular info =
      let o : Opened b m m1 (stream_of b.streams c) c e new.epochs = opens.0 in
      let s : StreamState = o.state in
      let new_key : (repeated_by sh key ≡ None) × (p.position.offset ≡ sh.top + 1) =
      answered_anew (repeated_by sh key) sh.epoch sh.top p answer no' in
      let anew = told false (ap is_some new_key.0) in
      let room : s.top < last_offset =
      room_left (stream_of b.streams c) e key s.top o.top (o.standing c s o.stands).within
      (unsized (stream_of b.streams c) new_key.0) last in
      let place : a.publication ≡ record { offset = s.top + 1; datum = d } =
      publication ∙ ap (λ (k : ℕ). record { offset = k; datum = d }) (new_key.1 ∙ ap (λ (k : ℕ). k + 1) (o.top size)) in
      let added = added_shows table b new m m1 h (stream_of b.streams c) c e o ns size key d ch anew.0 room a pushed
      channel at place regular info in
      let full : is_full (m.streams c) ≡ false = o.full ∙ ap not (lt-ltb s.top last_offset room) in (
        set_up,
        opens.1,
        anew.1,
        full,
        subst (λ (k : ℕ). ShowsBroker table new (add_at k c key d (m1.streams c) m1))
            (h.namespaces.size c) added,
      )
    where
      unsized : (k : Option Shown) → repeated_by (stood_or k e size) key ≡ None
          → repeated_by (stood_or k e 0) key ≡ None
      unsized None is = is
      unsized (Some t) is = is

  -- a channel that has a stream is as it was once that was opened
  as_it_was : (y : Option StreamState) (es : List (List ℕ)) → repeats m.keys c key y ≡ true → open_at c y es m ≡ m
  as_it_was None es h = absurd (cc)
  as_it_was (Some s) es h = refl

  pub repeated_shows : p.repeated ≡ true → new.accepted ≡ b.accepted → Publishes table m c key d new outcome.Repeated
  repeated_shows yes' accepted =
      let o : Opened b m m1 (stream_of b.streams c) c e new.epochs = opens.0 in
      let l1 : Life = life_of (m1.lists c) (m1.keys c) o.state in
      let again = told true (answered_again (repeated_by sh key) sh.epoch sh.top p answer yes') in
      let here : life_with size key d e (life_at m c) ≡ Some l1 =
      ap (λ (l : Life). Some (offered size key d l)) o.life
      ∙ ap (λ (t : Bool). Some (cond t l1 (published size key d l1))) again.0 in (
        set_up,
        opens.1,
        again.1,
        subst (λ (x : Broker). ShowsBroker table new x) (as_it_was (m.streams c) m.waiting again.1)
            (opened_shows table b new m m1 h (stream_of b.streams c) c e o ns (life_with size key d e) ch here
            accepted),
      )

-- ---- a publish that is refused

-- none was drawn: none waits
record NoneDrawn (b : Code) (m : Broker) (c : List ℕ) (new : WaitingEpochs) : Type 0 where
  none : can_open c m ≡ false
  waiting : new.waiting.items ≡ b.epochs.waiting.items
  came : (x : List ℕ) → contains_text new.came x ≡ contains_text b.epochs.came x

module _ (table : NamespaceTable) (b : Code) (m : Broker) (c : List ℕ) (new : WaitingEpochs) (h : ShowsBroker table b m)
    (fresh : AreFresh m)
    (unopened : stream_of b.streams c ≡ None) (r : Option (List ℕ)) (drawn : takes_front b.epochs r new)
    (no : IsNoEpoch r) where
  none_by : (o : Option StreamState) (es : List (List ℕ)) → m.streams c ≡ o → m.waiting ≡ es
      → (stands_or_opens o es ≡ false) × (new.waiting.items ≡ b.epochs.waiting.items)
  none_by (Some s) es j w = absurd (shows_here table b m h c c new None (Some s) unopened j)
  none_by None [] j w =
      let items : b.epochs.waiting.items ≡ [] = h.waiting ∙ w in
      (refl, drawn.1 ∙ (ap (drop 1) items ∙ sym items))
  none_by None (first ∷ es) j w =
      let front : r ≡ Some first = drawn.0 ∙ ap (λ (xs : List (List ℕ)). slice_get xs 0) (h.waiting ∙ w) in
      let waits : is_among first m.waiting ≡ true = rw (w, itself first) refl in
      absurd ((fresh.0 first waits).0 (subst IsNoEpoch front no))

none_drawn : (table : NamespaceTable) (b : Code) (m : Broker) (c : List ℕ) (new : WaitingEpochs) → ShowsBroker table b m
    → AreFresh m
    → stream_of b.streams c ≡ None → DrawsNone takes_front b.epochs new → NoneDrawn b m c new
none_drawn table b m c new h fresh unopened drawn =
    let n = none_by table b m c new h fresh unopened drawn.0 drawn.1 drawn.2 (m.streams c) m.waiting refl refl in
    record {
      none = n.0;
      waiting = n.1;
      came = λ x. ap (λ s. contains_text s x) drawn.1.2;
    }

pub no_epoch_shows : (table : NamespaceTable) (b new : Code) (m : Broker) (c : List ℕ) → ShowsBroker table b m
    → AreFresh m
    → stream_of b.streams c ≡ None → DrawsNone takes_front b.epochs new.epochs → new.streams ≡ b.streams
    → new.accepted ≡ b.accepted
    → FindsNone table m c new
no_epoch_shows table b new m c h fresh unopened drawn streams accepted =
    let n : NoneDrawn b m c new.epochs = none_drawn table b m c new.epochs h fresh unopened drawn in
    record { none = n.none; shows = shows-same table b new m h streams n.waiting n.came accepted }
