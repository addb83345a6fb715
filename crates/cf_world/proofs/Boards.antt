-- The streams and epochs beside the machine's, after a call.
use Rattle.std.proofs.Common.{◌≡◌, ◌≢◌, ℕ, Bool, true, false, is_some, not, cond, nat_lt, Option, Some, None}
use Rattle.std.proofs.Common.{option_map, List, [], ◌∷◌, length, slice_get, drop, arith, inl, inr, refl, sym, ap, subst}
use Rattle.std.proofs.Common.{◌∙◌}
use Rattle.std.specs.List.{All, AllZip}
use Rattle.std.specs.Str.{bytes_eq}
use Rattle.std.specs.BTreeSet.{contains_text}
use Rattle.std.proofs.lemmas.List.{nil_from_length}
use Rattle.std.proofs.lemmas.List.Elements.{All-tail, recursion_from_All}
use Rattle.cf_protocol.specs.Names.{is_among}
use Rattle.cf_protocol.specs.Epoch.{IsEpoch}
use Rattle.cf_protocol.specs.Datum.{Datum}
use Rattle.cf_protocol.specs.Settings.{NamespaceTable}
use Rattle.cf_model.specs.Keys.{is_no_key, offset_of, recent, repeat_of}
use Rattle.cf_stream.specs.Stream.{Shown}
use Rattle.cf_model.specs.Streams.{StreamState, last_offset, opens_in}
use Rattle.cf_stream.specs.Streams.{StreamMap, stream_of, stood_or, size_at}
use Rattle.cf_stream.specs.PublicationList.{Shows, opened as opened_life}
use Rattle.cf_model.specs.Streams.{Life}
use Rattle.cf_stream.specs.ChannelLists.{ShowsAt, AreShown, ChangesAt, life_or}
use Rattle.cf_stream.specs.FreshEpochs.{Draws}
use Rattle.cf_world.specs.BrokerTie.{AreSized, IsAccepted, IsStanding, ShowsBroker}
use Rattle.cf_machine.specs.FreshEpochs.{AreFresh}
use Rattle.cf_machine.specs.Lives.{life_at}
use Rattle.cf_machine.specs.PublicationList.{Broker, open_at, opened, is_full, is_repeat, repeats, stands_or_opens}
use Rattle.cf_machine.specs.PublicationList.{can_open}
use Rattle.cf_world.specs.declared.broker.WorldBroker.{WorldBroker as Code}
use Rattle.cf_world.specs.declared.epochs.WaitingEpochs.{WaitingEpochs}
use Rattle.cf_machine.proofs.Names.{text_tells, itself, with-all, with-same, with-other}

-- the streams show lists that are the same at each channel
pub shown-as : (k : StreamMap) (f g : List ℕ → Option Life) → AreShown k f → ((q : List ℕ) → f q ≡ g q) → AreShown k g
shown-as k f g h same =
    record {
      at = λ q. subst (λ (l : Option Life). ShowsAt (size_at k.namespaces q) (stream_of k q) l) (same q) (h.at q);
    }

-- settings that stay as they are
pub sized-still : (table old new : NamespaceTable) (was now : List ℕ → Option ℕ) → new ≡ old → now ≡ was
    → AreSized table old was → AreSized table new now
sized-still table old new was now n s h =
    subst (λ (t : NamespaceTable). AreSized table t now) (sym n)
    (subst (λ (f : List ℕ → Option ℕ). AreSized table old f) (sym s) h)

-- a call changes one channel's list, and the machine does the same
pub shown-changed : (old new : StreamMap) (c : List ℕ) (change : Option Life → Option Life) (f g : List ℕ → Option Life)
    → ChangesAt old new c change → AreShown old f → change (f c) ≡ g c → ((q : List ℕ) → q ≢ c → f q ≡ g q)
    → AreShown new g
shown-changed old new c change f g h k here there =
    shown-as new (λ q. cond (bytes_eq c q) (change (f q)) (f q)) g (h.shows f k) (λ q.
    elim (text_tells c q) [
      | inl i ↦ rw i.0 (subst (λ (x : List ℕ). change (f x) ≡ g x) i.1 here)
      | inr i ↦ rw i.0 (there q (λ e. i.1 (sym e)))
    ])

-- a stream's life over the lists and the keys of its channel
abbrev pub life_of : (List ℕ → List Datum) → (List ℕ → List (List ℕ)) → StreamState → Life
life_of list keys s = record { epoch = s.epoch; list = list s.epoch; keys = keys s.epoch; held = s.held }

-- nothing repeats what was never published
no_repeat : (key : List ℕ) → false ≡ is_some (repeat_of key [])
no_repeat key = by_value (is_no_key key)
  where
    by_value : (t : Bool) → false ≡ is_some (cond t None (offset_of key []))
    by_value true = refl
    by_value false = refl

-- the front epoch was drawn
abbrev pub takes_front : WaitingEpochs → Option (List ℕ) → WaitingEpochs → Type 0
takes_front old epoch new =
    (epoch ≡ slice_get old.waiting.items 0) × (new.waiting.items ≡ drop 1 old.waiting.items) × (new.came ≡ old.came)

-- the stream of c stands in m1, in epoch e, as the code has it after it was opened
pub record Opened (b : Code) (m m1 : Broker) (k : Option Shown) (c e : List ℕ) (new : WaitingEpochs) : Type 0 where
  pub state : StreamState
  pub lists : m1.lists ≡ m.lists
  pub keys : m1.keys ≡ m.keys
  pub sizes : m1.sizes ≡ m.sizes
  pub stands : m1.streams c ≡ Some state
  pub epoch : state.epoch ≡ e
  pub life : life_or (life_at m c) e ≡ life_of (m1.lists c) (m1.keys c) state
  pub top : (size : ℕ) → (stood_or k e size).top ≡ state.top
  pub remembered : (size : ℕ) → (stood_or k e size).recent ≡ recent (m1.keys c state.epoch)
  pub full : is_full (m.streams c) ≡ not (nat_lt state.top last_offset)
  pub repeat : (key : List ℕ) → is_repeat c key m ≡ is_some (repeat_of key (m1.keys c state.epoch))
  pub others : (q : List ℕ) → q ≢ c → life_at m q ≡ life_at m1 q
  pub waiting : new.waiting.items ≡ m1.waiting
  pub came : (x : List ℕ) → contains_text new.came x ≡ is_among x m1.came
  pub epochs : All IsEpoch m1.waiting
  pub standing : (q : List ℕ) (s : StreamState) → m1.streams q ≡ Some s → IsStanding m1.lists q s
  pub accepted : AllZip (IsAccepted m1.lists) b.accepted.items m1.accepted

module _ (table : NamespaceTable) (b : Code) (m : Broker) (h : ShowsBroker table b m) (c e : List ℕ)
    (new : WaitingEpochs) where
  pub shows_here : (k : Option Shown) (o : Option StreamState) → stream_of b.streams c ≡ k → m.streams c ≡ o
      → ShowsAt (size_at b.streams.namespaces c) k (option_map (life_of (m.lists c) (m.keys c)) o)
  shows_here k o i j =
      subst (λ (x : Option Shown). ShowsAt (size_at b.streams.namespaces c) x
      (option_map (life_of (m.lists c) (m.keys c)) o)) i
      (subst (λ (y : Option StreamState). ShowsAt (size_at b.streams.namespaces c) (stream_of b.streams c)
      (option_map (life_of (m.lists c) (m.keys c)) y)) j (h.streams.at c))

  -- it stood
  stood : (sh : Shown) (s : StreamState) (es : List (List ℕ)) → m.streams c ≡ Some s
      → Shows sh (life_of (m.lists c) (m.keys c) s)
      → e ≡ sh.epoch → new ≡ b.epochs → Opened b m m (Some sh) c e new
  stood sh s es j shows i same = record {
    state = s;
    lists = refl;
    keys = refl;
    sizes = refl;
    stands = j;
    epoch = sym (i ∙ shows.epoch);
    life = ap (λ (y : Option StreamState). life_or (option_map (life_of (m.lists c) (m.keys c)) y) e) j;
    top = λ size. shows.top ∙ sym (h.standing c s j).top;
    remembered = λ size. shows.remembered;
    full = ap is_full j;
    repeat = λ key. ap (repeats m.keys c key) j;
    others = λ q ne. refl;
    waiting = ap (λ (w : WaitingEpochs). w.waiting.items) same ∙ h.waiting;
    came = λ x. ap (λ (w : WaitingEpochs). contains_text w.came x) same ∙ h.came x;
    epochs = h.epochs;
    standing = h.standing;
    accepted = h.accepted;
  }

  -- it opens in the front epoch
  opens : (first : List ℕ) (es : List (List ℕ)) → AreFresh m → m.streams c ≡ None → m.waiting ≡ first ∷ es
      → takes_front b.epochs (Some e) new → Opened b m (open_at c None (first ∷ es) m) None c e new
  opens first es fresh j w drawn =
      let items : b.epochs.waiting.items ≡ first ∷ es = h.waiting ∙ w in
      let front : Some e ≡ Some first = drawn.0 ∙ ap (λ (xs : List (List ℕ)). slice_get xs 0) items in
      let same : e ≡ first = cc in
      let waits : is_among first m.waiting ≡ true = rw (w, itself first) refl in
      let empty : m.lists c first ≡ [] = (fresh.0 first waits).2 c in
      let unkeyed : m.keys c first ≡ [] = nil_from_length (m.keys c first) (h.keyed c first ∙ ap length empty) in
      let all : All IsEpoch (first ∷ es) = subst (All IsEpoch) w h.epochs in
      record {
        state = opens_in first;
        lists = refl;
        keys = refl;
        sizes = refl;
        stands = with-same m.streams c (Some (opens_in first));
        epoch = sym same;
        life = ap (λ (y : Option StreamState). life_or (option_map (life_of (m.lists c) (m.keys c)) y) e) j
            ∙ (ap opened_life same ∙ (λ i. record {
              epoch = first;
              list = sym empty i;
              keys = sym unkeyed i;
              held = 0;
            }));
        top = λ size. refl;
        remembered = λ size. ap recent (sym unkeyed);
        full = ap is_full j;
        repeat = λ key. ap (repeats m.keys c key) j ∙ (no_repeat key
            ∙ ap (λ (ks : List (List ℕ)). is_some (repeat_of key ks)) (sym unkeyed));
        others = λ q ne. ap (option_map (life_of (m.lists q) (m.keys q)))
            (sym (with-other m.streams c (Some (opens_in first)) q ne));
        waiting = drawn.1 ∙ ap (drop 1) items;
        came = λ x. ap (λ s. contains_text s x) drawn.2 ∙ h.came x;
        epochs = All-tail IsEpoch first es all;
        standing = with-all (λ q (y : Option StreamState). (s : StreamState) → y ≡ Some s → IsStanding m.lists q s)
            m.streams c (Some (opens_in first))
            (λ s i. let is : opens_in first ≡ s = cc in
            subst (IsStanding m.lists c) is (record {
              top = ap length (sym empty);
              within = omega arith;
              epoch = (recursion_from_All IsEpoch (first ∷ es) all).0;
            }))
            (λ q ne. h.standing q);
        accepted = h.accepted;
      }

  opens_by : (k : Option Shown) (o : Option StreamState) (es : List (List ℕ)) → AreFresh m → stream_of b.streams c ≡ k
      → m.streams c ≡ o → m.waiting ≡ es
      → Draws takes_front k e b.epochs new → Opened b m (open_at c o es m) k c e new × (stands_or_opens o es ≡ true)
  opens_by (Some sh) (Some s) es fresh i j w drawn =
      (stood sh s es j (shows_here (Some sh) (Some s) i j).0 drawn.0 drawn.1, refl)
  opens_by (Some sh) None es fresh i j w drawn = absurd (shows_here (Some sh) None i j)
  opens_by None (Some s) es fresh i j w drawn = absurd (shows_here None (Some s) i j)
  opens_by None None (first ∷ es) fresh i j w drawn = (opens first es fresh j w drawn.0, refl)
  opens_by None None [] fresh i j w drawn =
      let front : Some e ≡ None = drawn.0.0 ∙ ap (λ (xs : List (List ℕ)). slice_get xs 0) (h.waiting ∙ w) in
      absurd (cc)

  pub draws_opened : AreFresh m → Draws takes_front (stream_of b.streams c) e b.epochs new
      → Opened b m (opened c m) (stream_of b.streams c) c e new × (can_open c m ≡ true)
  draws_opened fresh drawn = opens_by (stream_of b.streams c) (m.streams c) m.waiting fresh refl refl refl drawn
