-- WHAT IS TOLD OF A SUBSCRIPTION IS WHAT WAS READ.
use Rattle.std.proofs.Common.{◌≡◌, ◌⊎◌, inl, inr, ◌<◌, ◌≤◌, ◌-◌, ◌↔◌, IsTrue, min, ℕ, zero, suc, ◌+◌, ◌==◌, Bool, true}
use Rattle.std.proofs.Common.{false, if◌then◌else◌, is_some, Option, Some, None, List, [], ◌∷◌, ◌++◌, length, slice_get}
use Rattle.std.proofs.Common.{take, refl, sym, ap, subst, ◌∙◌, arith}
use Rattle.std.proofs.lemmas.Bool.Decides.{nat_tests}
use Rattle.cf_protocol.specs.Position.{Position}
use Rattle.cf_protocol.specs.Note.{Lists, Reading, Note, Reply, Pub, End, Fails, Put, Left, Listed as ListedNote}
use Rattle.cf_protocol.specs.Note.{PingDue, Close}
use Rattle.cf_model.specs.Clients.{Client, Mode, Idle, Asking, Live, read_to}
use Rattle.cf_model.specs.Streams.{Life}
use Rattle.cf_model.specs.Streams.{read_of, still_held, most_in_reply}
use Rattle.cf_model.specs.Streams.{StreamState, position_of}
use Rattle.cf_model.specs.Recovery.{next}
use Rattle.cf_stream.specs.PublicationList.{state_of}
use Rattle.cf_machine.specs.ClientLink.{ClientLink}
use Rattle.cf_machine.specs.LooseRun.{loose_run}
use Rattle.cf_machine.specs.PublicationList.{tops}
use Rattle.cf_machine.specs.StreamSafety.{StillHeld}
use Rattle.cf_machine.specs.Told.{run_items, reading_items, reply_items, pub_items, end_items, first_items}
use Rattle.cf_machine.specs.Trace.{Item, Subscribed, Refused, Listed}
use Rattle.cf_machine.specs.World.{World}
use Rattle.cf_machine.specs.World as machine
use Rattle.cf_machine.proofs.Automaton.{nothing_seen}
use Rattle.cf_machine.proofs.Names.{text_tells, by_test}
use Rattle.cf_machine.proofs.Standing.{Below}
use Rattle.cf_machine.proofs.Headline.{streams_stand}
use Rattle.cf_machine.proofs.Steps.{fine-run, fine-start}
use Rattle.cf_machine.proofs.Within.{ModeWithin, HasTop}
use Rattle.cf_running.specs.Server.{Server, Site, Section, Told, telling, tells, told, ran, start, life_of, lists_of}
use Rattle.cf_running.specs.Server.{Gains, Sizes, Publishes, Offers, AsksShard, LooksUp, IsRefused, Begins, Leaves}
use Rattle.cf_running.specs.Server.{Calls, Refuses, ReadDone, Finishes, FinishesOver, FinishesAmid, GivesUp, Drops}
use Rattle.cf_running.specs.Server.{Says, Errs, Takes, Detaches, Delivers, Checks, Pings, Closes, Attaches, Wanders}
use Rattle.cf_running.specs.Server.{Strays, Sends, Receives, Breaks}
use Rattle.cf_running.specs.Server as server
use Rattle.cf_running.specs.WasRead.{after_first, mode_after, IsOut, missed, IsWhatWasRead}
use Rattle.cf_running.proofs.Answering.{NotesAre}
use Rattle.cf_running.proofs.Beside.{BesideClient, Beside, number_tells}
use Rattle.cf_running.proofs.Asking.{ReplyFits}
use Rattle.cf_running.proofs.Prefixes.{SentAsk, WasReadFor, HasAsked, AnsweredOf, waits}
use Rattle.cf_running.proofs.Steps.{beside_run}
use Rattle.cf_running.proofs.Ties.{stream_of}

-- ---- where an item is told

get-append : {A : Type 0} (a b : List A) (i : ℕ) (x : A) → slice_get (a ++ b) i ≡ Some x
    → (slice_get a i ≡ Some x) ⊎ ((j : ℕ) × (i ≡ length a + j) × (slice_get b j ≡ Some x))
get-append [] b i x e = inr (i, omega arith, e)
get-append (y ∷ a) b zero x e = inl e
get-append (y ∷ a) b (suc i) x e = elim (get-append a b i x e) [
  | inl h ↦ inl h
  | inr h ↦ inr (h.0, (let g : i ≡ length a + h.0 = h.1 in omega arith), h.2)
]

append-length : {A : Type 0} (a b : List A) → length (a ++ b) ≡ length a + length b
append-length [] b = omega arith
append-length (y ∷ a) b = let g : length (a ++ b) ≡ length a + length b = append-length a b in omega arith

below-length : {A : Type 0} (xs : List A) (n : ℕ) (x : A) → slice_get xs n ≡ Some x → n < length xs
below-length [] n x e = absurd (cc)
below-length (y ∷ xs) zero x e = omega arith
below-length (y ∷ xs) (suc n) x e = let i : n < length xs = below-length xs n x e in omega arith

record IsToldAt (site : Site) (s : Server) (xs : List Section) (i : ℕ) (t : Told) : Type 0 where
  n : ℕ
  section : Section
  is : slice_get xs n ≡ Some section
  j : ℕ
  tells_it : slice_get (tells site section (ran site s (take n xs))) j ≡ Some t
  number : length (told site s (take n xs)) + j ≡ i

where_told : (site : Site) (xs : List Section) (s : Server) (i : ℕ) (t : Told) → slice_get (told site s xs) i ≡ Some t
    → IsToldAt site s xs i t
where_told site [] s i t e = absurd (cc)
where_told site (x ∷ xs) s i t e =
    elim (get-append (tells site x s) (told site (server.server_after site x s) xs) i t e) [
      | inl h ↦ record { n = 0; section = x; is = refl; j = i; tells_it = h; number = omega arith }
      | inr h ↦
          let w = where_told site xs (server.server_after site x s) h.0 t h.2 in
          let more : length (tells site x s ++ told site (server.server_after site x s) (take w.n xs))
          ≡ length (tells site x s)
          + length (told site (server.server_after site x s) (take w.n xs)) =
          append-length (tells site x s) (told site (server.server_after site x s) (take w.n xs)) in
          let below : length (told site (server.server_after site x s) (take w.n xs)) + w.j ≡ h.0 = w.number in
          let here : i ≡ length (tells site x s) + h.0 = h.1 in
          record {
            n = suc w.n;
            section = w.section;
            is = w.is;
            j = w.j;
            tells_it = w.tells_it;
            number = omega (arith, more, below, here);
          }
    ]

-- only where a note reaches a client something is told
receives-only : (site : Site) (x : Section) (s : Server) (j : ℕ) (t : Told) → slice_get (tells site x s) j ≡ Some t
    → (y : List ℕ) × (x ≡ Receives y)
receives-only site (Receives y) s j t e = (y, refl)
receives-only site (Gains entry) s j t e = absurd (cc)
receives-only site (Sizes shard name n) s j t e = absurd (cc)
receives-only site (Publishes k) s j t e = absurd (cc)
receives-only site (Offers i n) s j t e = absurd (cc)
receives-only site (AsksShard k) s j t e = absurd (cc)
receives-only site (LooksUp k d) s j t e = absurd (cc)
receives-only site (IsRefused k code) s j t e = absurd (cc)
receives-only site (Begins k) s j t e = absurd (cc)
receives-only site (Leaves k) s j t e = absurd (cc)
receives-only site (Calls k info) s j t e = absurd (cc)
receives-only site (Refuses k code) s j t e = absurd (cc)
receives-only site (ReadDone k) s j t e = absurd (cc)
receives-only site (Finishes k) s j t e = absurd (cc)
receives-only site (FinishesOver k) s j t e = absurd (cc)
receives-only site (FinishesAmid k count code) s j t e = absurd (cc)
receives-only site (GivesUp k) s j t e = absurd (cc)
receives-only site (Drops k) s j t e = absurd (cc)
receives-only site (Says k) s j t e = absurd (cc)
receives-only site (Errs k code) s j t e = absurd (cc)
receives-only site (Takes k) s j t e = absurd (cc)
receives-only site (Detaches k code) s j t e = absurd (cc)
receives-only site (Delivers n) s j t e = absurd (cc)
receives-only site (Checks i) s j t e = absurd (cc)
receives-only site (Pings k) s j t e = absurd (cc)
receives-only site (Closes k code) s j t e = absurd (cc)
receives-only site (Attaches x n) s j t e = absurd (cc)
receives-only site (Wanders n) s j t e = absurd (cc)
receives-only site (Strays k e) s j t f = absurd (cc)
receives-only site (Sends x e) s j t f = absurd (cc)
receives-only site (Breaks x) s j t e = absurd (cc)

get-telling : (y : List ℕ) (is : List Item) (j : ℕ) (x : List ℕ) (i : Item)
    → slice_get (telling y is) j ≡ Some (record { client = x; item = i }) → (y ≡ x) × (slice_get is j ≡ Some i)
get-telling y [] j x i e = absurd (cc)
get-telling y (z ∷ is) zero x i e =
    let of_some : Option Told → Told = λ o. elim o [ None ↦ record { client = x; item = i } | Some t ↦ t ] in
    let same : ◌≡◌ {A = Told} (record { client = y; item = z }) (record { client = x; item = i }) = ap of_some e in
    (ap (λ (t : Told). t.client) same, ap (λ (t : Told). Some t.item) same)
get-telling y (z ∷ is) (suc j) x i e = get-telling y is j x i e

-- ---- which note tells it

run-published : (lists : Lists) (d : List ℕ) (p : Position) (n j : ℕ) (c : List ℕ) (was recovered : Bool)
    (at : Position) → slice_get (run_items lists d p n) j ≡ Some (Subscribed c was recovered at) → ⊥
run-published lists d p zero j c was recovered at e = absurd (cc)
run-published lists d p (suc n) zero c was recovered at e = absurd (cc)
run-published lists d p (suc n) (suc j) c was recovered at e = run-published lists d (next p) n j c was recovered at e

-- the first of these items is that it's subscribed, by this reply to the ask that is out
record IsReply (lists : Lists) (y : Client) (ns : List Note) (j : ℕ) (c : List ℕ) (was recovered : Bool)
    (at : Position) : Type 0 where
  id : ℕ
  since : Option Position
  last : Option Position
  reading : Reading
  rest : List Note
  mode : y.modes c ≡ Asking id since last
  first : ns ≡ Reply c id was reading ∷ rest
  position : at ≡ read_to reading
  recover : recovered ≡ reading.recovered
  only_first : j ≡ 0
  whole : first_items lists y ns ≡ reading_items lists c was reading

of_reading : (lists : Lists) (d : List ℕ) (was : Bool) (r : Reading) (j : ℕ) (c : List ℕ) (x recovered : Bool)
    (at : Position)
    → slice_get (reading_items lists d was r) j ≡ Some (Subscribed c x recovered at) → (d ≡ c) × (was ≡ x)
    × (recovered ≡ r.recovered) × (at ≡ read_to r) × (j ≡ 0)
of_reading lists d was r zero c x recovered at e =
    let same : ◌≡◌ {A = Item} (Subscribed d was r.recovered (read_to r)) (Subscribed c x recovered at) = cc in
    (cc, cc, cc, cc, refl)
of_reading lists d was r (suc j) c x recovered at e =
    absurd (by_test (λ (is : List Item). slice_get is j ≡ Some (Subscribed c x recovered at) → ⊥) r.recovered _ _
    (λ t. run-published lists d (record { epoch = r.epoch; offset = r.low }) (r.top - r.low) j c x recovered at)
    (λ t f. absurd (cc)) e)

which_note : (lists : Lists) (y : Client) (ns : List Note) (j : ℕ) (c : List ℕ) (was recovered : Bool) (at : Position)
    → slice_get (first_items lists y ns) j ≡ Some (Subscribed c was recovered at)
    → IsReply lists y ns j c was recovered at
which_note lists y [] j c was recovered at e = absurd (cc)
which_note lists y (Reply d id w r ∷ ns) j c was recovered at e = by_mode (y.modes d) refl e
  where
    asked : (k : ℕ) (from last : Option Position) (t : Bool) → y.modes d ≡ Asking k from last → (id == k) ≡ t
        → slice_get (if t then reading_items lists d w r else []) j ≡ Some (Subscribed c was recovered at)
        → IsReply lists y (Reply d id w r ∷ ns) j c was recovered at
    asked k from last false m t e = absurd (cc)
    asked k from last true m t e =
        let f = of_reading lists d w r j c was recovered at e in
        let same : id ≡ k = elim (number_tells id k) [
          | inl i ↦ i.1
          | inr i ↦ absurd (let g : true ≡ false = sym t ∙ i.0 in cc)
        ] in
        record {
          id = id;
          since = from;
          last = last;
          reading = r;
          rest = ns;
          mode = ap y.modes (sym f.0) ∙ m ∙ ap (λ z. Asking z from last) (sym same);
          first = (λ i. Reply (f.0 i) id (f.1 i) r ∷ ns);
          position = f.3;
          recover = f.2;
          only_first = f.4;
          whole = ap (λ z. reply_items lists d id w r z) m
              ∙ ap (λ (b : Bool). if b then reading_items lists d w r else []) t
              ∙ (λ i. reading_items lists (f.0 i) (f.1 i) r);
        }

    by_mode : (m : Mode) → y.modes d ≡ m → slice_get (reply_items lists d id w r m) j
        ≡ Some (Subscribed c was recovered at) → IsReply lists y (Reply d id w r ∷ ns) j c was recovered at
    by_mode (Idle last) m e = absurd (cc)
    by_mode (Live p) m e = absurd (cc)
    by_mode (Asking k from last) m e = asked k from last (id == k) m refl e
which_note lists y (Pub d q ∷ ns) j c was recovered at e = absurd (by_mode (y.modes d) j e)
  where
    by_mode : (m : Mode) (j : ℕ) → slice_get (pub_items lists d q m) j ≡ Some (Subscribed c was recovered at) → ⊥
    by_mode (Idle last) j e = absurd (cc)
    by_mode (Asking k from last) j e = absurd (cc)
    by_mode (Live p) zero e = absurd (cc)
    by_mode (Live p) (suc j) e = absurd (cc)
which_note lists y (End d ∷ ns) j c was recovered at e = absurd (by_mode (y.modes d) j e)
  where
    by_mode : (m : Mode) (j : ℕ) → slice_get (end_items d m) j ≡ Some (Subscribed c was recovered at) → ⊥
    by_mode (Idle last) j e = absurd (cc)
    by_mode (Asking k from last) j e = absurd (cc)
    by_mode (Live p) zero e = absurd (cc)
    by_mode (Live p) (suc j) e = absurd (cc)
which_note lists y (Fails d id code ∷ ns) j c was recovered at e = absurd (by_bool _ j e)
  where
    by_bool : (t : Bool) (j : ℕ) → slice_get (if t then Refused d code ∷ [] else []) j
        ≡ Some (Subscribed c was recovered at) → ⊥
    by_bool false j e = absurd (cc)
    by_bool true zero e = absurd (cc)
    by_bool true (suc j) e = absurd (cc)
which_note lists y (ListedNote d id p low count ∷ ns) j c was recovered at e = absurd (by_bool _ j e)
  where
    by_bool : (t : Bool) (j : ℕ) → slice_get (if t then Listed d p count ∷ [] else []) j
        ≡ Some (Subscribed c was recovered at) → ⊥
    by_bool false j e = absurd (cc)
    by_bool true zero e = absurd (cc)
    by_bool true (suc j) e = absurd (cc)
which_note lists y (Put id ∷ ns) j c was recovered at e = absurd (cc)
which_note lists y (Left id ∷ ns) j c was recovered at e = absurd (cc)
which_note lists y (PingDue ∷ ns) j c was recovered at e = absurd (cc)
which_note lists y (Close code ∷ ns) zero c was recovered at e = absurd (cc)
which_note lists y (Close code ∷ ns) (suc j) c was recovered at e = absurd (cc)

-- ---- what a read answers

held-true : (p : Position) (s : StreamState) → still_held p s ≡ true → (p.epoch ≡ s.epoch)
    × (s.top - p.offset ≤ min s.held most_in_reply)
held-true p s h = grind (arith, nat_tests, text_tells)

held-false : (p : Position) (s : StreamState) → still_held p s ≡ false → Below (Some p) s → StillHeld (Some p) s → ⊥
held-false p s h b k =
    let i : p.offset ≤ s.top = b k.0 in
    let e : p.epoch ≡ s.epoch = k.0 in
    let j : s.top - p.offset ≤ min s.held most_in_reply = k.1 in
    grind (arith, nat_tests, text_tells)

exactly : (since : Option Position) (s : StreamState) → Below since s
    → IsTrue (read_of since s).recovered ↔ StillHeld since s
exactly None s b = ((λ f. absurd (cc)), (λ k. absurd k))
exactly (Some p) s b =
    by_test (λ (r : Reading). IsTrue r.recovered ↔ StillHeld (Some p) s) (still_held p s) _ _
    (λ e. ((λ f. held-true p s e), (λ k. refl))) (λ e. ((λ f. absurd (cc)), (λ k. absurd (held-false p s e b k))))

read-to : (since : Option Position) (s : StreamState) → read_to (read_of since s) ≡ position_of s
read-to None s = refl
read-to (Some p) s = by_test (λ (r : Reading). read_to r ≡ position_of s) (still_held p s) _ _ (λ e. refl) (λ e. refl)

brought : (lists : Lists) (c : List ℕ) (since : Option Position) (s : StreamState)
    → (if (read_of since s).recovered then run_items lists c
    (record { epoch = (read_of since s).epoch; offset = (read_of since s).low })
    ((read_of since s).top - (read_of since s).low) else [])
    ≡ missed lists c (read_of since s).recovered since (read_to (read_of since s))
brought lists c None s = refl
brought lists c (Some p) s =
    by_test (λ (r : Reading). (if r.recovered then run_items lists c (record { epoch = r.epoch; offset = r.low })
    (r.top - r.low) else []) ≡ missed lists c r.recovered (Some p) (read_to r))
    (still_held p s) _ _
    (λ e. ap {A = List ℕ} (λ a. run_items lists c (record { epoch = a; offset = p.offset }) (s.top - p.offset))
    (sym (held-true p s e).0)) (λ e. refl)

-- ---- no client's position is above its stream

itself : (k : ℕ) → (k == k) ≡ true
itself k = elim (number_tells k k) [
  | inl i ↦ i.0
  | inr i ↦ absurd (i.1 refl)
]

its-client : (site : Site) (s : Server) (w : World) (x : List ℕ) → Beside site s w → (w.links x).client ≡ s.clients x
its-client site s w x b = by_connection (s.connection_of x) (b.clients x)
  where
    by_connection : (o : Option ℕ) → BesideClient s.connections (s.clients x) o (w.links x)
        → (w.links x).client ≡ s.clients x
    by_connection None h = ap (λ (l : ClientLink). l.client) h
    by_connection (Some k) h = ap (λ (l : ClientLink). l.client) h.is

below-top : (site : Site) (xs : List Section) (x c : List ℕ) (id : ℕ) (since last : Option Position) (l : Life)
    → ((ran site start xs).clients x).modes c ≡ Asking id since last → life_of site (ran site start xs) c ≡ Some l
    → Below since (state_of l)
below-top site xs x c id None last l m e = tt
below-top site xs x c id (Some p) last l m e =
    let r = beside_run site xs in
    let w : World = loose_run site.config machine.start r.0 in
    let f = (fine-run site.config r.0 (λ x c. nothing_seen) machine.start fine-start).1 in
    let mode : (w.links x).client.modes c ≡ Asking id (Some p) last =
    ap (λ (y : Client). y.modes c) (its-client site (ran site start xs) w x r.1) ∙ m in
    let within : p.offset ≤ tops w.broker.lists c p.epoch =
    (subst (ModeWithin (tops w.broker.lists c)) mode ((f.bounded x).modes c)).0 in
    let stands =
    (stream_of (w.broker.lists c) (w.broker.keys c) (w.broker.streams c) l (streams_stand site.config r.0 c)
    ((r.1.logs (site.shard_of c)).life c (itself (site.shard_of c)) ∙ e)).0 in
    let top : tops w.broker.lists c l.epoch ≡ length l.list =
    subst (HasTop (tops w.broker.lists c)) stands (f.steady.top c) in
    λ same. let moved : tops w.broker.lists c p.epoch ≡ tops w.broker.lists c l.epoch =
    ap (tops w.broker.lists c) same in omega (arith, within, top, moved)

below-out : (site : Site) (xs : List Section) (x c : List ℕ) (id : ℕ) (since : Option Position) (l : Life) (m : Mode)
    → ((ran site start xs).clients x).modes c ≡ m → IsOut id since m → life_of site (ran site start xs) c ≡ Some l
    → Below since (state_of l)
below-out site xs x c id since l (Idle last) e o s = absurd o
below-out site xs x c id since l (Live p) e o s = absurd o
below-out site xs x c id since l (Asking k from last) e o s =
    subst (λ z. Below z (state_of l)) o.1 (below-top site xs x c k from last l e s)

-- ---- THE LAW

module _ (site : Site) (sections : List Section) (i : ℕ) (x c : List ℕ) (was recovered : Bool) (at : Position) where
  abbrev S : ℕ → Server
  S n = after_first site sections n

  finish : (n j k : ℕ) → slice_get sections n ≡ Some (Receives x) → (S n).connection_of x ≡ Some k
      → slice_get (first_items (lists_of site (S n)) ((S n).clients x) ((S n).connections k).way) j
      ≡ Some (Subscribed c was recovered at)
      → length (told site start (take n sections)) + j ≡ i → IsWhatWasRead site sections i x c was recovered at
  finish n j k is its_connection e number =
      let lists : Lists = lists_of site (S n) in
      let r = which_note lists ((S n).clients x) ((S n).connections k).way j c was recovered at e in
      let low : n < length sections = below-length sections n (Receives x) is in
      let h = waits site sections x c n (omega (arith, low)) in
      let sent : SentAsk site sections x c h.asked r.id r.since n =
      subst (HasAsked site sections x c h.asked n) r.mode h.mode in
      let fits = (subst (NotesAre (AnsweredOf site sections x c h.asked n ((S n).clients x)) c) r.first
      (h.answers k its_connection).way).0 refl in
      let good : (was ≡ is_some r.since) × WasReadFor site sections x c h.asked n r.since r.reading =
      subst (λ z. ReplyFits (WasReadFor site sections x c h.asked n) z r.id was r.reading) r.mode fits.1 refl in
      let read = good.1 in
      let st : StreamState = state_of read.life in
      let rec : recovered ≡ (read_of r.since st).recovered = r.recover ∙ ap (λ (z : Reading). z.recovered) read.is in
      let pos : at ≡ read_to (read_of r.since st) = r.position ∙ ap read_to read.is in
      let early : read.read < n = read.before in
      record {
        asked = h.asked;
        command = sent.command;
        since = r.since;
        sent = sent.sent;
        request = sent.request;
        told_by = n;
        receives = is;
        first = let zero : j ≡ 0 = r.only_first in omega (arith, number, zero);
        brings = ap (λ o. server.told_at site x o (S n)) its_connection
            ∙ ap (telling x) (r.whole ∙ (λ a. reading_items lists c was (read.is a))
            ∙ ap (λ (is : List Item). Subscribed c was (read_of r.since st).recovered (read_to (read_of r.since st))
            ∷ is) (brought lists c r.since st)
            ∙ (λ a. Subscribed c was (sym rec a) (sym pos a) ∷ missed lists c (sym rec a) r.since (sym pos a)));
        id = r.id;
        out = sent.out;
        read = read.read;
        connection = read.connection;
        life = read.life;
        after = read.after;
        before = read.before;
        asks = read.asks;
        its_own = read.its_own;
        stood = read.stood;
        from = good.0;
        position = pos ∙ read-to r.since st;
        exact = subst (λ b. IsTrue b ↔ StillHeld r.since st) (sym rec)
            (exactly r.since st (below-out site (take read.read sections) x c r.id r.since read.life
            (mode_after site sections x c read.read) refl
            (sent.out read.read read.after (omega (arith, early))) read.stood));
      }

  received : (n j : ℕ) (y : List ℕ) → slice_get sections n ≡ Some (Receives y)
      → slice_get (tells site (Receives y) (S n)) j ≡ Some (record { client = x; item = Subscribed c was recovered at })
      → length (told site start (take n sections)) + j ≡ i → IsWhatWasRead site sections i x c was recovered at
  received n j y is e number = by_connection ((S n).connection_of y) refl e
    where
      by_connection : (o : Option ℕ) → (S n).connection_of y ≡ o → slice_get (server.told_at site y o (S n)) j
          ≡ Some (record { client = x; item = Subscribed c was recovered at })
          → IsWhatWasRead site sections i x c was recovered at
      by_connection None at e = absurd (cc)
      by_connection (Some k) its_connection e =
          let g = get-telling y (first_items (lists_of site (S n)) ((S n).clients y) ((S n).connections k).way) j x
          (Subscribed c was recovered at) e in
          finish n j k (is ∙ ap (λ z. Some (Receives z)) g.0)
          (ap (λ z. (S n).connection_of z) (sym g.0) ∙ its_connection)
          (subst (λ z. slice_get (first_items (lists_of site (S n)) ((S n).clients z) ((S n).connections k).way) j
          ≡ Some (Subscribed c was recovered at)) g.0 g.1) number

  pub what_was_read : slice_get (told site start sections) i
      ≡ Some (record { client = x; item = Subscribed c was recovered at })
      → IsWhatWasRead site sections i x c was recovered at
  what_was_read e =
      let t = where_told site sections start i (record { client = x; item = Subscribed c was recovered at }) e in
      let y = receives-only site t.section (S t.n) t.j (record { client = x; item = Subscribed c was recovered at })
      t.tells_it in
      received t.n t.j y.0 (t.is ∙ ap Some y.1)
      (subst (λ z. slice_get (tells site z (S t.n)) t.j
      ≡ Some (record { client = x; item = Subscribed c was recovered at })) y.1 t.tells_it) t.number
