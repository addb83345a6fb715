-- THE INVARIANT OF AN ASK: wherever a reading is on its way to a client that waits for the answer to its ask, it was
-- read for that ask,
-- after it, of the stream as the channel's shard had it then. Of each prefix of a list of sections.
use Rattle.std.proofs.Common.{◌≡◌, ◌⊎◌, inl, inr, ◌<◌, ◌≤◌, ℕ, zero, suc, ◌==◌, nat_lt, ◌&&◌, Bool, true, false}
use Rattle.std.proofs.Common.{if◌then◌else◌, is_some, Option, Some, None, List, [], ◌∷◌, ◌++◌, length, slice_get, take}
use Rattle.std.proofs.Common.{refl, sym, ap, subst, ◌∙◌, arith}
use Rattle.std.proofs.lemmas.Bool.Decides.{nat_tests}
use Rattle.std.specs.Str.{bytes_eq}
use Rattle.cf_protocol.specs.LogEntry.{Entry}
use Rattle.cf_protocol.specs.LogEntry.Entry.{Open, Publish, Trim, Forget, Size}
use Rattle.cf_protocol.specs.Position.{Position}
use Rattle.cf_protocol.specs.Note.{Reading, Note, Reply, Pub, End, Fails, Put, Left, Listed, PingDue, Close}
use Rattle.cf_model.specs.Clients.{Mode, Idle, Asking, Live, takes}
use Rattle.cf_model.specs.Sessions.{Asked}
use Rattle.cf_model.specs.Sessions as session
use Rattle.cf_machine.specs.ClientLink.{finishes_over}
use Rattle.cf_machine.proofs.Names.{by_test}
use Rattle.cf_running.specs.Server as server
use Rattle.cf_running.specs.Server.{Server, Site, Connection, Work, Free, Began, HasRead, ToFinish, ToGiveUp, ToPublish}
use Rattle.cf_running.specs.Server.{ToList, ToSay, Lookup, ClientCommand, Section, at_number, change, nowhere, life_of}
use Rattle.cf_running.specs.Server.{lists_of, words_of, request_by, may_send, server_after, start, Gains, Sizes}
use Rattle.cf_running.specs.Server.{Publishes, Offers, AsksShard, LooksUp, IsRefused, Begins, Leaves, Calls, Refuses}
use Rattle.cf_running.specs.Server.{ReadDone, Finishes, FinishesOver, FinishesAmid, GivesUp, Drops, Says, Errs, Takes}
use Rattle.cf_running.specs.Server.{Detaches, Delivers, Checks, Pings, Closes, Attaches, Wanders, Strays, Sends}
use Rattle.cf_running.specs.Server.{Receives, Breaks}
use Rattle.cf_running.proofs.Answering as answering
use Rattle.cf_running.proofs.Answering.{Asks, Answered, Answers, RequestIs, UpsAre, NotesAre, more, notes-append}
use Rattle.cf_running.proofs.Answering.{ups-append, AreRightFor}
use Rattle.cf_running.proofs.Beside.{number_tells}

-- ---- what fits the ask that is out

abbrev pub SinceFits : Mode → ℕ → Option Position → Type 0
SinceFits (Idle last) id since = Unit {0}
SinceFits (Asking i from last) id since = id ≡ i → since ≡ from
SinceFits (Live p) id since = Unit {0}

abbrev pub ReplyFits : (Option Position → Reading → Type 0) → Mode → ℕ → Bool → Reading → Type 0
ReplyFits R (Idle last) id was r = Unit {0}
ReplyFits R (Asking i from last) id was r = id ≡ i → (was ≡ is_some from) × R from r
ReplyFits R (Live p) id was r = Unit {0}

abbrev pub IsNoAsk : Mode → Type 0
IsNoAsk (Idle last) = Unit {0}
IsNoAsk (Asking i from last) = ⊥
IsNoAsk (Live p) = Unit {0}

-- it stays as it is, or is no ask any more
abbrev pub GoesTo : Mode → Mode → Type 0
GoesTo m t = (t ≡ m) ⊎ IsNoAsk t

pub since-to : (m t : Mode) (id : ℕ) (since : Option Position) → GoesTo m t → SinceFits m id since
    → SinceFits t id since
since-to m (Idle last) id since g h = tt
since-to m (Live p) id since g h = tt
since-to m (Asking i from last) id since g h = elim g [
  | inl e ↦ subst (λ z. SinceFits z id since) (sym e) h
  | inr e ↦ absurd e
]

pub reply-to : (R S : Option Position → Reading → Type 0)
    → ((from : Option Position) (r : Reading) → R from r → S from r) → (m t : Mode) (id : ℕ) (was : Bool) (r : Reading)
    → GoesTo m t → ReplyFits R m id was r → ReplyFits S t id was r
reply-to R S f m (Idle last) id was r g h = tt
reply-to R S f m (Live p) id was r g h = tt
reply-to R S f m (Asking i from last) id was r g h = elim g [
  | inl e ↦ λ is. let k : (was ≡ is_some from) × R from r = subst (λ z. ReplyFits R z id was r) (sym e) h is in
      (k.0, f from r k.1)
  | inr e ↦ absurd e
]

pub takes-to : (c : List ℕ) (m : Mode) (n : Note) → GoesTo m (takes c m n)
takes-to c (Idle last) n = inr tt
takes-to c (Asking id from last) (Reply d k was r) =
    by_test (λ z. GoesTo (Asking id from last) z) (bytes_eq d c && (k == id)) _ _ (λ e. inr tt) (λ e. inl refl)
takes-to c (Asking id from last) (Fails d k code) =
    by_test (λ z. GoesTo (Asking id from last) z) (bytes_eq d c && (k == id)) _ _ (λ e. inr tt) (λ e. inl refl)
takes-to c (Asking id from last) (Close code) = inr tt
takes-to c (Asking id from last) (Pub d q) = inl refl
takes-to c (Asking id from last) (End d) = inl refl
takes-to c (Asking id from last) (Put k) = inl refl
takes-to c (Asking id from last) (Left k) = inl refl
takes-to c (Asking id from last) (Listed d k at low count) = inl refl
takes-to c (Asking id from last) PingDue = inl refl
takes-to c (Live p) (Pub d q) = by_test (λ z. GoesTo (Live p) z) (bytes_eq d c) _ _ (λ e. inr tt) (λ e. inr tt)
takes-to c (Live p) (End d) = by_test (λ z. GoesTo (Live p) z) (bytes_eq d c) _ _ (λ e. inr tt) (λ e. inr tt)
takes-to c (Live p) (Close code) = inr tt
takes-to c (Live p) (Reply d k was r) = inr tt
takes-to c (Live p) (Fails d k code) = inr tt
takes-to c (Live p) (Put k) = inr tt
takes-to c (Live p) (Left k) = inr tt
takes-to c (Live p) (Listed d k at low count) = inr tt
takes-to c (Live p) PingDue = inr tt

-- ---- prefixes

pub up_to : (j n : ℕ) → j ≤ suc n → (j ≤ n) ⊎ (j ≡ suc n)
up_to j n h = grind (arith, nat_tests)

below-more : (i f g : ℕ) → f ≤ g → i < f → i < g
below-more i f g h k = omega arith

pub prefix-next : (site : Site) (sections : List Section) (s : Server) (n : ℕ) (x : Section)
    → slice_get sections n ≡ Some x
    → server.ran site s (take (suc n) sections) ≡ server_after site x (server.ran site s (take n sections))
prefix-next site [] s n x e = absurd (cc)
prefix-next site (y ∷ ys) s zero x e = let same : y ≡ x = cc in ap (λ z. server_after site z s) same
prefix-next site (y ∷ ys) s (suc n) x e = prefix-next site ys (server_after site y s) n x e

pub its_section : (sections : List Section) (n : ℕ) → n < length sections → (x : Section)
    × (slice_get sections n ≡ Some x)
its_section [] n h = absurd (omega (arith, h))
its_section (y ∷ ys) zero h = (y, refl)
its_section (y ∷ ys) (suc n) h = its_section ys n (omega (arith, h))

-- ---- sections that leave clients and their connections as they are

abbrev pub IsAside : Section → Type 0
IsAside (Attaches x n) = ⊥
IsAside (Sends x e) = ⊥
IsAside (Receives x) = ⊥
IsAside (Breaks x) = ⊥
IsAside other = Unit {0}

module _ (site : Site) (s : Server) where
  abbrev Same : Server → Type 0
  Same v = (v.clients ≡ s.clients) × (v.connection_of ≡ s.connection_of)

  same-gains : (n : ℕ) (x : Entry) → Same (server.gains site n x s)
  same-gains n x = by_test Same (server.can_gain site n x s) _ _ (λ e. (refl, refl)) (λ e. (refl, refl))

  same-publishes : (k : ℕ) (h : Work) → Same (server.publishes site k h s)
  same-publishes k (ToPublish c id key d) =
      by_test Same (server.repeats key (life_of site s c)) _ _ (λ e. (refl, refl))
      (λ e. by_test Same (server.can_gain site (site.shard_of c) (Publish c key d) s) _ _ (λ f. (refl, refl))
      (λ f. (refl, refl)))
  same-publishes k Free = (refl, refl)
  same-publishes k (Began d id since) = (refl, refl)
  same-publishes k (HasRead d r) = (refl, refl)
  same-publishes k (ToFinish d) = (refl, refl)
  same-publishes k (ToGiveUp d id code) = (refl, refl)
  same-publishes k (ToList d id limit) = (refl, refl)
  same-publishes k (ToSay d n) = (refl, refl)

  same-delivers : (n : ℕ) (is : List ℕ) → Same (server.delivers_first site n is s)
  same-delivers n [] = (refl, refl)
  same-delivers n (i ∷ is) = (refl, refl)

  same-checks : (o : Option Lookup) → Same (server.checks_by (words_of site s) o s)
  same-checks None = (refl, refl)
  same-checks (Some a) = (refl, refl)

  pub stays : (x : Section) → IsAside x → Same (server_after site x s)
  stays (Gains (Publish c key d)) h = (refl, refl)
  stays (Gains (Size name n)) h = (refl, refl)
  stays (Gains (Open c e)) h = same-gains (site.shard_of c) (Open c e)
  stays (Gains (Trim c n)) h = same-gains (site.shard_of c) (Trim c n)
  stays (Gains (Forget c)) h = same-gains (site.shard_of c) (Forget c)
  stays (Sizes shard name n) h = same-gains shard (Size name n)
  stays (Publishes k) h = same-publishes k (s.connections k).work
  stays (Offers i n) h =
      by_test Same (is_some (server.place_of i s.accepted)) _ _ (λ e. (refl, refl)) (λ e. (refl, refl))
  stays (AsksShard k) h = (refl, refl)
  stays (LooksUp k c) h = (refl, refl)
  stays (IsRefused k code) h = (refl, refl)
  stays (Begins k) h = (refl, refl)
  stays (Leaves k) h = (refl, refl)
  stays (Calls k info) h = (refl, refl)
  stays (Refuses k code) h = (refl, refl)
  stays (ReadDone k) h = (refl, refl)
  stays (Finishes k) h = (refl, refl)
  stays (FinishesOver k) h = (refl, refl)
  stays (FinishesAmid k count code) h = (refl, refl)
  stays (GivesUp k) h = (refl, refl)
  stays (Drops k) h = (refl, refl)
  stays (Says k) h = (refl, refl)
  stays (Errs k code) h = (refl, refl)
  stays (Takes k) h = (refl, refl)
  stays (Detaches k code) h = (refl, refl)
  stays (Delivers n) h = same-delivers n (s.links n)
  stays (Checks i) h = same-checks (slice_get s.lookups i)
  stays (Pings k) h = (refl, refl)
  stays (Closes k code) h = (refl, refl)
  stays (Wanders n) h = by_test Same (nat_lt n site.config.nodes) _ _ (λ e. (refl, refl)) (λ e. (refl, refl))
  stays (Strays k e) h =
      by_test Same (server.is_connection k (s.connection_of (s.connections k).client)) _ _ (λ e. (refl, refl))
      (λ e. (refl, refl))
  stays (Attaches x n) h = absurd h
  stays (Sends x e) h = absurd h
  stays (Receives x) h = absurd h
  stays (Breaks x) h = absurd h

  -- and what they do at a connection that somebody has
  module _ (Q : Asks) (P : Answered) (c : List ℕ) (j : ℕ) where
    abbrev A : Connection → Type 0
    A k = Answers Q P c k

    pub changed : (k : ℕ) (f : Connection → Connection) → (k ≡ j → A (s.connections k) → A (f (s.connections k)))
        → A (s.connections j) → A (at_number s.connections k (f (s.connections k)) j)
    changed k f h a = elim (number_tells j k) [
      | inl e ↦ subst A (sym (ap (λ (t : Bool). if t then f (s.connections k) else s.connections j) e.0))
          (h (sym e.1) (subst (λ z. A (s.connections z)) e.1 a))
      | inr e ↦ subst A (sym (ap (λ (t : Bool). if t then f (s.connections k) else s.connections j) e.0)) a
    ]

    at : (k : ℕ) (f : Connection → Connection) → (A (s.connections k) → A (f (s.connections k))) → A (s.connections j)
        → A (at_number s.connections k (f (s.connections k)) j)
    at k f h a = changed k f (λ e. h) a

    abbrev Has : Server → Type 0
    Has v = A (v.connections j)

    keeps-gains : (n : ℕ) (x : Entry) → Has s → Has (server.gains site n x s)
    keeps-gains n x a = by_test Has (server.can_gain site n x s) _ _ (λ e. a) (λ e. a)

    keeps-publishes : (k : ℕ) (h : Work) → (s.connections k).work ≡ h → Has s → Has (server.publishes site k h s)
    keeps-publishes k (ToPublish d id key x) w a =
        let answered : A (at_number s.connections k (server.answers d id (s.connections k)) j) =
        at k (server.answers d id) (λ b. record {
          up = b.up;
          plain = b.plain;
          session = b.plain;
          hand = tt;
          way = b.way;
        }) a in
        by_test Has (server.repeats key (life_of site s d)) _ _ (λ e. answered)
        (λ e. by_test Has (server.can_gain site (site.shard_of d) (Publish d key x) s) _ _ (λ f. answered) (λ f. a))
    keeps-publishes k Free w a = a
    keeps-publishes k (Began d id since) w a = a
    keeps-publishes k (HasRead d r) w a = a
    keeps-publishes k (ToFinish d) w a = a
    keeps-publishes k (ToGiveUp d id code) w a = a
    keeps-publishes k (ToList d id limit) w a = a
    keeps-publishes k (ToSay d n) w a = a

    keeps-delivers : (n : ℕ) (is : List ℕ) → Has s → Has (server.delivers_first site n is s)
    keeps-delivers n [] a = a
    keeps-delivers n (i ∷ is) a =
        answering.came Q P c (lists_of site s) n (server.place_of i s.accepted) s.connections j a

    keeps-checks : (o : Option Lookup) → Has s → Has (server.checks_by (words_of site s) o s)
    keeps-checks None a = a
    keeps-checks (Some z) a =
        at z.connection (server.at_session (session.checks (words_of site s) z.channel z.top))
        (λ b. answering.checked Q P c (lists_of site s) z.channel z.top (s.connections z.connection) b) a

    -- the connection is a client's own, so that no stray command reaches it
    pub keeps : (x : Section) → IsAside x → (server.is_connection j (s.connection_of (s.connections j).client) ≡ true)
        → (x ≡ AsksShard j → AreRightFor Q P c site s (s.connections j).session (s.connections j).work) → Has s
        → Has (server_after site x s)
    keeps (Gains (Publish d key x)) h o r a = a
    keeps (Gains (Size name n)) h o r a = a
    keeps (Gains (Open d e)) h o r a = keeps-gains (site.shard_of d) (Open d e) a
    keeps (Gains (Trim d n)) h o r a = keeps-gains (site.shard_of d) (Trim d n) a
    keeps (Gains (Forget d)) h o r a = keeps-gains (site.shard_of d) (Forget d) a
    keeps (Sizes shard name n) h o r a = keeps-gains shard (Size name n) a
    keeps (Publishes k) h o r a = keeps-publishes k (s.connections k).work refl a
    keeps (Offers i n) h o r a = by_test Has (is_some (server.place_of i s.accepted)) _ _ (λ e. a) (λ e. a)
    keeps (AsksShard k) h o r a =
        changed k (server.asks_shard site s (s.connections k).work)
        (λ e b. answering.asked_shard Q P c site s (s.connections k) (s.connections k).work
        (subst (λ z. AreRightFor Q P c site s (s.connections z).session (s.connections z).work) (sym e)
        (r (ap AsksShard e))) b) a
    keeps (LooksUp k d) h o r a = a
    keeps (IsRefused k code) h o r a =
        at k (server.is_refused code (s.connections k).work)
        (λ b. answering.refused Q P c code (s.connections k) (s.connections k).work b) a
    keeps (Begins k) h o r a =
        at k (server.hears_by (λ e. server.begins_by (words_of site s) e.id e.request))
        (λ b. answering.begun Q P c (lists_of site s) (s.connections k) b) a
    keeps (Leaves k) h o r a =
        at k (server.hears_by (λ e. server.leaves_by e.id e.request)) (λ b. answering.left Q P c (s.connections k) b) a
    keeps (Calls k info) h o r a =
        at k (server.hears_by (λ e. server.calls_by info e.id e.request))
        (λ b. answering.calls Q P c info (s.connections k) b) a
    keeps (Refuses k code) h o r a =
        at k (server.hears_by (λ e. server.refuses_by code e.id e.request))
        (λ b. answering.refuses Q P c code (s.connections k) b) a
    keeps (ReadDone k) h o r a =
        at k (server.read_done (words_of site s) (s.connections k).work)
        (λ b. answering.read_done Q P c (lists_of site s) (s.connections k) (s.connections k).work b) a
    keeps (Finishes k) h o r a =
        at k (server.finishes_by (session.finishes (words_of site s)) (s.connections k).work)
        (λ b. answering.finished_by Q P c (session.finishes (words_of site s))
        (λ d v. answering.is-finishes Q P c (lists_of site s) d v) (s.connections k) (s.connections k).work b) a
    keeps (FinishesOver k) h o r a =
        at k (server.finishes_by (finishes_over (words_of site s)) (s.connections k).work)
        (λ b. answering.finished_by Q P c (finishes_over (words_of site s))
        (λ d v. answering.is-over Q P c (lists_of site s) d v) (s.connections k) (s.connections k).work b) a
    keeps (FinishesAmid k count code) h o r a =
        at k (server.breaks_off (words_of site s) count code (s.connections k).work)
        (λ b. answering.broken_off Q P c (lists_of site s) count code (s.connections k) (s.connections k).work b) a
    keeps (GivesUp k) h o r a =
        at k (server.gives_up (s.connections k).work)
        (λ b. answering.given_up Q P c (s.connections k) (s.connections k).work b) a
    keeps (Drops k) h o r a = at k server.drops (λ b. answering.dropped Q P c (s.connections k) b) a
    keeps (Says k) h o r a =
        at k (server.says (words_of site s) (s.connections k).work)
        (λ b. answering.said Q P c (lists_of site s) (s.connections k) (s.connections k).work b) a
    keeps (Errs k code) h o r a =
        at k (server.errs code (s.connections k).work)
        (λ b. answering.erred Q P c code (s.connections k) (s.connections k).work b) a
    keeps (Takes k) h o r a = at k server.takes (λ b. answering.taken Q P c (s.connections k) b) a
    keeps (Detaches k code) h o r a =
        at k (server.detaches code) (λ b. answering.detached Q P c (lists_of site s) code (s.connections k) b) a
    keeps (Delivers n) h o r a = keeps-delivers n (s.links n) a
    keeps (Checks i) h o r a = keeps-checks (slice_get s.lookups i) a
    keeps (Pings k) h o r a =
        at k (server.at_session (session.push (words_of site s) PingDue))
        (λ b. answering.pings Q P c (lists_of site s) (s.connections k) b) a
    keeps (Closes k code) h o r a =
        at k (server.at_session (session.closes_now (Close code)))
        (λ b. answering.closed Q P c (lists_of site s) code (s.connections k) b) a
    keeps (Wanders n) h o r a =
        by_test Has (nat_lt n site.config.nodes) _ _
        (λ e. fresh (record nowhere { node = n; attached = true })
        (record {
          up = tt;
          plain = record { sub = tt; notes = tt };
          session = record { sub = tt; notes = tt };
          hand = tt;
          way = tt;
        })) (λ e. a)
      where
        fresh : (k : Connection) → A k → A (at_number s.connections s.count k j)
        fresh k b = by_test A (j == s.count) _ _ (λ e. b) (λ e. a)
    keeps (Strays k e) h o r a =
        by_test Has (server.is_connection k (s.connection_of (s.connections k).client)) _ _ (λ f. a)
        (λ f. changed k (λ (x : Connection). record x { up = x.up ++ e ∷ [] })
        (λ is. absurd (let g : true ≡ false = sym o ∙ ap
        (λ z. server.is_connection z (s.connection_of (s.connections z).client))
        (sym is) ∙ f in cc)) a)
    keeps (Attaches x n) h o r a = absurd h
    keeps (Sends x e) h o r a = absurd h
    keeps (Receives x) h o r a = absurd h
    keeps (Breaks x) h o r a = absurd h
