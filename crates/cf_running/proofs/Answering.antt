-- What is said of a channel to the client of a connection: each answer on its way to it, and each ask that may lead to
-- one. Whatever
-- holds of all asks of the channel (Q), and so of all answers to them (P), goes on holding, whatever happens at the
-- connection.
use Rattle.std.proofs.Common.{◌≡◌, inl, inr, ℕ, suc, zero, ◌+◌, nat_le, sum_by, ◌==◌, ◌||◌, not, Bool, true, false}
use Rattle.std.proofs.Common.{if◌then◌else◌, is_some, Option, Some, None, List, [], ◌∷◌, ◌++◌, take, drop, refl, sym}
use Rattle.std.proofs.Common.{ap, subst, ◌∙◌}
use Rattle.cf_protocol.specs.Position.{Position}
use Rattle.cf_protocol.specs.Datum.{Who}
use Rattle.cf_protocol.specs.Note.{Lists, Reading, Note, Reply, Pub, End, Fails, Put, Left, Listed, PingDue, Close}
use Rattle.cf_model.specs.Recovery.{arrives}
use Rattle.cf_model.specs.Streams.{Life}
use Rattle.cf_model.specs.Recovery.{Checked, Fine, Behind, Ended, position_check}
use Rattle.cf_model.specs.Recovery.{falls_short, run_length}
use Rattle.cf_model.specs.Sessions.{Off, Asked, Ready, On, closes, closes_now, push, says as says_all, put_sub}
use Rattle.cf_model.specs.Sessions.{takes_front, begins, leaves, read_at, reads, come_at, comes, by_verdict, check_at}
use Rattle.cf_model.specs.Sessions.{checks, by_check, finish_at, finishes, finished, finish_notes, is_off, most_waiting}
use Rattle.cf_model.specs.Sessions.{slow}
use Rattle.cf_model.specs.Sessions.{pushes}
use Rattle.cf_model.specs.Streams.{read_of}
use Rattle.cf_model.specs.Recovery.{Verdict, Drop, Pass, Insufficient, verdict, next}
use Rattle.cf_stream.specs.PublicationList.{state_of}
use Rattle.cf_machine.specs.ClientRequest.{ClientRequest, SentCommand, Subscribe, Unsubscribe}
use Rattle.cf_machine.specs.ClientRequest.{Publish as PublishRequest, History}
use Rattle.cf_machine.specs.ClientLink.{over_at, finishes_over, amid_at, finishes_amid}
use Rattle.cf_machine.specs.PublicationList.{Place}
use Rattle.cf_machine.specs.Session.{Sub, Session}
use Rattle.cf_machine.specs.Weights.{wording}
use Rattle.cf_machine.proofs.Names.{text_tells, by_test}
use Rattle.cf_running.specs.Server as server
use Rattle.cf_running.specs.Server.{Site, Server, Connection, Work, Free, Began, HasRead, ToFinish, ToGiveUp, ToPublish}
use Rattle.cf_running.specs.Server.{ToList, ToSay, Lookup, life_of, lists_of, words_of}
use Rattle.cf_running.proofs.Hasten.{hasten, map_subs, hastened, IsMove, push-move, closes-move, comes-move}
use Rattle.cf_running.proofs.Hasten.{checks-move}

abbrev pub Asks : Type 1
Asks = ℕ → Option Position → Type 0

abbrev pub Answered : Type 1
Answered = ℕ → Bool → Reading → Type 0

abbrev pub RequestIs : Asks → List ℕ → ℕ → ClientRequest → Type 0
RequestIs Q c id (Subscribe d since) = d ≡ c → Q id since
RequestIs Q c id (Unsubscribe d) = Unit {0}
RequestIs Q c id (PublishRequest d key body) = Unit {0}
RequestIs Q c id (History d limit) = Unit {0}

abbrev pub UpsAre : Asks → List ℕ → List SentCommand → Type 0
UpsAre Q c [] = Unit {0}
UpsAre Q c (k ∷ ks) = RequestIs Q c k.id k.request × UpsAre Q c ks

abbrev pub SubIs : Asks → Answered → Sub → Type 0
SubIs Q P Off = Unit {0}
SubIs Q P (Asked id since b) = Q id since
SubIs Q P (Ready id was r b) = P id was r
SubIs Q P (On p m) = Unit {0}

abbrev pub NoteIs : Answered → List ℕ → Note → Type 0
NoteIs P c (Reply d id was r) = d ≡ c → P id was r
NoteIs P c (Pub d q) = Unit {0}
NoteIs P c (End d) = Unit {0}
NoteIs P c (Fails d id code) = Unit {0}
NoteIs P c (Put id) = Unit {0}
NoteIs P c (Left id) = Unit {0}
NoteIs P c (Listed d id at low count) = Unit {0}
NoteIs P c PingDue = Unit {0}
NoteIs P c (Close code) = Unit {0}

abbrev pub NotesAre : Answered → List ℕ → List Note → Type 0
NotesAre P c [] = Unit {0}
NotesAre P c (n ∷ ns) = NoteIs P c n × NotesAre P c ns

abbrev pub HandIs : Answered → List ℕ → Work → Type 0
HandIs P c (ToSay d n) = NoteIs P c n
HandIs P c Free = Unit {0}
HandIs P c (Began d id since) = Unit {0}
HandIs P c (HasRead d r) = Unit {0}
HandIs P c (ToFinish d) = Unit {0}
HandIs P c (ToGiveUp d id code) = Unit {0}
HandIs P c (ToPublish d id key x) = Unit {0}
HandIs P c (ToList d id limit) = Unit {0}

pub record SessionIs (Q : Asks) (P : Answered) (c : List ℕ) (v : Session) : Type 0 where
  pub sub : SubIs Q P (v.subs c)
  pub notes : NotesAre P c v.notes

-- It is so of the session as it is, and with the reading that is on its way to it.
pub record Answers (Q : Asks) (P : Answered) (c : List ℕ) (k : Connection) : Type 0 where
  pub up : UpsAre Q c k.up
  pub plain : SessionIs Q P c k.session
  pub session : SessionIs Q P c (map_subs (hasten k.work) k.session)
  pub hand : HandIs P c k.work
  pub way : NotesAre P c k.way

-- ---- what follows from more follows from less

module _ (Q : Asks) (P : Answered) (q : Asks) (p : Answered) (c : List ℕ)
    (asks : (id : ℕ) (since : Option Position) → Q id since → q id since)
    (says : (id : ℕ) (was : Bool) (r : Reading) → P id was r → p id was r) where
  more-ups : (us : List SentCommand) → UpsAre Q c us → UpsAre q c us
  more-ups [] h = tt
  more-ups (u ∷ us) h = (request u.request h.0, more-ups us h.1)
    where
      request : (e : ClientRequest) → RequestIs Q c u.id e → RequestIs q c u.id e
      request (Subscribe d since) h = λ e. asks u.id since (h e)
      request (Unsubscribe d) h = tt
      request (PublishRequest d key body) h = tt
      request (History d limit) h = tt

  more-sub : (y : Sub) → SubIs Q P y → SubIs q p y
  more-sub Off h = tt
  more-sub (Asked id since b) h = asks id since h
  more-sub (Ready id was r b) h = says id was r h
  more-sub (On at m) h = tt

  more-note : (n : Note) → NoteIs P c n → NoteIs p c n
  more-note (Reply d id was r) h = λ e. says id was r (h e)
  more-note (Pub d at) h = tt
  more-note (End d) h = tt
  more-note (Fails d id code) h = tt
  more-note (Put id) h = tt
  more-note (Left id) h = tt
  more-note (Listed d id at low count) h = tt
  more-note PingDue h = tt
  more-note (Close code) h = tt

  more-notes : (ns : List Note) → NotesAre P c ns → NotesAre p c ns
  more-notes [] h = tt
  more-notes (n ∷ ns) h = (more-note n h.0, more-notes ns h.1)

  more-hand : (w : Work) → HandIs P c w → HandIs p c w
  more-hand (ToSay d n) h = more-note n h
  more-hand Free h = tt
  more-hand (Began d id since) h = tt
  more-hand (HasRead d r) h = tt
  more-hand (ToFinish d) h = tt
  more-hand (ToGiveUp d id code) h = tt
  more-hand (ToPublish d id key x) h = tt
  more-hand (ToList d id limit) h = tt

  pub more : (k : Connection) → Answers Q P c k → Answers q p c k
  more k h = record {
    up = more-ups k.up h.up;
    plain = record { sub = more-sub (k.session.subs c) h.plain.sub; notes = more-notes k.session.notes h.plain.notes };
    session = record {
      sub = more-sub (hasten k.work c (k.session.subs c)) h.session.sub;
      notes = more-notes k.session.notes h.session.notes;
    };
    hand = more-hand k.work h.hand;
    way = more-notes k.way h.way;
  }

-- ---- sessions

module _ (Q : Asks) (P : Answered) (c : List ℕ) where
  pub notes-append : (a b : List Note) → NotesAre P c a → NotesAre P c b → NotesAre P c (a ++ b)
  notes-append [] b h k = k
  notes-append (n ∷ a) b h k = (h.0, notes-append a b h.1 k)

  notes-take : (i : ℕ) (a : List Note) → NotesAre P c a → NotesAre P c (take i a)
  notes-take zero a h = tt
  notes-take (suc i) [] h = tt
  notes-take (suc i) (n ∷ a) h = (h.0, notes-take i a h.1)

  notes-drop : (a : List Note) → NotesAre P c a → NotesAre P c (drop 1 a)
  notes-drop [] h = tt
  notes-drop (n ∷ a) h = h.1

  pub ups-append : (a b : List SentCommand) → UpsAre Q c a → UpsAre Q c b → UpsAre Q c (a ++ b)
  ups-append [] b h k = k
  ups-append (n ∷ a) b h k = (h.0, ups-append a b h.1 k)

  abbrev Is : Session → Type 0
  Is v = SessionIs Q P c v

  is-put : (d : List ℕ) (y : Sub) (v : Session) → (d ≡ c → SubIs Q P y) → Is v → Is (put_sub d y v)
  is-put d y v h i = record {
    sub = elim (text_tells c d) [
      | inl e ↦ subst (SubIs Q P) (sym (ap (λ (t : Bool). if t then y else v.subs c) e.0)) (h (sym e.1))
      | inr e ↦ subst (SubIs Q P) (sym (ap (λ (t : Bool). if t then y else v.subs c) e.0)) i.sub
    ];
    notes = i.notes;
  }

  sub-at : (d : List ℕ) (y : Sub) (v : Session) → v.subs d ≡ y → Is v → d ≡ c → SubIs Q P y
  sub-at d y v e i f = subst (SubIs Q P) (ap v.subs (sym f) ∙ e) i.sub

  module _ (lists : Lists) where
    is-closes : (code : ℕ) (v : Session) → Is v → Is (closes (Close code) v)
    is-closes code v i = record { sub = tt; notes = notes-append v.notes (Close code ∷ []) i.notes (tt, tt) }

    pub is-closes_now : (code : ℕ) (v : Session) → Is v → Is (closes_now (Close code) v)
    is-closes_now code v i = by_test Is v.closed _ _ (λ e. i) (λ e. is-closes code v i)

    pub is-push : (n : Note) (v : Session) → NoteIs P c n → Is v → Is (push (wording lists) n v)
    is-push n v h i =
        by_test Is v.closed _ _ (λ e. i)
        (λ e. by_test Is (nat_le (sum_by (wording lists).weight v.notes + (wording lists).weight n) most_waiting) _ _
        (λ j. record { sub = i.sub; notes = notes-append v.notes (n ∷ []) i.notes (h, tt) })
        (λ j. is-closes slow v i))

    is-says : (ns : List Note) (v : Session) → NotesAre P c ns → Is v → Is (says_all (wording lists) ns v)
    is-says [] v h i = i
    is-says (n ∷ ns) v h i = is-says ns (push (wording lists) n v) h.1 (is-push n v h.0 i)

    pub is-takes : (v : Session) → Is v → Is (takes_front v)
    is-takes v i = record { sub = i.sub; notes = notes-drop v.notes i.notes }

    pub is-comes : (d : List ℕ) (q : Position) (v : Session) → Is v → Is (comes (wording lists) d q v)
    is-comes d q v i = by_sub (v.subs d) refl
      where
        by_one : (m : Option ℕ) (x : Verdict) → Is (by_verdict (wording lists) d q m x v)
        by_one m Drop = i
        by_one m Pass = is-push (Pub d q) (put_sub d (On q m) v) tt (is-put d (On q m) v (λ f. tt) i)
        by_one m Insufficient = is-push (End d) (put_sub d Off v) tt (is-put d Off v (λ f. tt) i)

        by_sub : (y : Sub) → v.subs d ≡ y → Is (come_at (wording lists) d q y v)
        by_sub Off e = i
        by_sub (Asked id since b) e =
            is-put d (Asked id since (arrives q b)) v (λ f. sub-at d (Asked id since b) v e i f) i
        by_sub (Ready id was r b) e =
            is-put d (Ready id was r (arrives q b)) v (λ f. sub-at d (Ready id was r b) v e i f) i
        by_sub (On p m) e = by_one m (verdict p q)

    pub is-checks : (d : List ℕ) (top : Option Position) (v : Session) → Is v → Is (checks (wording lists) d top v)
    is-checks d top v i = by_sub (v.subs d)
      where
        by_one : (p : Position) (x : Checked) → Is (by_check (wording lists) d p x v)
        by_one p Fine = is-put d (On p None) v (λ f. tt) i
        by_one p Behind = is-put d (On p (Some p.offset)) v (λ f. tt) i
        by_one p Ended = is-push (End d) (put_sub d Off v) tt (is-put d Off v (λ f. tt) i)

        by_sub : (y : Sub) → Is (check_at (wording lists) d top y v)
        by_sub Off = i
        by_sub (Asked id since b) = i
        by_sub (Ready id was r b) = i
        by_sub (On p m) = by_one p (position_check top p m)

    is-reads : (d : List ℕ) (r : Reading) (v : Session)
        → ((id : ℕ) (since : Option Position) (b : List Position) → d ≡ c → v.subs d ≡ Asked id since b → Q id since
        → P id (is_some since) r)
        → Is v → Is (reads (wording lists) d r v)
    is-reads d r v h i = by_sub (v.subs d) refl
      where
        by_sub : (y : Sub) → v.subs d ≡ y → Is (read_at (wording lists) d r y v)
        by_sub Off e = i
        by_sub (Asked id since b) e =
            is-put d (Ready id (is_some since) r b) v (λ f. h id since b f e (sub-at d (Asked id since b) v e i f)) i
        by_sub (Ready id was y b) e = i
        by_sub (On p m) e = i

    is-pushes : (d : List ℕ) (p : Position) (n : ℕ) → NotesAre P c (pushes d p n)
    is-pushes d p zero = tt
    is-pushes d p (suc n) = (tt, is-pushes d (next p) n)

    are-finish : (d : List ℕ) (id : ℕ) (was : Bool) (r : Reading) (b : List Position) → (d ≡ c → P id was r)
        → NotesAre P c (finish_notes (wording lists) d id was r b)
    are-finish d id was r b h = (
      h,
      notes-append (pushes d (record { epoch = r.epoch; offset = r.top }) (run_length b r))
          (if falls_short b r then End d ∷ [] else [])
          (is-pushes d (record { epoch = r.epoch; offset = r.top }) (run_length b r))
          (by_test (NotesAre P c) (falls_short b r) _ _ (λ e. (tt, tt)) (λ e. tt)),
    )

    is-finished : (d : List ℕ) (r : Reading) (b : List Position) (v : Session) → Is v
        → Is (put_sub d (finished (wording lists) r b) v)
    is-finished d r b v i =
        is-put d (finished (wording lists) r b) v (λ f. by_test (SubIs Q P) (falls_short b r) _ _ (λ e. tt) (λ e. tt)) i

    pub is-finishes : (d : List ℕ) (v : Session) → Is v → Is (finishes (wording lists) d v)
    is-finishes d v i = by_sub (v.subs d) refl
      where
        by_sub : (y : Sub) → v.subs d ≡ y → Is (finish_at (wording lists) d y v)
        by_sub Off e = i
        by_sub (Asked id since b) e = i
        by_sub (Ready id was r b) e =
            is-says (finish_notes (wording lists) d id was r b) (put_sub d (finished (wording lists) r b) v)
            (are-finish d id was r b (λ f. sub-at d (Ready id was r b) v e i f)) (is-finished d r b v i)
        by_sub (On p m) e = i

    pub is-over : (d : List ℕ) (v : Session) → Is v → Is (finishes_over (wording lists) d v)
    is-over d v i = by_sub (v.subs d) refl
      where
        by_sub : (y : Sub) → v.subs d ≡ y → Is (over_at (wording lists) d y v)
        by_sub Off e = i
        by_sub (Asked id since b) e = i
        by_sub (Ready id was r b) e =
            is-says (Reply d id was r ∷ End d ∷ []) (put_sub d Off v)
            (λ f. sub-at d (Ready id was r b) v e i f, (tt, tt)) (is-put d Off v (λ f. tt) i)
        by_sub (On p m) e = i

    pub is-amid : (count code : ℕ) (d : List ℕ) (v : Session) → Is v → Is (finishes_amid (wording lists) d count code v)
    is-amid count code d v i = by_sub (v.subs d) refl
      where
        by_sub : (y : Sub) → v.subs d ≡ y → Is (amid_at (wording lists) d count code y v)
        by_sub Off e = i
        by_sub (Asked id since b) e = i
        by_sub (Ready id was r b) e =
            by_test Is v.closed _ _ (λ f. i)
            (λ f. is-closes_now code (says_all (wording lists) (take count (finish_notes (wording lists) d id was r b))
            (put_sub d (finished (wording lists) r b) v))
            (is-says (take count (finish_notes (wording lists) d id was r b))
            (put_sub d (finished (wording lists) r b) v)
            (notes-take count (finish_notes (wording lists) d id was r b)
            (are-finish d id was r b (λ g. sub-at d (Ready id was r b) v e i g))) (is-finished d r b v i)))
        by_sub (On p m) e = i

    pub is-begins : (d : List ℕ) (id : ℕ) (since : Option Position) (v : Session) → (d ≡ c → Q id since) → Is v
        → Is (begins (wording lists) d id since v)
    is-begins d id since v h i = is-put d (Asked id since []) v h i

    pub is-leaves : (d : List ℕ) (v : Session) → Is v → Is (leaves d v)
    is-leaves d v i = is-put d Off v (λ f. tt) i

-- ---- a connection

module _ (Q : Asks) (P : Answered) (c : List ℕ) where
  abbrev A : Connection → Type 0
  A k = Answers Q P c k

  -- a move at its session
  moved : (lists : Lists) (f : Session → Session) → IsMove lists f
      → ((v : Session) → SessionIs Q P c v → SessionIs Q P c (f v))
      → (k : Connection) → A k → A (record k { session = f k.session })
  moved lists f m g k h = record {
    up = h.up;
    plain = g k.session h.plain;
    session = subst (SessionIs Q P c) (m.commutes k.work k.session) (g (map_subs (hasten k.work) k.session) h.session);
    hand = h.hand;
    way = h.way;
  }

  at_attached : (f : Session → Session) (k : Connection) → A k → A (record k { session = f k.session })
      → A (server.at_session f k)
  at_attached f k h g = by_test A k.attached _ _ (λ e. g) (λ e. h)

  pub pings : (lists : Lists) (k : Connection) → A k → A (server.at_session (push (wording lists) PingDue) k)
  pings lists k h =
      at_attached (push (wording lists) PingDue) k h
      (moved lists _ (push-move lists PingDue) (λ v i. is-push Q P c lists PingDue v tt i) k h)

  closing : (lists : Lists) (code : ℕ) (k : Connection) → A k
      → A (record k { session = closes_now (Close code) k.session })
  closing lists code k h =
      moved lists _ (closes-move lists (Close code)) (λ v i. is-closes_now Q P c lists code v i) k h

  pub closed : (lists : Lists) (code : ℕ) (k : Connection) → A k → A (server.at_session (closes_now (Close code)) k)
  closed lists code k h = at_attached (closes_now (Close code)) k h (closing lists code k h)

  pub checked : (lists : Lists) (d : List ℕ) (top : Option Position) (k : Connection) → A k
      → A (server.at_session (checks (wording lists) d top) k)
  checked lists d top k h =
      at_attached (checks (wording lists) d top) k h
      (moved lists _ (checks-move lists d top) (λ v i. is-checks Q P c lists d top v i) k h)

  pub came : (lists : Lists) (n : ℕ) (o : Option Place) (xs : ℕ → Connection) (j : ℕ) → A (xs j)
      → A (server.comes_by (wording lists) n o xs j)
  came lists n None xs j h = h
  came lists n (Some p) xs j h =
      by_test A ((xs j).node == n) _ _ (λ e. moved lists _ (comes-move lists p.channel p.at)
      (λ v i. is-comes Q P c lists p.channel p.at v i) (xs j) h) (λ e. h)

  freed : (k : Connection) → A k → A (record k { work = Free })
  freed k h = record { up = h.up; plain = h.plain; session = h.plain; hand = tt; way = h.way }

  pub dropped : (k : Connection) → A k → A (server.drops k)
  dropped k h = by_test A k.session.closed _ _ (λ e. freed k h) (λ e. h)

  pub detached : (lists : Lists) (code : ℕ) (k : Connection) → A k → A (server.detaches code k)
  detached lists code k h = let g = closing lists code k h in
      record { up = g.up; plain = g.plain; session = g.plain; hand = tt; way = g.way }

  pub taken : (k : Connection) → A k → A (server.takes k)
  taken k h = by_test A k.attached _ _ (λ e. by_notes k.session.notes refl) (λ e. h)
    where
      by_notes : (ns : List Note) → k.session.notes ≡ ns → A (server.takes_first ns k)
      by_notes [] e = h
      by_notes (n ∷ ns) e =
          let front = subst (NotesAre P c) e h.plain.notes in record {
            up = h.up;
            plain = is-takes Q P c (λ c e. []) k.session h.plain;
            session = is-takes Q P c (λ c e. []) (map_subs (hasten k.work) k.session) h.session;
            hand = h.hand;
            way = notes-append Q P c k.way (n ∷ []) h.way (front.0, tt);
          }

  pub refused : (code : ℕ) (k : Connection) (h : Work) → A (record k { work = h })
      → A (server.is_refused code h (record k { work = h }))
  refused code k (Began d id since) i = record { up = i.up; plain = i.plain; session = i.plain; hand = tt; way = i.way }
  refused code k (ToPublish d id key x) i =
      record { up = i.up; plain = i.plain; session = i.plain; hand = tt; way = i.way }
  refused code k (ToList d id limit) i =
      record { up = i.up; plain = i.plain; session = i.plain; hand = tt; way = i.way }
  refused code k Free i = i
  refused code k (HasRead d r) i = i
  refused code k (ToFinish d) i = i
  refused code k (ToGiveUp d id e) i = i
  refused code k (ToSay a n) i = i

  pub given_up : (k : Connection) (h : Work) → A (record k { work = h }) → A (server.gives_up h (record k { work = h }))
  given_up k (ToGiveUp d id code) i =
      let v = is-leaves Q P c (λ c e. []) d k.session i.plain in
      record { up = i.up; plain = v; session = v; hand = tt; way = i.way }
  given_up k (Began d id since) i = i
  given_up k (ToPublish d id key x) i = i
  given_up k (ToList d id limit) i = i
  given_up k Free i = i
  given_up k (HasRead d r) i = i
  given_up k (ToFinish d) i = i
  given_up k (ToSay a n) i = i

  pub said : (lists : Lists) (k : Connection) (h : Work) → A (record k { work = h })
      → A (server.says (wording lists) h (record k { work = h }))
  said lists k (ToSay a n) i =
      let v = is-push Q P c lists n k.session i.hand i.plain in
      record { up = i.up; plain = v; session = v; hand = tt; way = i.way }
  said lists k (ToGiveUp d id code) i = i
  said lists k (Began d id since) i = i
  said lists k (ToPublish d id key x) i = i
  said lists k (ToList d id limit) i = i
  said lists k Free i = i
  said lists k (HasRead d r) i = i
  said lists k (ToFinish d) i = i

  errs-note : (code : ℕ) (a : List ℕ) (n : Note) → NoteIs P c n → NoteIs P c (server.error_for code a n)
  errs-note code a (Put id) h = tt
  errs-note code a (Left id) h = tt
  errs-note code a (Listed d id at low count) h = tt
  errs-note code a (Fails d id other) h = tt
  errs-note code a (Reply d id was r) h = h
  errs-note code a (Pub d q) h = tt
  errs-note code a (End d) h = tt
  errs-note code a PingDue h = tt
  errs-note code a (Close e) h = tt

  pub erred : (code : ℕ) (k : Connection) (h : Work) → A (record k { work = h })
      → A (server.errs code h (record k { work = h }))
  erred code k (ToSay a n) i =
      record { up = i.up; plain = i.plain; session = i.session; hand = errs-note code a n i.hand; way = i.way }
  erred code k (ToGiveUp d id e) i = i
  erred code k (Began d id since) i = i
  erred code k (ToPublish d id key x) i = i
  erred code k (ToList d id limit) i = i
  erred code k Free i = i
  erred code k (HasRead d r) i = i
  erred code k (ToFinish d) i = i

  pub finished_by : (f : List ℕ → Session → Session)
      → ((d : List ℕ) (v : Session) → SessionIs Q P c v → SessionIs Q P c (f d v))
      → (k : Connection) (h : Work) → A (record k { work = h }) → A (server.finishes_by f h (record k { work = h }))
  finished_by f g k (ToFinish d) i = let v = g d k.session i.plain in
      record { up = i.up; plain = v; session = v; hand = tt; way = i.way }
  finished_by f g k (ToSay a n) i = i
  finished_by f g k (ToGiveUp d id code) i = i
  finished_by f g k (Began d id since) i = i
  finished_by f g k (ToPublish d id key x) i = i
  finished_by f g k (ToList d id limit) i = i
  finished_by f g k Free i = i
  finished_by f g k (HasRead d r) i = i

  pub broken_off : (lists : Lists) (count code : ℕ) (k : Connection) (h : Work) → A (record k { work = h })
      → A (server.breaks_off (wording lists) count code h (record k { work = h }))
  broken_off lists count code k h i =
      by_test A k.session.closed _ _ (λ e. i) (λ e. finished_by (λ d. finishes_amid (wording lists) d count code)
      (λ d v. is-amid Q P c lists count code d v) k h i)

  pub read_done : (lists : Lists) (k : Connection) (h : Work) → A (record k { work = h })
      → A (server.read_done (wording lists) h (record k { work = h }))
  read_done lists k (HasRead d r) i =
      let v = subst (SessionIs Q P c) (hastened lists d r k.session) i.session in
      record { up = i.up; plain = v; session = v; hand = tt; way = i.way }
  read_done lists k (ToSay a n) i = i
  read_done lists k (ToGiveUp d id code) i = i
  read_done lists k (Began d id since) i = i
  read_done lists k (ToPublish d id key x) i = i
  read_done lists k (ToList d id limit) i = i
  read_done lists k Free i = i
  read_done lists k (ToFinish d) i = i

  -- a shard is asked, and what it answers is right for every ask that it may be for
  abbrev pub AreRightFor : Site → Server → Session → Work → Type 0
  AreRightFor site s v (Began d id since) = (l : Life) → life_of site s d ≡ Some l → d ≡ c
      → (i : ℕ) (x : Option Position) (b : List Position) → v.subs d ≡ Asked i x b → Q i x
      → P i (is_some x) (read_of since (state_of l))
  AreRightFor site s v Free = Unit {0}
  AreRightFor site s v (HasRead d r) = Unit {0}
  AreRightFor site s v (ToFinish d) = Unit {0}
  AreRightFor site s v (ToGiveUp d id code) = Unit {0}
  AreRightFor site s v (ToPublish d id key x) = Unit {0}
  AreRightFor site s v (ToList d id limit) = Unit {0}
  AreRightFor site s v (ToSay d n) = Unit {0}

  pub asked_shard : (site : Site) (s : Server) (k : Connection) (h : Work) → AreRightFor site s k.session h
      → A (record k { work = h }) → A (server.asks_shard site s h (record k { work = h }))
  asked_shard site s k (Began d id since) g i = by_life (life_of site s d) refl
    where
      by_life : (o : Option Life) → life_of site s d ≡ o
          → A (server.reading_by d since o (record k { work = Began d id since }))
      by_life None e = i
      by_life (Some l) e =
          let r : Reading = read_of since (state_of l) in record {
            up = i.up;
            plain = i.plain;
            session = subst (SessionIs Q P c) (sym (hastened (lists_of site s) d r k.session))
                (is-reads Q P c (lists_of site s) d r k.session (λ n x b f at q. g l e f n x b at q) i.plain);
            hand = tt;
            way = i.way;
          }
  asked_shard site s k (ToList d id limit) g i = by_life (life_of site s d)
    where
      by_life : (o : Option Life) → A (server.listing_by d id limit o (record k { work = ToList d id limit }))
      by_life None = i
      by_life (Some l) = record { up = i.up; plain = i.plain; session = i.plain; hand = tt; way = i.way }
  asked_shard site s k (ToSay a n) g i = i
  asked_shard site s k (ToGiveUp d id code) g i = i
  asked_shard site s k (ToPublish d id key x) g i = i
  asked_shard site s k Free g i = i
  asked_shard site s k (HasRead d r) g i = i
  asked_shard site s k (ToFinish d) g i = i

  -- ---- its worker hears the first command

  abbrev first_of_up : Connection → SentCommand → List SentCommand → Connection
  first_of_up k e rest = record k { attached = true; work = Free; up = e ∷ rest }

  hears-by : (f : SentCommand → List SentCommand → Connection → Connection) (k : Connection) (t : Bool) (h : Work)
      (us : List SentCommand)
      → ((e : SentCommand) (rest : List SentCommand) → A (first_of_up k e rest) → A (f e rest (first_of_up k e rest)))
      → A (record k { attached = t; work = h; up = us })
      → A (server.hears_by f (record k { attached = t; work = h; up = us }))
  hears-by f k false h us r i = i
  hears-by f k true Free [] r i = i
  hears-by f k true Free (e ∷ rest) r i = r e rest i
  hears-by f k true (Began d id since) us r i = i
  hears-by f k true (HasRead d y) us r i = i
  hears-by f k true (ToFinish d) us r i = i
  hears-by f k true (ToGiveUp d id code) us r i = i
  hears-by f k true (ToPublish d id key y) us r i = i
  hears-by f k true (ToList d id limit) us r i = i
  hears-by f k true (ToSay d n) us r i = i

  refuse : (code id : ℕ) (e : ClientRequest) (k : Connection) (rest : List SentCommand)
      → A (first_of_up k (record { id = id; request = e }) rest)
      → A (server.refuses_by code id e rest (first_of_up k (record { id = id; request = e }) rest))
  refuse code id (Unsubscribe d) k rest i =
      by_test A (is_off (k.session.subs d)) _ _ (λ e.
      record { up = i.up.1; plain = i.plain; session = i.plain; hand = tt; way = i.way }) (λ e. i)
  refuse code id (Subscribe d since) k rest i =
      record { up = i.up.1; plain = i.plain; session = i.plain; hand = tt; way = i.way }
  refuse code id (PublishRequest d key body) k rest i =
      record { up = i.up.1; plain = i.plain; session = i.plain; hand = tt; way = i.way }
  refuse code id (History d limit) k rest i =
      record { up = i.up.1; plain = i.plain; session = i.plain; hand = tt; way = i.way }

  pub refuses : (code : ℕ) (k : Connection) → A k → A (server.hears_by (λ e. server.refuses_by code e.id e.request) k)
  refuses code k h =
      hears-by (λ e. server.refuses_by code e.id e.request) k k.attached k.work k.up
      (λ e rest i. refuse code e.id e.request k rest i) h

  call : (info : Option Who) (id : ℕ) (e : ClientRequest) (k : Connection) (rest : List SentCommand)
      → A (first_of_up k (record { id = id; request = e }) rest)
      → A (server.calls_by info id e rest (first_of_up k (record { id = id; request = e }) rest))
  call info id (PublishRequest d key body) k rest i =
      record { up = i.up.1; plain = i.plain; session = i.plain; hand = tt; way = i.way }
  call info id (History d limit) k rest i =
      record { up = i.up.1; plain = i.plain; session = i.plain; hand = tt; way = i.way }
  call info id (Unsubscribe d) k rest i = i
  call info id (Subscribe d since) k rest i = i

  pub calls : (info : Option Who) (k : Connection) → A k
      → A (server.hears_by (λ e. server.calls_by info e.id e.request) k)
  calls info k h =
      hears-by (λ e. server.calls_by info e.id e.request) k k.attached k.work k.up
      (λ e rest i. call info e.id e.request k rest i) h

  leave : (id : ℕ) (e : ClientRequest) (k : Connection) (rest : List SentCommand)
      → A (first_of_up k (record { id = id; request = e }) rest)
      → A (server.leaves_by id e rest (first_of_up k (record { id = id; request = e }) rest))
  leave id (Unsubscribe d) k rest i =
      let v = is-leaves Q P c (λ c e. []) d k.session i.plain in
      record { up = i.up.1; plain = v; session = v; hand = tt; way = i.way }
  leave id (Subscribe d since) k rest i = i
  leave id (PublishRequest d key body) k rest i = i
  leave id (History d limit) k rest i = i

  pub left : (k : Connection) → A k → A (server.hears_by (λ e. server.leaves_by e.id e.request) k)
  left k h = hears-by (λ e. server.leaves_by e.id e.request) k k.attached k.work k.up
      (λ e rest i. leave e.id e.request k rest i) h

  begin : (lists : Lists) (id : ℕ) (e : ClientRequest) (k : Connection) (rest : List SentCommand)
      → A (first_of_up k (record { id = id; request = e }) rest)
      → A (server.begins_by (wording lists) id e rest (first_of_up k (record { id = id; request = e }) rest))
  begin lists id (Subscribe d since) k rest i =
      by_test A (k.session.closed || not (is_off (k.session.subs d)))
      (first_of_up k (record { id = id; request = Subscribe d since }) rest)
      (record (first_of_up k (record { id = id; request = Subscribe d since }) rest)
      { up = rest; session = begins (wording lists) d id since k.session; work = Began d id since }) (λ e. i)
      (λ e. let v = is-begins Q P c lists d id since k.session i.up.0
      i.plain in record { up = i.up.1; plain = v; session = v; hand = tt; way = i.way })
  begin lists id (Unsubscribe d) k rest i = i
  begin lists id (PublishRequest d key body) k rest i = i
  begin lists id (History d limit) k rest i = i

  pub begun : (lists : Lists) (k : Connection) → A k
      → A (server.hears_by (λ e. server.begins_by (wording lists) e.id e.request) k)
  begun lists k h =
      hears-by (λ e. server.begins_by (wording lists) e.id e.request) k k.attached k.work k.up
      (λ e rest i. begin lists e.id e.request k rest i) h
