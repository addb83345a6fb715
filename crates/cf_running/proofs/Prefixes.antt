-- What is on its way to a client that waits for an answer, after each prefix of a list of sections.
use Rattle.std.proofs.Common.{◌≡◌, ◌≢◌, inl, inr, ◌<◌, ◌≤◌, ℕ, zero, suc, ◌+◌, ◌==◌, nat_lt, nat_le, ◌&&◌, Bool, true}
use Rattle.std.proofs.Common.{false, if◌then◌else◌, is_some, Option, Some, None, List, [], ◌∷◌, ◌++◌, length, slice_get}
use Rattle.std.proofs.Common.{take, refl, sym, ap, subst, ◌∙◌, arith}
use Rattle.std.proofs.Math.Nat.{le_refl}
use Rattle.cf_protocol.specs.Names.{with}
use Rattle.cf_protocol.specs.Position.{Position}
use Rattle.cf_protocol.specs.Note.{Reading, Note, Reply, Pub, End, Fails, Put, Left, Listed, PingDue, Close}
use Rattle.cf_model.specs.Clients.{Client, Mode, Idle, Asking, Live, hears, reconnects, last_of}
use Rattle.cf_model.specs.Streams.{Life}
use Rattle.cf_model.specs.Streams.{last_id}
use Rattle.cf_model.specs.Streams.{read_of}
use Rattle.cf_stream.specs.PublicationList.{state_of}
use Rattle.cf_machine.specs.ClientLink.{client_sends}
use Rattle.cf_machine.specs.ClientRequest.{ClientRequest, Subscribe, Unsubscribe, Publish as PublishRequest, History}
use Rattle.cf_machine.specs.Session.{Session}
use Rattle.cf_machine.specs.World.{World}
use Rattle.cf_machine.proofs.Names.{text_tells, by_test, with-same, with-other}
use Rattle.std.specs.Str.{bytes_eq}
use Rattle.cf_running.specs.Server as server
use Rattle.cf_running.specs.Server.{Server, Site, Connection, Work, Free, Began, HasRead, ToFinish, ToGiveUp, ToPublish}
use Rattle.cf_running.specs.Server.{ToList, ToSay, ClientCommand, Section, at_number, change, nowhere, life_of}
use Rattle.cf_running.specs.Server.{request_by, may_send, server_after, AsksShard, Attaches, Sends, Receives, Breaks}
use Rattle.cf_running.specs.Server.{Gains, Sizes, Publishes, Offers, LooksUp, IsRefused, Begins, Leaves, Calls, Refuses}
use Rattle.cf_running.specs.Server.{ReadDone, Finishes, FinishesOver, FinishesAmid, GivesUp, Drops, Says, Errs, Takes}
use Rattle.cf_running.specs.Server.{Detaches, Delivers, Checks, Pings, Closes, Wanders, Strays}
use Rattle.cf_running.specs.WasRead.{after_first, mode_after, IsOut}
use Rattle.cf_running.proofs.Answering.{Asks, Answered, Answers, RequestIs, NotesAre, more, ups-append, AreRightFor}
use Rattle.cf_running.proofs.Asking.{SinceFits, ReplyFits, IsNoAsk, GoesTo, since-to, reply-to, takes-to, up_to}
use Rattle.cf_running.proofs.Asking.{prefix-next, its_section, IsAside, stays, changed, keeps}
use Rattle.cf_running.proofs.Beside.{IsRight, IsAskedFrom, Linked, BesideClient, Beside, number_tells}
use Rattle.cf_running.proofs.Steps.{stands_beside}

-- the ask of this id was sent, and has been out since
pub record SentAsk (site : Site) (sections : List Section) (x c : List ℕ) (asked id : ℕ) (since : Option Position)
    (n : ℕ) : Type 0 where
  pub command : ClientCommand
  pub sent : slice_get sections asked ≡ Some (Sends x command)
  pub request : request_by ((after_first site sections asked).clients x) command ≡ Subscribe c since
  pub before : asked < n
  pub out : (j : ℕ) → asked < j → j ≤ n → IsOut id since (mode_after site sections x c j)

-- the reading was made for it
pub record WasReadFor (site : Site) (sections : List Section) (x c : List ℕ) (asked n : ℕ) (since : Option Position)
    (r : Reading) : Type 0 where
  pub read : ℕ
  pub connection : ℕ
  pub life : Life
  pub after : asked < read
  pub before : read < n
  pub asks : slice_get sections read ≡ Some (AsksShard connection)
  pub its_own : (after_first site sections read).connection_of x ≡ Some connection
  pub stood : life_of site (after_first site sections read) c ≡ Some life
  pub is : r ≡ read_of since (state_of life)

abbrev pub HasAsked : Site → List Section → (x c : List ℕ) → (asked n : ℕ) → Mode → Type 0
HasAsked site sections x c asked n (Idle last) = Unit {0}
HasAsked site sections x c asked n (Asking i from last) = SentAsk site sections x c asked i from n
HasAsked site sections x c asked n (Live p) = Unit {0}

abbrev pub AsksOf : Client → List ℕ → ℕ → Option Position → Type 0
AsksOf y c id since = (id < y.fresh) × SinceFits (y.modes c) id since

abbrev pub AnsweredOf : Site → List Section → (x c : List ℕ) → (asked n : ℕ) → Client → ℕ → Bool → Reading → Type 0
AnsweredOf site sections x c asked n y id was r =
    (id < y.fresh) × ReplyFits (WasReadFor site sections x c asked n) (y.modes c) id was r

-- THE INVARIANT, of client x and channel c after n sections
pub record Waits (site : Site) (sections : List Section) (x c : List ℕ) (n : ℕ) (s : Server) : Type 0 where
  pub asked : ℕ
  pub mode : HasAsked site sections x c asked n ((s.clients x).modes c)
  pub answers : (k : ℕ) → s.connection_of x ≡ Some k → Answers (AsksOf (s.clients x) c)
      (AnsweredOf site sections x c asked n (s.clients x)) c (s.connections k)

some_is : (j k : ℕ) → ◌≡◌ {A = Option ℕ} (Some j) (Some k) → j ≡ k
some_is j k e = cc

new-answers : (Q : Asks) (P : Answered) (c x : List ℕ) (n : ℕ)
    → Answers Q P c (record nowhere { client = x; node = n; attached = true })
new-answers Q P c x n =
    record {
      up = tt;
      plain = record { sub = tt; notes = tt };
      session = record { sub = tt; notes = tt };
      hand = tt;
      way = tt;
    }

module _ (site : Site) (sections : List Section) (x c : List ℕ) where
  abbrev S : ℕ → Server
  S n = after_first site sections n

  abbrev P : ℕ → ℕ → Client → Answered
  P asked n y = AnsweredOf site sections x c asked n y

  longer-read : (asked n : ℕ) (since : Option Position) (r : Reading) → WasReadFor site sections x c asked n since r
      → WasReadFor site sections x c asked (suc n) since r
  longer-read asked n since r h = record {
    read = h.read;
    connection = h.connection;
    life = h.life;
    after = h.after;
    before = let i : h.read < n = h.before in omega arith;
    asks = h.asks;
    its_own = h.its_own;
    stood = h.stood;
    is = h.is;
  }

  has-longer : (asked n : ℕ) (m : Mode) → mode_after site sections x c (suc n) ≡ m
      → HasAsked site sections x c asked n m → HasAsked site sections x c asked (suc n) m
  has-longer asked n (Idle last) e h = tt
  has-longer asked n (Live p) e h = tt
  has-longer asked n (Asking id from last) e h = record {
    command = h.command;
    sent = h.sent;
    request = h.request;
    before = let i : asked < n = h.before in omega arith;
    out = λ j low high. elim (up_to j n high) [
      | inl i ↦ h.out j low i
      | inr i ↦ subst (λ z. IsOut id from (mode_after site sections x c z)) (sym i)
          (subst (IsOut id from) (sym e) (refl, refl))
    ];
  }

  has-to : (asked n : ℕ) (m t : Mode) → GoesTo m t → mode_after site sections x c (suc n) ≡ t
      → HasAsked site sections x c asked n m → HasAsked site sections x c asked (suc n) t
  has-to asked n m (Idle last) g e h = tt
  has-to asked n m (Live p) g e h = tt
  has-to asked n m (Asking id from last) g e h = elim g [
    | inl i ↦ has-longer asked n (Asking id from last) e (subst (HasAsked site sections x c asked n) (sym i) h)
    | inr i ↦ absurd i
  ]

  -- the ask that is out is right for a reading that is made now
  right-now : (asked n : ℕ) (m : Mode) (k : ℕ) (l : Life) (since : Option Position)
      → slice_get sections n ≡ Some (AsksShard k) → (S n).connection_of x ≡ Some k → life_of site (S n) c ≡ Some l
      → HasAsked site sections x c asked n m → (i : ℕ) (y : Option Position) → y ≡ since → SinceFits m i y
      → ReplyFits (WasReadFor site sections x c asked (suc n)) m i (is_some y) (read_of since (state_of l))
  right-now asked n (Idle last) k l since e at stood h i y f q = tt
  right-now asked n (Live p) k l since e at stood h i y f q = tt
  right-now asked n (Asking id from last) k l since e at stood h i y f q = λ same. (
    ap is_some (q same),
    record {
      read = n;
      connection = k;
      life = l;
      after = h.before;
      before = omega arith;
      asks = e;
      its_own = at;
      stood = stood;
      is = ap (λ z. read_of z (state_of l)) (sym f ∙ q same);
    },
  )

  right-for : (asked n k : ℕ) (y : Client) (v : Session) (w : Work) → slice_get sections n ≡ Some (AsksShard k)
      → (S n).connection_of x ≡ Some k
      → HasAsked site sections x c asked n (y.modes c) → IsRight w v
      → AreRightFor (AsksOf y c) (P asked (suc n) y) c site (S n) v w
  right-for asked n k y v (Began d id since) e at h r = λ l stood f i z b sub q.
      let from : z ≡ since = subst (IsAskedFrom since) sub r in (
        q.0,
        right-now asked n (y.modes c) k l since e at (subst (λ a. life_of site (S n) a ≡ Some l) f stood) h i z from
            q.1,
      )
  right-for asked n k y v Free e at h r = tt
  right-for asked n k y v (HasRead d i) e at h r = tt
  right-for asked n k y v (ToFinish d) e at h r = tt
  right-for asked n k y v (ToGiveUp d id code) e at h r = tt
  right-for asked n k y v (ToPublish d id key z) e at h r = tt
  right-for asked n k y v (ToList d id limit) e at h r = tt
  right-for asked n k y v (ToSay d z) e at h r = tt

  module _ (n : ℕ) (h : Waits site sections x c n (S n)) where
    abbrev me : Client
    me = (S n).clients x

    abbrev A : Connection → Type 0
    A k = Answers (AsksOf me c) (P h.asked (suc n) me) c k

    its-link : (w : World) → Beside site (S n) w → (k : ℕ) → (S n).connection_of x ≡ Some k
        → Linked ((S n).connections k) me (w.links x)
    its-link w b k at = subst (λ o. BesideClient (S n).connections me o (w.links x)) at (b.clients x)

    -- as it was, one section later
    as_it_was : (k : ℕ) → (S n).connection_of x ≡ Some k → A ((S n).connections k)
    as_it_was k at =
        more (AsksOf me c) (P h.asked n me) (AsksOf me c) (P h.asked (suc n) me) c (λ id since q. q)
        (λ id was r p. (
          p.0,
          reply-to (WasReadFor site sections x c h.asked n)
              (WasReadFor site sections x c h.asked (suc n)) (longer-read h.asked n) (me.modes c) (me.modes c) id was r
              (inl refl) p.1,
        ))
        ((S n).connections k) (h.answers k at)

    -- what the client knows goes on, and its connection with it
    goes : (v : Server) → S (suc n) ≡ v → GoesTo (me.modes c) ((v.clients x).modes c)
        → ((k : ℕ) → v.connection_of x ≡ Some k → (me.fresh ≤ (v.clients x).fresh) × A (v.connections k))
        → Waits site sections x c (suc n) v
    goes v e g a = record {
      asked = h.asked;
      mode = has-to h.asked n (me.modes c) ((v.clients x).modes c) g (ap (λ (z : Server). (z.clients x).modes c) e)
          h.mode;
      answers = λ k at.
          let p = a k at in
          let le : me.fresh ≤ (v.clients x).fresh = p.0 in
          more (AsksOf me c) (P h.asked (suc n) me) (AsksOf (v.clients x) c) (P h.asked (suc n) (v.clients x)) c
          (λ id since q. (
            let i : id < me.fresh = q.0 in omega arith,
            since-to (me.modes c) ((v.clients x).modes c) id since g q.1,
          ))
          (λ id was r q. (
            let i : id < me.fresh = q.0 in omega arith,
            reply-to (WasReadFor site sections x c h.asked (suc n)) (WasReadFor site sections x c h.asked (suc n))
                (λ from y z. z) (me.modes c) ((v.clients x).modes c) id was r g q.1,
          ))
          (v.connections k) p.1;
    }

    unchanged : S (suc n) ≡ S n → Waits site sections x c (suc n) (S n)
    unchanged e = goes (S n) e (inl refl) (λ k at. (le_refl _, as_it_was k at))

    -- a section that leaves clients aside
    aside-step : (y : Section) → IsAside y → slice_get sections n ≡ Some y → S (suc n) ≡ server_after site y (S n)
        → (w : World) → Beside site (S n) w
        → Waits site sections x c (suc n) (server_after site y (S n))
    aside-step y side e next w b =
        let v : Server = server_after site y (S n) in
        let st = stays site (S n) y side in
        goes v next (inl (ap (λ (f : List ℕ → Client). (f x).modes c) st.0))
        (λ k at.
        let was : (S n).connection_of x ≡ Some k = ap (λ (f : List ℕ → Option ℕ). f x) (sym st.1) ∙ at in
        let own : ((S n).connections k).client ≡ x = (b.owns x k was).0 in (
          subst (λ (f : List ℕ → Client). me.fresh ≤ (f x).fresh) (sym st.0) (le_refl _),
          keeps site (S n) (AsksOf me c) (P h.asked (suc n) me) c k y side
              (ap (λ z. server.is_connection k ((S n).connection_of z)) own ∙ ap (server.is_connection k) was
              ∙ itself k)
              (λ is. right-for h.asked n k me ((S n).connections k).session ((S n).connections k).work (e ∙ ap Some is)
              was h.mode (its-link w b k was).right)
              (as_it_was k was),
        ))
      where
        itself : (k : ℕ) → (k == k) ≡ true
        itself k = elim (number_tells k k) [
          | inl i ↦ i.0
          | inr i ↦ absurd (i.1 refl)
        ]

    -- it goes, or another does
    parts-step : (y : List ℕ) (connections : ℕ → Connection)
        → ((k : ℕ) → (S n).connection_of x ≡ Some k → A (connections k))
        → S (suc n) ≡ server.parts y (record (S n) { connections = connections })
        → Waits site sections x c (suc n) (server.parts y (record (S n) { connections = connections }))
    parts-step y connections a next =
        goes (server.parts y (record (S n) { connections = connections })) next
        (elim (text_tells x y) [
          | inl e ↦ inr (subst (λ (z : Client). IsNoAsk (z.modes c))
              (sym (ap (λ (t : Bool). if t then reconnects ((S n).clients y) else me) e.0)) tt)
          | inr e ↦ inl (ap (λ (t : Bool). (if t then reconnects ((S n).clients y) else me).modes c) e.0)
        ])
        (λ k at. elim (text_tells x y) [
          | inl e ↦ absurd (let f : None ≡ Some k = sym
              (ap (λ (t : Bool). if t then None else (S n).connection_of x) e.0)
              ∙ at in cc)
          | inr e ↦ (
            subst (λ (z : Client). me.fresh ≤ z.fresh) (sym
                (ap (λ (t : Bool). if t then reconnects ((S n).clients y) else me) e.0)) (le_refl _),
            a k (sym (ap (λ (t : Bool). if t then None else (S n).connection_of x) e.0) ∙ at),
          )
        ])

    breaks-step : (y : List ℕ) (o : Option ℕ) → S (suc n) ≡ server.parts_from y o (S n)
        → Waits site sections x c (suc n) (server.parts_from y o (S n))
    breaks-step y None next = unchanged next
    breaks-step y (Some k) next = parts-step y (S n).connections (λ j at. as_it_was j at) next

    -- a note reaches it, or another
    hears-step : (y : List ℕ) (note : Note) (connections : ℕ → Connection)
        → ((k : ℕ) → (S n).connection_of x ≡ Some k → A (connections k))
        → S (suc n) ≡ record (S n) {
          connections = connections;
          clients = with (S n).clients y (hears note ((S n).clients y));
        }
        → Waits site sections x c (suc n) (record (S n)
        { connections = connections; clients = with (S n).clients y (hears note ((S n).clients y)) })
    hears-step y note connections a next =
        goes (record (S n) { connections = connections; clients = with (S n).clients y (hears note ((S n).clients y)) })
        next
        (elim (text_tells x y) [
          | inl e ↦ subst (λ (z : Client). GoesTo (me.modes c) (z.modes c))
              (sym (ap (λ (t : Bool). if t then hears note ((S n).clients y) else me) e.0))
              (subst (λ z. GoesTo (me.modes c) ((hears note ((S n).clients z)).modes c)) e.1
              (takes-to c (me.modes c) note))
          | inr e ↦ inl (ap (λ (t : Bool). (if t then hears note ((S n).clients y) else me).modes c) e.0)
        ])
        (λ k at. (
          elim (text_tells x y) [
            | inl e ↦ subst (λ (z : Client). me.fresh ≤ z.fresh)
                (sym (ap (λ (t : Bool). if t then hears note ((S n).clients y) else me) e.0))
                (subst (λ z. me.fresh ≤ ((S n).clients z).fresh) e.1 (le_refl _))
            | inr e ↦ subst (λ (z : Client). me.fresh ≤ z.fresh)
                (sym (ap (λ (t : Bool). if t then hears note ((S n).clients y) else me) e.0)) (le_refl _)
          ],
          a k at,
        ))

    gets-step : (y : List ℕ) (note : Note) (connections : ℕ → Connection)
        → ((k : ℕ) → (S n).connection_of x ≡ Some k → A (connections k))
        → S (suc n) ≡ server.gets y note (record (S n) { connections = connections })
        → Waits site sections x c (suc n) (server.gets y note (record (S n) { connections = connections }))
    gets-step y (Close code) connections a next = parts-step y connections a next
    gets-step y (Reply d id was r) connections a next = hears-step y (Reply d id was r) connections a next
    gets-step y (Pub d q) connections a next = hears-step y (Pub d q) connections a next
    gets-step y (End d) connections a next = hears-step y (End d) connections a next
    gets-step y (Fails d id code) connections a next = hears-step y (Fails d id code) connections a next
    gets-step y (Put id) connections a next = hears-step y (Put id) connections a next
    gets-step y (Left id) connections a next = hears-step y (Left id) connections a next
    gets-step y (Listed d id q low count) connections a next = hears-step y (Listed d id q low count) connections a next
    gets-step y PingDue connections a next = hears-step y PingDue connections a next

    tail : (note : Note) (ns : List Note) (k : Connection) → k.way ≡ note ∷ ns → A k → A (record k { way = ns })
    tail note ns k e a =
        let w = subst (NotesAre (P h.asked (suc n) me) c) e a.way in
        record { up = a.up; plain = a.plain; session = a.session; hand = a.hand; way = w.1 }

    receives-first : (y : List ℕ) (k : ℕ) (ns : List Note) → ((S n).connections k).way ≡ ns
        → S (suc n) ≡ server.receives_first y k ns (S n)
        → Waits site sections x c (suc n) (server.receives_first y k ns (S n))
    receives-first y k [] e next = unchanged next
    receives-first y k (note ∷ ns) e next =
        gets-step y note (at_number (S n).connections k (record ((S n).connections k) { way = ns }))
        (λ j at. changed site (S n) (AsksOf me c) (P h.asked (suc n) me) c j k
        (λ (z : Connection). record z { way = ns }) (λ f a. tail note ns ((S n).connections k) e a)
        (as_it_was j at)) next

    receives-step : (y : List ℕ) (o : Option ℕ) → S (suc n) ≡ server.receives_by y o (S n)
        → Waits site sections x c (suc n) (server.receives_by y o (S n))
    receives-step y None next = unchanged next
    receives-step y (Some k) next = receives-first y k ((S n).connections k).way refl next

    -- it comes to a node, or another
    attaches-step : (y : List ℕ) (node : ℕ) (o : Option ℕ) → S (suc n) ≡ server.comes_to site y node o (S n)
        → Waits site sections x c (suc n) (server.comes_to site y node o (S n))
    attaches-step y node (Some k) next = unchanged next
    attaches-step y node None next = by_room (nat_lt node site.config.nodes) next
      where
        new : Connection
        new = record nowhere { client = y; node = node; attached = true }

        joined : Server
        joined = record (S n) {
          connections = at_number (S n).connections (S n).count new;
          count = (S n).count + 1;
          connection_of = with (S n).connection_of y (Some (S n).count);
        }

        others : (j : ℕ) → A ((S n).connections j) → A (at_number (S n).connections (S n).count new j)
        others j a =
            by_test A (j == (S n).count) _ _ (λ e. new-answers (AsksOf me c) (P h.asked (suc n) me) c y node) (λ e. a)

        own : A (at_number (S n).connections (S n).count new (S n).count)
        own = elim (number_tells (S n).count (S n).count) [
          | inl i ↦ subst A (sym (ap (λ (t : Bool). if t then new else (S n).connections (S n).count) i.0))
              (new-answers (AsksOf me c) (P h.asked (suc n) me) c y node)
          | inr i ↦ absurd (i.1 refl)
        ]

        by_room : (t : Bool) → S (suc n) ≡ (if t then joined else S n)
            → Waits site sections x c (suc n) (if t then joined else S n)
        by_room false e = unchanged e
        by_room true e = goes joined e (inl refl) (λ k at. (
          le_refl _,
          elim (text_tells x y) [
            | inl f ↦
                let is : (S n).count ≡ k =
                some_is (S n).count k (sym (ap (λ (t : Bool). if t then Some (S n).count else (S n).connection_of x)
                f.0)
                ∙ at) in
                subst (λ z. A (at_number (S n).connections (S n).count new z)) is own
            | inr f ↦ others k (as_it_was k (sym (ap (λ (t : Bool). if t then Some (S n).count
                else (S n).connection_of x) f.0)
                ∙ at))
          ],
        ))

    -- ---- it sends, or another does

    abbrev said : (y : List ℕ) → ℕ → ClientRequest → Server
    said y k r =
        record (change k (λ (l : Connection). record l
        { up = l.up ++ record { id = ((S n).clients y).fresh; request = r } ∷ [] }) (S n)) {
          clients = with (S n).clients y (client_sends r ((S n).clients y));
        }

    abbrev more_up : Client → ClientRequest → Connection → Connection
    more_up y r k = record k { up = k.up ++ record { id = y.fresh; request = r } ∷ [] }

    said-up : (Q : Asks) (R : Answered) (y : Client) (r : ClientRequest) (k : Connection) → RequestIs Q c y.fresh r
        → Answers Q R c k → Answers Q R c (more_up y r k)
    said-up Q R y r k q a = record {
      up = ups-append Q R c k.up (record { id = y.fresh; request = r } ∷ []) a.up (q, tt);
      plain = a.plain;
      session = a.session;
      hand = a.hand;
      way = a.way;
    }

    own-goes : (k : ℕ) (r : ClientRequest) (t : Client) → client_sends r me ≡ t → GoesTo (me.modes c) (t.modes c)
        → me.fresh ≤ t.fresh → RequestIs (AsksOf me c) c me.fresh r
        → S (suc n) ≡ said x k r → Waits site sections x c (suc n) (said x k r)
    own-goes k r t e g le q next =
        let is : with (S n).clients x (client_sends r me) x ≡ t = with-same (S n).clients x (client_sends r me) ∙ e in
        goes (said x k r) next (subst (λ (z : Client). GoesTo (me.modes c) (z.modes c)) (sym is) g)
        (λ j at. (
          subst (λ (z : Client). me.fresh ≤ z.fresh) (sym is) le,
          changed site (S n) (AsksOf me c) (P h.asked (suc n) me) c j k (more_up me r)
              (λ f a. said-up (AsksOf me c) (P h.asked (suc n) me) me r ((S n).connections k) q a) (as_it_was j at),
        ))

    -- the client's own ask of this channel
    own-ask : (k : ℕ) (e : ClientCommand) (from : Option Position) → slice_get sections n ≡ Some (Sends x e)
        → request_by me e ≡ Subscribe c from
        → S (suc n) ≡ said x k (Subscribe c from) → Waits site sections x c (suc n) (said x k (Subscribe c from))
    own-ask k e from is r next =
        let t : Client = client_sends (Subscribe c from) me in
        let v : Server = said x k (Subscribe c from) in
        let mine : v.clients x ≡ t = with-same (S n).clients x t in
        let m : t.modes c ≡ Asking me.fresh from (last_of (me.modes c)) =
        with-same me.modes c (Asking me.fresh from (last_of (me.modes c))) in
        let mode : (v.clients x).modes c ≡ Asking me.fresh from (last_of (me.modes c)) =
        ap (λ (z : Client). z.modes c) mine ∙ m in
        let out : IsOut me.fresh from (mode_after site sections x c (suc n)) =
        subst (IsOut me.fresh from) (sym (ap (λ (z : Server). (z.clients x).modes c) next ∙ mode)) (refl, refl) in
        record {
          asked = n;
          mode = subst (HasAsked site sections x c n (suc n)) (sym mode) (record {
            command = e;
            sent = is;
            request = r;
            before = omega arith;
            out = λ j low high. elim (up_to j n high) [
              | inl i ↦ absurd (omega (arith, i, low))
              | inr i ↦ subst (λ z. IsOut me.fresh from (mode_after site sections x c z)) (sym i) out
            ];
          });
          answers = λ j at.
              subst (λ (z : Client). Answers (AsksOf z c) (P n (suc n) z) c (v.connections j)) (sym mine)
              (changed site (S n) (AsksOf t c) (P n (suc n) t) c j k (more_up me (Subscribe c from))
              (λ f a. said-up (AsksOf t c) (P n (suc n) t) me (Subscribe c from) ((S n).connections k)
              (λ g. (omega arith, subst (λ z. SinceFits z me.fresh from) (sym m) (λ same. refl))) a)
              (more (AsksOf me c) (P h.asked n me) (AsksOf t c) (P n (suc n) t) c
              (λ id since q. let i : id < me.fresh = q.0 in (
                omega arith,
                subst (λ z. SinceFits z id since) (sym m) (λ same. absurd (omega (arith, i, same))),
              ))
              (λ id was r q. let i : id < me.fresh = q.0 in (
                omega arith,
                subst (λ z. ReplyFits (WasReadFor site sections x c n (suc n)) z id was r) (sym m)
                    (λ same. absurd (omega (arith, i, same))),
              ))
              ((S n).connections j) (h.answers j at)));
        }

    own-sends : (k : ℕ) (e : ClientCommand) (r : ClientRequest) → slice_get sections n ≡ Some (Sends x e)
        → request_by me e ≡ r
        → S (suc n) ≡ said x k r → Waits site sections x c (suc n) (said x k r)
    own-sends k e (Subscribe d from) is q next = elim (text_tells d c) [
      | inl i ↦
          subst (λ z. request_by me e ≡ Subscribe z from → S (suc n) ≡ said x k (Subscribe z from)
          → Waits site sections x c (suc n) (said x k (Subscribe z from))) (sym i.1)
          (own-ask k e from is) q next
      | inr i ↦
          own-goes k (Subscribe d from) (client_sends (Subscribe d from) me) refl
          (inl (with-other me.modes d (Asking me.fresh from (last_of (me.modes d))) c (λ f. i.1 (sym f)))) (omega arith)
          (λ f. absurd (i.1 f)) next
    ]
    own-sends k e (Unsubscribe d) is q next =
        own-goes k (Unsubscribe d) (client_sends (Unsubscribe d) me) refl
        (by_test (λ z. GoesTo (me.modes c) z) (bytes_eq c d) _ _ (λ i. inr tt) (λ i. inl refl)) (omega arith) tt next
    own-sends k e (PublishRequest d key body) is q next =
        own-goes k (PublishRequest d key body) (client_sends (PublishRequest d key body) me) refl (inl refl)
        (omega arith) tt next
    own-sends k e (History d limit) is q next =
        own-goes k (History d limit) (client_sends (History d limit) me) refl (inl refl) (omega arith) tt next

    by_can : (t : Bool) (v : Server) → (S (suc n) ≡ v → Waits site sections x c (suc n) v)
        → S (suc n) ≡ (if t then v else S n) → Waits site sections x c (suc n) (if t then v else S n)
    by_can true v f e = f e
    by_can false v f e = unchanged e

    own-step : (e : ClientCommand) (o : Option ℕ) → slice_get sections n ≡ Some (Sends x e)
        → S (suc n) ≡ server.sends_by x e o (S n)
        → Waits site sections x c (suc n) (server.sends_by x e o (S n))
    own-step e None is next = unchanged next
    own-step e (Some k) is next =
        by_can (nat_le me.fresh last_id && may_send me e) (said x k (request_by me e))
        (λ f. own-sends k e (request_by me e) is refl f) next

    other-step : (y : List ℕ) (e : ClientCommand) (o : Option ℕ) → x ≢ y → (S n).connection_of y ≡ o
        → S (suc n) ≡ server.sends_by y e o (S n) → (w : World) → Beside site (S n) w
        → Waits site sections x c (suc n) (server.sends_by y e o (S n))
    other-step y e None ne at next w b = unchanged next
    other-step y e (Some k) ne at next w b =
        by_can (nat_le ((S n).clients y).fresh last_id && may_send ((S n).clients y) e) (said y k r)
        (λ f.
        let same : with (S n).clients y (client_sends r ((S n).clients y)) x ≡ me =
        with-other (S n).clients y (client_sends r ((S n).clients y)) x ne in
        goes (said y k r) f (inl (ap (λ (z : Client). z.modes c) same))
        (λ j own. (
          subst (λ (z : Client). me.fresh ≤ z.fresh) (sym same) (le_refl _),
          changed site (S n) (AsksOf me c) (P h.asked (suc n) me) c j k (more_up ((S n).clients y) r)
              (λ i a. absurd (ne (sym (b.owns x j own).0 ∙ ap (λ z. ((S n).connections z).client) (sym i)
              ∙ (b.owns y k at).0))) (as_it_was j own),
        ))) next
      where
        r : ClientRequest
        r = request_by ((S n).clients y) e

    sends-step : (y : List ℕ) (e : ClientCommand) → slice_get sections n ≡ Some (Sends y e)
        → S (suc n) ≡ server.sends_by y e ((S n).connection_of y) (S n) → (w : World) → Beside site (S n) w
        → Waits site sections x c (suc n) (server.sends_by y e ((S n).connection_of y) (S n))
    sends-step y e is next w b = elim (text_tells x y) [
      | inl i ↦
          subst (λ z. slice_get sections n ≡ Some (Sends z e)
          → S (suc n) ≡ server.sends_by z e ((S n).connection_of z) (S n)
          → Waits site sections x c (suc n) (server.sends_by z e ((S n).connection_of z) (S n))) i.1
          (own-step e ((S n).connection_of x)) is next
      | inr i ↦ other-step y e ((S n).connection_of y) i.1 refl next w b
    ]

    -- ---- each section

    step : (y : Section) → slice_get sections n ≡ Some y → S (suc n) ≡ server_after site y (S n) → (w : World)
        → Beside site (S n) w → Waits site sections x c (suc n) (server_after site y (S n))
    step (Sends y e) is next w b = sends-step y e is next w b
    step (Receives y) is next w b = receives-step y ((S n).connection_of y) next
    step (Breaks y) is next w b = breaks-step y ((S n).connection_of y) next
    step (Attaches y node) is next w b = attaches-step y node ((S n).connection_of y) next
    step (Gains entry) is next w b = aside-step (Gains entry) tt is next w b
    step (Sizes shard name i) is next w b = aside-step (Sizes shard name i) tt is next w b
    step (Publishes k) is next w b = aside-step (Publishes k) tt is next w b
    step (Offers i m) is next w b = aside-step (Offers i m) tt is next w b
    step (AsksShard k) is next w b = aside-step (AsksShard k) tt is next w b
    step (LooksUp k d) is next w b = aside-step (LooksUp k d) tt is next w b
    step (IsRefused k code) is next w b = aside-step (IsRefused k code) tt is next w b
    step (Begins k) is next w b = aside-step (Begins k) tt is next w b
    step (Leaves k) is next w b = aside-step (Leaves k) tt is next w b
    step (Calls k info) is next w b = aside-step (Calls k info) tt is next w b
    step (Refuses k code) is next w b = aside-step (Refuses k code) tt is next w b
    step (ReadDone k) is next w b = aside-step (ReadDone k) tt is next w b
    step (Finishes k) is next w b = aside-step (Finishes k) tt is next w b
    step (FinishesOver k) is next w b = aside-step (FinishesOver k) tt is next w b
    step (FinishesAmid k count code) is next w b = aside-step (FinishesAmid k count code) tt is next w b
    step (GivesUp k) is next w b = aside-step (GivesUp k) tt is next w b
    step (Drops k) is next w b = aside-step (Drops k) tt is next w b
    step (Says k) is next w b = aside-step (Says k) tt is next w b
    step (Errs k code) is next w b = aside-step (Errs k code) tt is next w b
    step (Takes k) is next w b = aside-step (Takes k) tt is next w b
    step (Detaches k code) is next w b = aside-step (Detaches k code) tt is next w b
    step (Delivers m) is next w b = aside-step (Delivers m) tt is next w b
    step (Checks i) is next w b = aside-step (Checks i) tt is next w b
    step (Pings k) is next w b = aside-step (Pings k) tt is next w b
    step (Closes k code) is next w b = aside-step (Closes k code) tt is next w b
    step (Wanders m) is next w b = aside-step (Wanders m) tt is next w b
    step (Strays k e) is next w b = aside-step (Strays k e) tt is next w b

  -- AFTER EACH PREFIX
  pub waits : (n : ℕ) → n ≤ length sections → Waits site sections x c n (S n)
  waits zero h = record { asked = 0; mode = tt; answers = λ k at. absurd (let f : None ≡ Some k = at in cc) }
  waits (suc n) h =
      let y = its_section sections n (omega (arith, h)) in
      let next : S (suc n) ≡ server_after site y.0 (S n) = prefix-next site sections server.start n y.0 y.1 in
      let w = stands_beside site (take n sections) in
      subst (Waits site sections x c (suc n)) (sym next) (step n (waits n (omega (arith, h))) y.0 y.1 next w.0 w.1)
