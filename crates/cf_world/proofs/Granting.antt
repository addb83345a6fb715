-- A command that passed its checks is carried out, and the world goes on with the machine.
use Rattle.std.proofs.Common.{◌≡◌, ◌≤◌, ◌+◌, ◌&&◌, inl, inr, ℕ, ℤ, not, Bool, true, false, if◌then◌else◌, is_some}
use Rattle.std.proofs.Common.{Option, Some, None, option_map, List, [], length, arith, refl, sym, ap, ◌∙◌, subst}
use Rattle.std.proofs.lemmas.Bool.{both_ways}
use Rattle.std.proofs.lemmas.Bool.Decides.{nat_tests}
use Rattle.std.proofs.lemmas.Option.{none-some, same_Some}
use Rattle.cf_protocol.specs.Checks.{Refusal, Already, Full, AtLastOffset, refusal_code}
use Rattle.cf_protocol.specs.Codes.{code_of}
use Rattle.cf_protocol.specs.Datum.{Datum, Who}
use Rattle.cf_protocol.specs.Names.{with}
use Rattle.cf_protocol.specs.Note.{Lists as PublicationLists, placed_from, Fails, Put as PutDone, Left as LeftNote}
use Rattle.cf_protocol.specs.Note.{Listed}
use Rattle.cf_protocol.specs.Outgoing.{Past, Published as PublishedOutcome, Unsubscribed}
use Rattle.cf_protocol.specs.Position.{Position}
use Rattle.cf_protocol.specs.Regular.{ArePlaced, IsBody, IsCode, IsInfo}
use Rattle.cf_protocol.specs.Settings.{NamespaceTable, settings_of}
use Rattle.cf_protocol.specs.declared.codes.ErrorCode.{ErrorCode}
use Rattle.cf_protocol.specs.declared.codes.ErrorCode.TheVariants as error
use Rattle.cf_model.specs.Clients.{Client}
use Rattle.cf_client.specs.ClientView.{state_of}
use Rattle.cf_queue.specs.OutQueue.{Text}
use Rattle.cf_hub.specs.AlikeMoves.{CallsAreAlike, MovesAreAlike}
use Rattle.cf_hub.specs.Counts.{CountsAll, CountsSession}
use Rattle.cf_hub.specs.Hub.{Node, attached_at, is_open}
use Rattle.cf_hub.specs.InNotes.{IsSaid, SaysAt}
use Rattle.cf_hub.specs.Rows.{sub_in}
use Rattle.cf_hub.specs.Session.{Attached}
use Rattle.cf_model.specs.Sessions.{begins, is_off, is_unfinished, leaves, push}
use Rattle.cf_model.specs.Sessions.{spoken}
use Rattle.cf_hub.specs.Wordings.{plain}
use Rattle.cf_model.specs.Streams.{Listing, listed_above}
use Rattle.cf_model.specs.Streams.{StreamState, position_of}
use Rattle.cf_stream.specs.declared.answer.History.{History}
use Rattle.cf_machine.specs.ClientLink.{ClientLink}
use Rattle.cf_machine.specs.ClientRequest.{ClientRequest, SentCommand, Subscribe, Unsubscribe, Publish}
use Rattle.cf_machine.specs.ClientRequest.{History as ListHistory, channel_of}
use Rattle.cf_machine.specs.Config.{Config}
use Rattle.cf_machine.specs.IntervalMachine.{broker_by, command_by, datum_by, exchange, judgement, size_of}
use Rattle.cf_machine.specs.PublicationList.{Broker, at_last_offset, can_open, is_repeat, opened, publish}
use Rattle.cf_machine.specs.Refusals.{Accepted, Judgement, Refused, TooLong, Unheard, has_no_room, refusal_of}
use Rattle.cf_machine.specs.Refusals.{refused_with, subscribe_refusal}
use Rattle.cf_machine.specs.Session.{Session}
use Rattle.cf_machine.specs.World.{World}
use Rattle.cf_machine.proofs.Brokering.{lists-opened}
use Rattle.cf_machine.proofs.Readings.{regular-placed}
use Rattle.cf_world.specs.BrokerTie.{Histories, IsStanding, Publishes, ShowsBroker}
use Rattle.cf_world.specs.ClientTie.{Becomes, IsOwn, ShowsPeer, sent_state}
use Rattle.cf_world.specs.Exchange.{IsGranted}
use Rattle.cf_session.specs.SessionMachine.{reply_text}
use Rattle.cf_world.specs.HubCalls.{Answered, AskedTooMuch, AskedTwice, Asks, AtHub, Began, Hubs, LeftTold, OneHub}
use Rattle.cf_world.specs.HubCalls.{Told, error_text, who_in}
use Rattle.cf_world.specs.NodesTie.{IsAtAddress, name_of, session_at, session_in}
use Rattle.cf_world.specs.Tie.{AreTied}
use Rattle.cf_world.specs.declared.broker.WorldBroker.{WorldBroker as Code}
use Rattle.cf_world.specs.declared.broker.PublishOutcome.{PublishOutcome}
use Rattle.cf_world.specs.declared.broker.PublishOutcome.TheVariants as outcome
use Rattle.cf_world.specs.declared.clients.Peer.{Peer}
use Rattle.cf_world.specs.declared.clients.SessionAddress.{SessionAddress}
use Rattle.cf_world.proofs.Answering.{answer_goes, begin_goes}
use Rattle.cf_world.proofs.AtHubs.{ListAnsweredAt, ListsAt, PutAnsweredAt, PutsAt}
use Rattle.cf_world.proofs.BoardLists.{grown-refl}
use Rattle.cf_world.proofs.Ends.{Keeps, leaves_keeps, push_keeps}
use Rattle.cf_world.proofs.Exchanged.{after, exchange_as, met, met_ask, met_history, met_refused}
use Rattle.cf_world.proofs.Exchanging.{exchange_goes, sat}
use Rattle.cf_world.proofs.Going.{Stays, grown-opened, grown-publish, publish-repeat}
use Rattle.cf_world.proofs.Looking.{off_at, off_is, open_at}
use Rattle.cf_world.proofs.LinksTie.{link_goes, met_name, one_name}
use Rattle.cf_world.proofs.NodesTie.{address_shows}
use Rattle.cf_world.proofs.Owned.{push-own}
use Rattle.cf_world.proofs.Passing.{publish-set-up}
use Rattle.cf_world.proofs.Reading.{Missing}
use Rattle.cf_world.proofs.Rooms.{row_full, row_room}
use Rattle.cf_world.proofs.Saying.{says_fails, says_left, says_listed, says_put}
use Rattle.cf_world.proofs.SentOwn.{AreOld, old_of, own_fails, own_listed, own_sent}
use Rattle.cf_world.proofs.Sitting.{client_here, hub_there}

-- ---- words

-- what is so of a node is so of it by its number
pub at_hub : {n : ℕ} {P : Node → Node → Type 0} {old new : Hubs} {h : Node} → old n ≡ Some h → OneHub n P old new h
    → AtHub n P old new
at_hub {n = n} {P = P} {old = old} {new = new} {h = h} was one =
    λ g e. subst (λ (z : Node). OneHub n P old new z) (same_Some h g (sym was ∙ e)) one

-- the session's client names itself
who_is : (o : Option Attached) (name : List ℕ) → name_of o ≡ Some name
    → who_in o ≡ Some (record { user = []; client = name })
who_is None name h = absurd (none-some name h)
who_is (Some a) name h = ap (λ (n : List ℕ). Some (record { user = []; client = n })) (same_Some a.badge.client name h)

abbrev judged_so : Bool → Bool → Option ErrorCode → Option Refusal → Judgement
judged_so closed long first r =
    if closed then Unheard else if long then TooLong
    else refused_with first (refused_with (option_map refusal_code r) Accepted)

then-leaves : (c : List ℕ) (g : Session → Session) → Keeps g → Keeps (λ b. g (leaves c b))
then-leaves c g k = record {
  ends = λ b d h. (leaves_keeps c).ends b d (k.ends (leaves c b) d h);
  shut = λ b h. k.shut (leaves c b) ((leaves_keeps c).shut b h);
}

module _ {cfg : Config} {table : NamespaceTable} {b : Code} {hubs : ℕ → Option Node} {peers : List ℕ → Option Peer}
    {m : World}
    (t : AreTied cfg table b hubs peers m) (x : List ℕ) (s : SessionAddress) (p : Peer) (found : peers x ≡ Some p)
    (sits : p.address ≡ Some s)
    (e : ClientRequest) (peers' : List ℕ → Option Peer)
    (becomes : Becomes x p (sent_state e (state_of p.client)) peers peers')
    (stays : Stays) (calls : (lists : PublicationLists) → CallsAreAlike lists)
    (moves : (lists : PublicationLists) → MovesAreAlike lists) (g : IsGranted cfg m x p e) where
  abbrev l : ClientLink
  l = m.links x

  abbrev k : SentCommand
  k = command_by x e m

  here : ShowsPeer p l
  here = client_here t x p found

  old : AreOld (state_of p.client)
  old = old_of p.client g.apart

  same_id : (state_of p.client).client.fresh ≡ l.client.fresh
  same_id = ap (λ (z : Client). z.fresh) here.client

  -- the id of the command is one of the protocol's
  code : IsCode l.client.fresh
  code = (subst (λ (n : ℕ). 1 ≤ n) same_id (omega arith), let few = g.left in grind (arith, nat_tests, few))

  address : IsAtAddress cfg.namespaces m.broker.lists (session_at hubs s) s.node l
  address = address_shows t.nodes x s (sat t x s p found sits k peers' becomes)

  there : (h : Node) × (hubs s.node ≡ Some h)
  there = hub_there t x s (sat t x s p found sits k peers' becomes)

  -- ---- how it is judged

  by_hub : (r : Option Refusal) → refusal_of e l m ≡ r
      → judgement cfg x e m ≡ refused_with (option_map refusal_code r) Accepted
  by_hub r is = λ i. judged_so (g.opened i) (g.fits i) (g.checked i) (is i)

  -- the machine's event, by the judgement
  module _ (new : Code) (hubs' : ℕ → Option Node) where
    ends : (j : Judgement) → judgement cfg x e m ≡ j
        → AreTied cfg table new hubs' peers' (record m {
          broker = broker_by cfg l e j m.broker;
          links = with m.links x
              (met m.broker.lists (broker_by cfg l e j m.broker) k j l);
        })
        → AreTied cfg table new hubs' peers' (exchange cfg x e m)
    ends j is tied =
        subst (λ (w : World). AreTied cfg table new hubs' peers' w) (sym (exchange_as cfg x e m j is)) tied

  -- the link, by what it is met with
  meets : (new : Code) (hubs' : ℕ → Option Node) (broker : Broker) (l1 l2 : ClientLink) → l1 ≡ l2
      → AreTied cfg table new hubs' peers' (record m { broker = broker; links = with m.links x l2 })
      → AreTied cfg table new hubs' peers' (record m { broker = broker; links = with m.links x l1 })
  meets new hubs' broker l1 l2 same tied =
      subst (λ (z : ClientLink). AreTied cfg table new hubs' peers'
      (record m { broker = broker; links = with m.links x z })) (sym same) tied

  module _ (new : Code) (hubs' : ℕ → Option Node) (shows : ShowsBroker cfg.namespaces new m.broker) where
    -- an error answers, and the broker stays
    errs : (r : Refusal) → refusal_of e l m ≡ Some r
        → AtHub s.node (Told s.session (error_text l.client.fresh (refusal_code r))) hubs hubs'
        → IsCode (code_of (refusal_code r))
        → met m.broker.lists m.broker k (Refused (code_of (refusal_code r))) l
        ≡ after k (push (spoken m.broker.lists) (Fails (channel_of e) l.client.fresh (code_of (refusal_code r)))
        l.session) l.channels l
        → AreTied cfg table new hubs' peers' (exchange cfg x e m)
    errs r is at ok same =
        ends new hubs' (Refused (code_of (refusal_code r))) (by_hub (Some r) is)
        (meets new hubs' m.broker (met m.broker.lists m.broker k (Refused (code_of (refusal_code r))) l)
        (after k (push (spoken m.broker.lists) (Fails (channel_of e) l.client.fresh (code_of (refusal_code r)))
        l.session) l.channels l) same
        (answer_goes t x s p found sits k peers' becomes stays new m.broker (grown-refl m.broker.lists) shows
        (calls m.broker.lists) (moves m.broker.lists)
        (error_text l.client.fresh (refusal_code r)) (Fails (channel_of e) l.client.fresh (code_of (refusal_code r)))
        (says_fails m.broker.lists l.client.fresh code (channel_of e) (code_of (refusal_code r)) ok)
        (subst (λ (i : ℕ). IsOwn (sent_state e (state_of p.client)) (Fails (channel_of e) i (code_of (refusal_code r))))
        same_id (own_fails (state_of p.client) e (code_of (refusal_code r)) old))
        hubs' at))

-- ---- a subscribe

module _ {cfg : Config} {table : NamespaceTable} {b : Code} {hubs : ℕ → Option Node} {peers : List ℕ → Option Peer}
    {m : World}
    (t : AreTied cfg table b hubs peers m) (x : List ℕ) (s : SessionAddress) (p : Peer) (found : peers x ≡ Some p)
    (sits : p.address ≡ Some s)
    (c : List ℕ) (since : Option Position) (peers' : List ℕ → Option Peer)
    (becomes : Becomes x p (sent_state (Subscribe c since) (state_of p.client)) peers peers')
    (stays : Stays) (calls : (lists : PublicationLists) → CallsAreAlike lists)
    (moves : (lists : PublicationLists) → MovesAreAlike lists) (g : IsGranted cfg m x p (Subscribe c since))
    (session : CountsSession) (all : CountsAll) where
  abbrev asks : ClientRequest
  asks = Subscribe c since

  abbrev lk : ClientLink
  lk = m.links x

  -- the session that asks, at its node
  module _ (h : Node) (was : hubs s.node ≡ Some h) where
    says : SaysAt m.broker.lists (attached_at h s.session) lk.session
    says = subst (λ (o : Option Node). SaysAt m.broker.lists (session_in o s.session) lk.session) was
        (address t x s p found sits asks peers' becomes stays calls moves g).says

    open_here : is_open (attached_at h s.session) ≡ true
    open_here = open_at m.broker.lists (attached_at h s.session) lk.session says ∙ ap not g.opened

    off_here : is_off (sub_in (attached_at h s.session) c) ≡ is_off (lk.session.subs c)
    off_here = off_at m.broker.lists (attached_at h s.session) lk.session says c

    refuses : (off full : Bool) → is_off (lk.session.subs c) ≡ off → has_no_room lk m ≡ full
        → refusal_of asks lk m ≡ subscribe_refusal off full
    refuses off full i j = λ n. subscribe_refusal (i n) (j n)

    quiet : is_unfinished (lk.session.subs c) ≡ false
    quiet = g.quiet c

    module _ (hubs' : ℕ → Option Node) (one : OneHub s.node (Asks s.session c lk.client.fresh since) hubs hubs' h) where
      begun : Began s.session c lk.client.fresh since h one.hub
          → AreTied cfg table b hubs' peers' (exchange cfg x asks m)
      begun y =
          let off : is_off (lk.session.subs c) ≡ true = sym off_here ∙ y.off in
          let room : has_no_room lk m ≡ false =
          row_room t.nodes session all x s (sat t x s p found sits (command_by x asks m) peers' becomes) h was
          one.changes.sound y.room in
          ends t x s p found sits asks peers' becomes stays calls moves g b hubs' Accepted
          (by_hub t x s p found sits asks peers' becomes stays calls moves g None (refuses true false off room))
          (meets t x s p found sits asks peers' becomes stays calls moves g b hubs' m.broker _ _
          (met_ask m.broker.lists m.broker lk.client.fresh lk c since (off_is (lk.session.subs c) off) g.opened)
          (begin_goes t x s p found sits (command_by x asks m) peers' becomes stays b m.broker
          (grown-refl m.broker.lists) t.broker (calls m.broker.lists) (moves m.broker.lists)
          c lk.client.fresh since one.hub h was hubs' one.now one.others y.begins
          (λ lists d. (calls lists).one s.session (begins plain c lk.client.fresh since)
          (begins (spoken lists) c lk.client.fresh since) h one.hub
          ((moves lists).begins c lk.client.fresh since
          (code t x s p found sits asks peers' becomes stays calls moves g)) y.begins.one lk.session d)
          g.opened g.checked))

      refused : (r : Refusal) → refusal_of asks lk m ≡ Some r
          → Told s.session (error_text lk.client.fresh (refusal_code r)) h one.hub → IsCode (code_of (refusal_code r))
          → AreTied cfg table b hubs' peers' (exchange cfg x asks m)
      refused r is told ok =
          errs t x s p found sits asks peers' becomes stays calls moves g b hubs' t.broker r is
          (at_hub was (record { hub = one.hub; now = one.now; changes = told; others = one.others })) ok
          (met_refused m.broker.lists m.broker lk.client.fresh lk asks (code_of (refusal_code r)) quiet)

      twice : AskedTwice s.session c lk.client.fresh h one.hub
          → AreTied cfg table b hubs' peers' (exchange cfg x asks m)
      twice y = refused Already (refuses false (has_no_room lk m) (sym off_here ∙ y.off) refl) y.told
          (omega arith, omega arith)

      too_much : AskedTooMuch s.session c lk.client.fresh h one.hub
          → AreTied cfg table b hubs' peers' (exchange cfg x asks m)
      too_much y =
          let full : has_no_room lk m ≡ true =
          row_full t.nodes session all x s (sat t x s p found sits (command_by x asks m) peers' becomes) h was
          one.changes.sound y.full in
          refused Full (refuses true true (sym off_here ∙ y.off) full) y.told (omega arith, omega arith)

  -- A CLIENT ASKS FOR A CHANNEL
  pub ask_granted : (id : ℕ) → id ≡ lk.client.fresh → (hubs' : ℕ → Option Node)
      → AtHub s.node (Asks s.session c id since) hubs hubs' → AreTied cfg table b hubs' peers' (exchange cfg x asks m)
  ask_granted id is hubs' at =
      let h = there t x s p found sits asks peers' becomes stays calls moves g in
      let one = subst (λ (i : ℕ). OneHub s.node (Asks s.session c i since) hubs hubs' h.0) is (at h.0 h.1) in
      elim (one.changes.one (open_here h.0 h.1)) [
        | inl y ↦ begun h.0 h.1 hubs' one y
        | inr y ↦ elim y [ inl z ↦ twice h.0 h.1 hubs' one z | inr z ↦ too_much h.0 h.1 hubs' one z ]
      ]

-- ---- an unsubscribe

module _ {cfg : Config} {table : NamespaceTable} {b : Code} {hubs : ℕ → Option Node} {peers : List ℕ → Option Peer}
    {m : World}
    (t : AreTied cfg table b hubs peers m) (x : List ℕ) (s : SessionAddress) (p : Peer) (found : peers x ≡ Some p)
    (sits : p.address ≡ Some s)
    (c : List ℕ) (peers' : List ℕ → Option Peer) (becomes : Becomes x p (sent_state (Unsubscribe c) (state_of p.client))
    peers peers')
    (stays : Stays) (calls : (lists : PublicationLists) → CallsAreAlike lists)
    (moves : (lists : PublicationLists) → MovesAreAlike lists) (g : IsGranted cfg m x p (Unsubscribe c)) where
  -- A CLIENT LEAVES A CHANNEL
  pub leave_granted : (id : ℕ) → id ≡ (m.links x).client.fresh → (hubs' : ℕ → Option Node)
      → AtHub s.node (LeftTold s.session c id) hubs hubs'
      → AreTied cfg table b hubs' peers' (exchange cfg x (Unsubscribe c) m)
  leave_granted id is hubs' at =
      let lists : PublicationLists = m.broker.lists in
      let n : ℕ = (m.links x).client.fresh in
      let k : SentCommand = command_by x (Unsubscribe c) m in
      let h = there t x s p found sits (Unsubscribe c) peers' becomes stays calls moves g in
      let one = subst (λ (i : ℕ). OneHub s.node (LeftTold s.session c i) hubs hubs' h.0) is (at h.0 h.1) in
      let left = one.changes.left in
      let told = one.changes.told in
      let text : List ℕ = reply_text n Unsubscribed in
      let v : Session = push (spoken lists) (LeftNote n) (leaves c (m.links x).session) in
      ends t x s p found sits (Unsubscribe c) peers' becomes stays calls moves g b hubs' Accepted
      (by_hub t x s p found sits (Unsubscribe c) peers' becomes stays calls moves g None refl)
      (exchange_goes t x s p found sits k peers' becomes stays b m.broker (grown-refl lists) t.broker h.0 one.hub h.1
      hubs' one.now one.others
      (record {
        node = told.same.node ∙ left.same.node;
        boot = told.same.boot ∙ left.same.boot;
        used = told.same.used ∙ left.same.used;
      }) told.none
      (λ j ne. told.does.others j ne ∙ left.does.others j ne) (met_name told.does ∙ one_name left.does) v
      (m.links x).channels
      (link_goes (address t x s p found sits (Unsubscribe c) peers' becomes stays calls moves g)
      (after k v (m.links x).channels (m.links x)) refl refl
      (address t x s p found sits (Unsubscribe c) peers' becomes stays calls moves g).way refl refl
      (λ d. push (spoken lists) (LeftNote n) (leaves c d))
      (then-leaves c (push (spoken lists) (LeftNote n)) (push_keeps (spoken lists) (LeftNote n))) refl)
      (push-own lists (sent_state (Unsubscribe c) (state_of p.client)) (LeftNote n) (leaves c (m.links x).session) tt
      (own_sent (state_of p.client) (Unsubscribe c) (m.links x).session.notes
      (here t x s p found sits (Unsubscribe c) peers' becomes stays calls moves g).own))
      (λ d. (calls lists).meets s.session (push plain (Text text)) (push (spoken lists) (LeftNote n)) one.changes.mid
      one.hub
      ((moves lists).says (Text text) (LeftNote n) (says_left lists n
      (code t x s p found sits (Unsubscribe c) peers' becomes stays calls moves g))) told.does told.none
      (leaves c (m.links x).session)
      ((calls lists).one s.session (leaves c) (leaves c) h.0 one.changes.mid ((moves lists).leaves c) left.does
      (m.links x).session d)))

-- ---- a publish

-- a publish is refused where the stream is at its last offset, and it is no repeat
unfull : (repeated full : Bool) → full ≡ false → (if not repeated && full then Some AtLastOffset else None) ≡ None
unfull true full h = refl
unfull false full h = ap (λ (t : Bool). if t then Some AtLastOffset else None) h

unrefused : (repeated full : Bool) → repeated ≡ true → (if not repeated && full then Some AtLastOffset else None) ≡ None
unrefused true full h = refl
unrefused false full h = absurd (cc)

refused-full : (repeated full : Bool) → repeated ≡ false → full ≡ true
    → (if not repeated && full then Some AtLastOffset else None) ≡ Some AtLastOffset
refused-full true full h k = absurd (cc)
refused-full false full h k = ap (λ (t : Bool). if t then Some AtLastOffset else None) k

module _ {cfg : Config} {table : NamespaceTable} {b : Code} {hubs : ℕ → Option Node} {peers : List ℕ → Option Peer}
    {m : World}
    (t : AreTied cfg table b hubs peers m) (x : List ℕ) (s : SessionAddress) (p : Peer) (found : peers x ≡ Some p)
    (sits : p.address ≡ Some s)
    (c key body : List ℕ) (peers' : List ℕ → Option Peer)
    (becomes : Becomes x p (sent_state (Publish c key body) (state_of p.client)) peers peers')
    (stays : Stays) (calls : (lists : PublicationLists) → CallsAreAlike lists)
    (moves : (lists : PublicationLists) → MovesAreAlike lists) (g : IsGranted cfg m x p (Publish c key body)) where
  abbrev puts : ClientRequest
  puts = Publish c key body

  abbrev datum : Datum
  datum = record { body = body; info = who_in (session_at hubs s) }

  -- it names the client
  datum_is : datum ≡ datum_by (m.links x) body
  datum_is = ap (λ (w : Option Who). record { body = body; info = w })
      (who_is (session_at hubs s) (m.links x).name (address t x s p found sits puts peers' becomes stays calls moves
      g).name)

  -- and the client has a name
  pub info_regular : IsInfo (who_in (session_at hubs s))
  info_regular =
      subst IsInfo (sym (who_is (session_at hubs s) (m.links x).name
      (address t x s p found sits puts peers' becomes stays calls moves g).name))
      (address t x s p found sits puts peers' becomes stays calls moves g).named

  -- it was carried out, and the client is told
  done : (new : Code) (hubs' : ℕ → Option Node) → refusal_of puts (m.links x) m ≡ None
      → ShowsBroker cfg.namespaces new (publish (size_of cfg c m.broker) c key (datum_by (m.links x) body) m.broker)
      → Answered s (m.links x).client.fresh PublishedOutcome hubs hubs'
      → AreTied cfg table new hubs' peers' (exchange cfg x puts m)
  done new hubs' none shows at =
      let after_it : Broker = publish (size_of cfg c m.broker) c key (datum_by (m.links x) body) m.broker in
      ends t x s p found sits puts peers' becomes stays calls moves g new hubs' Accepted
      (by_hub t x s p found sits puts peers' becomes stays calls moves g None none)
      (answer_goes t x s p found sits (command_by x puts m) peers' becomes stays new after_it
      (grown-publish (size_of cfg c m.broker) c key (datum_by (m.links x) body) m.broker)
      shows (calls after_it.lists) (moves after_it.lists)
      (reply_text (m.links x).client.fresh PublishedOutcome) (PutDone (m.links x).client.fresh)
      (says_put after_it.lists (m.links x).client.fresh
      (code t x s p found sits puts peers' becomes stays calls moves g)) tt hubs' at)

  by_result : (new : Code) (hubs' : ℕ → Option Node) → can_open c m.broker ≡ true → (r : PublishOutcome)
      → Publishes cfg.namespaces m.broker c key datum new r → PutAnsweredAt r s (m.links x).client.fresh hubs hubs'
      → AreTied cfg table new hubs' peers' (exchange cfg x puts m)
  by_result new hubs' can outcome.Accepted y at =
      done new hubs' (unfull (is_repeat c key m.broker) (at_last_offset c m.broker) y.3)
      (subst (λ (d : Datum). ShowsBroker cfg.namespaces new (publish (size_of cfg c m.broker) c key d m.broker))
      datum_is y.4) at
  by_result new hubs' can outcome.Repeated y at =
      done new hubs' (unrefused (is_repeat c key m.broker) (at_last_offset c m.broker) y.2)
      (subst (λ (b : Broker). ShowsBroker cfg.namespaces new b)
      (sym (publish-repeat (size_of cfg c m.broker) c key (datum_by (m.links x) body) m.broker y.2)) y.3) at
  by_result new hubs' can outcome.AtLastOffset y at =
      errs t x s p found sits puts peers' becomes stays calls moves g new hubs' y.3 AtLastOffset
      (refused-full (is_repeat c key m.broker) (at_last_offset c m.broker) y.1 y.2) at (omega arith, omega arith)
      (met_refused m.broker.lists m.broker (m.links x).client.fresh (m.links x) puts (code_of error.LimitExceeded)
      (g.quiet c))
  by_result new hubs' can outcome.NoEpoch y at = absurd (both_ways (can_open c m.broker) y.0 can)
  by_result new hubs' can outcome.NotSetUp y at =
      absurd (both_ways (is_some (settings_of cfg.namespaces c)) (ap is_some y.0)
      (publish-set-up cfg.namespaces c key body g.checked))

  -- A CLIENT PUBLISHES
  pub put_granted : (id : ℕ) → id ≡ (m.links x).client.fresh → can_open c m.broker ≡ true
      → (new : Code) (hubs' : ℕ → Option Node) → PutsAt cfg.namespaces m.broker s c key body id new hubs hubs'
      → AreTied cfg table new hubs' peers' (exchange cfg x puts m)
  put_granted id is can new hubs' y =
      by_result new hubs' can y.result y.publishes (subst (λ (i : ℕ). PutAnsweredAt y.result s i hubs hubs') is
      y.answered)

-- ---- a history

listed-under : (limit : ℤ) (st : StreamState) → (listed_above 0 limit st).low + (listed_above 0 limit st).count ≤ st.top
listed-under limit st = omega arith

low-under : (limit : ℤ) (st : StreamState) → (listed_above 0 limit st).low ≤ st.top
low-under limit st = omega arith

module _ {cfg : Config} {table : NamespaceTable} {b : Code} {hubs : ℕ → Option Node} {peers : List ℕ → Option Peer}
    {m : World}
    (t : AreTied cfg table b hubs peers m) (x : List ℕ) (s : SessionAddress) (p : Peer) (found : peers x ≡ Some p)
    (sits : p.address ≡ Some s)
    (c : List ℕ) (limit : ℤ) (peers' : List ℕ → Option Peer)
    (becomes : Becomes x p (sent_state (ListHistory c limit) (state_of p.client)) peers peers')
    (stays : Stays) (missing : Missing) (calls : (lists : PublicationLists) → CallsAreAlike lists)
    (moves : (lists : PublicationLists) → MovesAreAlike lists) (g : IsGranted cfg m x p (ListHistory c limit)) where
  abbrev lists_it : ClientRequest
  lists_it = ListHistory c limit

  by_found : (new : Code) (hubs' : ℕ → Option Node) → can_open c m.broker ≡ true → (o : Option History)
      → Histories cfg.namespaces m.broker c limit new o → ListAnsweredAt o s (m.links x).client.fresh hubs hubs'
      → AreTied cfg table new hubs' peers' (exchange cfg x lists_it m)
  by_found new hubs' can (Some y) f at =
      let st : StreamState = f.state in
      let broker : Broker = opened c m.broker in
      let same : broker.lists ≡ m.broker.lists = lists-opened c m.broker in
      let list : Listing = listed_above 0 limit st in
      let n : ℕ = (m.links x).client.fresh in
      let stood : IsStanding broker.lists c st = f.shows.standing c st f.stands in
      let items : y.publications.items ≡ placed_from (broker.lists c st.epoch) list.low list.count =
      f.publications ∙ ap (λ (ls : PublicationLists). placed_from (ls c st.epoch) list.low list.count) (sym same) in
      let top : st.top ≡ length (broker.lists c st.epoch) = stood.top in
      let regular : ArePlaced IsBody y.publications.items =
      subst (ArePlaced IsBody) (sym items) (regular-placed (broker.lists c st.epoch) list.low list.count
      (let under = low-under limit st in omega (arith, top, under))
      (let few = f.shows.bounded c st.epoch in omega (arith, few)) (f.shows.regular c st.epoch)) in
      let said : IsSaid broker.lists (reply_text n (Past y.position y.publications.items))
      (Listed c n list.at list.low list.count) =
      subst (λ (q : Position). IsSaid broker.lists (reply_text n (Past q y.publications.items))
      (Listed c n list.at list.low list.count)) (sym f.at)
      (says_listed broker.lists n (code t x s p found sits lists_it peers' becomes stays calls moves g) missing c
      (position_of st) list.low list.count y.publications.items
      (record { epoch = stood.epoch; offset = (let most = stood.within in omega (arith, most)) })
      (listed-under limit st) (omega (arith, top)) items regular) in
      ends t x s p found sits lists_it peers' becomes stays calls moves g new hubs' Accepted
      (by_hub t x s p found sits lists_it peers' becomes stays calls moves g None refl)
      (meets t x s p found sits lists_it peers' becomes stays calls moves g new hubs' broker _ _
      (met_history m.broker.lists broker n (m.links x) c limit st f.stands)
      (answer_goes t x s p found sits (command_by x lists_it m) peers' becomes stays new broker
      (grown-opened c m.broker) f.shows (calls broker.lists) (moves broker.lists)
      (reply_text n (Past y.position y.publications.items)) (Listed c n list.at list.low list.count) said
      (subst (λ (i : ℕ). IsOwn (sent_state lists_it (state_of p.client)) (Listed c i list.at list.low list.count))
      (same_id t x s p found sits lists_it peers' becomes stays calls moves g)
      (own_listed (state_of p.client) lists_it list.at list.low list.count (old_of p.client g.apart)))
      hubs' at))
  by_found new hubs' can None f at = absurd (both_ways (can_open c m.broker) f.none can)

  -- A CLIENT LISTS A CHANNEL'S HISTORY
  pub list_granted : (id : ℕ) → id ≡ (m.links x).client.fresh → can_open c m.broker ≡ true
      → (new : Code) (hubs' : ℕ → Option Node) → ListsAt cfg.namespaces m.broker s c limit id new hubs hubs'
      → AreTied cfg table new hubs' peers' (exchange cfg x lists_it m)
  list_granted id is can new hubs' y =
      by_found new hubs' can y.result y.finds (subst (λ (i : ℕ). ListAnsweredAt y.result s i hubs hubs') is y.answered)
