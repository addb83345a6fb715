-- A read at the stream and at the session goes on with the machine.
use Rattle.std.proofs.Common.{◌≡◌, ℕ, ◌&&◌, Bool, true, false, Option, Some, None, List, [], ◌∷◌, IsSome, length, refl}
use Rattle.std.proofs.Common.{sym, ap, ◌∙◌, subst}
use Rattle.cf_protocol.specs.Note.{Lists, Reading}
use Rattle.cf_protocol.specs.Position.{Position}
use Rattle.cf_protocol.specs.Settings.{NamespaceTable, settings_of}
use Rattle.cf_model.specs.Streams.{StreamState}
use Rattle.cf_model.specs.Streams.{read_of}
use Rattle.cf_stream.specs.declared.answer.Recovery.{Recovery}
use Rattle.cf_hub.specs.AlikeMoves.{AreAlike, CallsAreAlike, MovesAreAlike}
use Rattle.cf_hub.specs.Asking.{asked_of}
use Rattle.cf_hub.specs.Hub.{Node, attached_at, sub_at}
use Rattle.cf_hub.specs.InNotes.{AreMissed, SaysAt}
use Rattle.cf_hub.specs.Session.{Attached}
use Rattle.cf_model.specs.Sessions.{Off, Asked, Ready, On, is_asked, is_off, reads}
use Rattle.cf_model.specs.Sessions.{spoken}
use Rattle.cf_hub.specs.Subscriptions.{reading_of}
use Rattle.cf_hub.specs.Wordings.{reading}
use Rattle.cf_hub.specs.declared.asking.UnreadSubscription.{UnreadSubscription as Answer}
use Rattle.cf_machine.specs.Config.{Config}
use Rattle.cf_machine.specs.Event.{Read}
use Rattle.cf_machine.specs.IntervalMachine.{allows, at_session, happens, read_at, read_found}
use Rattle.cf_machine.specs.PublicationList.{Broker, can_open, open_at, opened, stands_or_opens}
use Rattle.cf_machine.specs.Session.{Session, Sub}
use Rattle.cf_machine.specs.World.{World, broker_with}
use Rattle.cf_machine.proofs.Brokering.{lists-opened}
use Rattle.cf_world.specs.BrokerTie.{Finds, FindsNone}
use Rattle.cf_world.specs.HubCalls.{AtHub, WasRead}
use Rattle.cf_world.specs.NodesTie.{session_at, session_in}
use Rattle.cf_world.specs.Tie.{AreTied, addresses_of}
use Rattle.cf_world.specs.declared.broker.WorldBroker.{WorldBroker as Code}
use Rattle.cf_world.specs.declared.clients.Peer.{Peer}
use Rattle.cf_world.specs.declared.clients.SessionAddress.{SessionAddress}
use Rattle.cf_world.proofs.Ends.{reads_keeps}
use Rattle.cf_world.proofs.Going.{Stays, broker-goes, broker-stays, grown-opened}
use Rattle.cf_world.proofs.Looking.{asks_at}
use Rattle.cf_world.proofs.LinksTie.{one_name}
use Rattle.cf_world.proofs.NodesTie.{address_shows}
use Rattle.cf_world.proofs.Owned.{reads-own}
use Rattle.cf_world.proofs.Reading.{Missing, are-missed, reading-is}
use Rattle.cf_world.proofs.Passing.{set-up}
use Rattle.cf_world.proofs.Served.{opens-away, rests}
use Rattle.cf_world.proofs.Sitting.{hub_there, session-goes}

can_by : (c : List ℕ) (b : Broker) (st : StreamState) (o : Option StreamState) (es : List (List ℕ)) → b.streams c ≡ o
    → (open_at c o es b).streams c ≡ Some st → stands_or_opens o es ≡ true
can_by c b st (Some s) es e h = refl
can_by c b st None [] e h = absurd (cc)
can_by c b st None (i ∷ es) e h = refl

pub can-open : (c : List ℕ) (b : Broker) (st : StreamState) → (opened c b).streams c ≡ Some st → can_open c b ≡ true
can-open c b st h = can_by c b st (b.streams c) b.waiting refl h

record AskedSo (since : Option Position) (u : Sub) : Type 0 where
  id : ℕ
  arrived : List Position
  is : u ≡ Asked id since arrived

abbrev since_in : Option Answer → Option Position
since_in None = None
since_in (Some a) = a.since

asked-is : (u : Sub) (since : Option Position) → asked_of u ≡ Some (record { since = since }) → AskedSo since u
asked-is Off since e = absurd (cc)
asked-is (Asked id s a) since e = let same : s ≡ since = ap since_in e in
    record { id = id; arrived = a; is = ap (λ (z : Option Position). Asked id z a) same }
asked-is (Ready id was r a) since e = absurd (cc)
asked-is (On p behind_at) since e = absurd (cc)

not-asked : (u : Sub) → None ≡ asked_of u → is_asked u ≡ false
not-asked Off e = refl
not-asked (Asked id s a) e = absurd (cc)
not-asked (Ready id was r a) e = refl
not-asked (On p behind_at) e = refl

module _ {cfg : Config} {table : NamespaceTable} {b : Code} {hubs : ℕ → Option Node} {peers : List ℕ → Option Peer}
    {m : World}
    (t : AreTied cfg table b hubs peers m) (x c : List ℕ) where
  pub read-away : addresses_of peers x ≡ None → AreTied cfg table b hubs peers (happens cfg m (Read x c))
  read-away none =
      rests t (Read x c) (ap (λ (d : Session). is_asked (d.subs c) && can_open c m.broker)
      (opens-away t x none).session)

  module _ (s : SessionAddress) (sat : addresses_of peers x ≡ Some s) (o : Option Answer)
      (asks : (h : Node) → hubs s.node ≡ Some h → o ≡ asked_of (sub_at h s.session c)) where
    -- what the hub answers is so of the machine's session
    answer-is : o ≡ asked_of ((m.links x).session.subs c)
    answer-is =
        let there = hub_there t x s sat in
        let g = address_shows t.nodes x s sat in
        let here : session_at hubs s ≡ attached_at there.0 s.session =
        ap (λ (z : Option Node). session_in z s.session) there.1 in
        asks there.0 there.1
        ∙ asks_at m.broker.lists (attached_at there.0 s.session) (m.links x).session
        (subst (λ (z : Option Attached). SaysAt m.broker.lists z (m.links x).session) here g.says) c

    pub read-unasked : o ≡ None → AreTied cfg table b hubs peers (happens cfg m (Read x c))
    read-unasked none =
        rests t (Read x c) (ap (λ (z : Bool). z && can_open c m.broker)
        (not-asked ((m.links x).session.subs c) (sym none ∙ answer-is)))

    module _ (since : Option Position) (is : o ≡ Some (record { since = since })) where
      asked : AskedSo since ((m.links x).session.subs c)
      asked = asked-is ((m.links x).session.subs c) since (sym answer-is ∙ is)

      -- its channel is set up
      pub read-set-up : IsSome (settings_of cfg.namespaces c)
      read-set-up = set-up cfg.namespaces c ((address_shows t.nodes x s sat).served c (ap is_off asked.is))

      both-false : (p q : Bool) → q ≡ false → (p && q) ≡ false
      both-false true q e = e
      both-false false q e = refl

      pub read-unopened : (new : Code) → FindsNone cfg.namespaces m.broker c new
          → AreTied cfg table new hubs peers (happens cfg m (Read x c))
      read-unopened new f =
          rests (broker-stays t new f.shows) (Read x c)
          (both-false (is_asked ((m.links x).session.subs c)) (can_open c m.broker) f.none)

      pub read-goes : Stays → Missing → ((lists : Lists) → CallsAreAlike lists)
          → ((lists : Lists) → MovesAreAlike lists) → (new : Code) (r : Recovery)
          → Finds cfg.namespaces m.broker c since new r → (hubs' : ℕ → Option Node)
          → AtHub s.node (WasRead s.session c r) hubs hubs'
          → AreTied cfg table new hubs' peers (happens cfg m (Read x c))
      read-goes stays missing calls moves new r f hubs' at =
          let lists : Lists = (opened c m.broker).lists in
          let st : StreamState = f.state in
          let w : World = broker_with (opened c m.broker) m in
          let t1 : AreTied cfg table new hubs peers w =
          broker-goes t new stays (opened c m.broker) (grown-opened c m.broker) f.shows in
          let there = hub_there t1 x s sat in
          let one = at there.0 there.1 in
          let old = t1.nodes.hub s.node there.0 there.1 in
          let found : Reading = read_of since st in
          let missed : AreMissed lists c found r.publications.items =
          subst (λ (l : Lists). AreMissed l c found r.publications.items) (sym (lists-opened c m.broker))
          (are-missed missing cfg.namespaces m.broker new c since r f (lists-opened c m.broker)) in
          let same : reading_of r ≡ found =
          reading-is m.broker.lists c since st r f.brings
          (subst (λ (l : Lists). st.top ≡ length (l c st.epoch)) (lists-opened c m.broker)
          (f.shows.standing c st f.stands).top) in
          let alike : AreAlike lists (reads (reading r.publications.items) c (reading_of r))
          (reads (spoken lists) c found) =
          subst (λ (z : Reading). AreAlike lists (reads (reading r.publications.items) c z)
          (reads (spoken lists) c found)) (sym same) ((moves lists).reads c found r.publications.items missed) in
          let gone : AreTied cfg table new hubs' peers (at_session x (reads (spoken lists) c found) w) =
          session-goes t1 x s sat there.0 one.hub there.1 hubs' one.now one.others
          (record { node = one.changes.same.node; boot = one.changes.same.boot; used = one.changes.same.used })
          (one.changes.same.refused ∙ old.refused)
          one.changes.does.others (one_name one.changes.does) (reads (spoken lists) c found)
          (reads_keeps (spoken lists) c found) (reads-own lists c found)
          (λ d. (calls lists).one s.session (reads (reading r.publications.items) c (reading_of r))
          (reads (spoken lists) c found) there.0 one.hub alike one.changes.does d) in
          let stood : AreTied cfg table new hubs' peers (read_found x c since ((opened c m.broker).streams c) w) =
          subst (λ (z : Option StreamState). AreTied cfg table new hubs' peers (read_found x c since z w))
          (sym f.stands) gone in
          let effect : AreTied cfg table new hubs' peers (read_at x c ((m.links x).session.subs c) m) =
          subst (λ (u : Sub). AreTied cfg table new hubs' peers (read_at x c u m)) (sym asked.is) stood in
          let yes' : allows cfg m (Read x c) ≡ true =
          subst (λ (u : Sub). (is_asked u && can_open c m.broker) ≡ true) (sym asked.is)
          (can-open c m.broker st f.stands) in
          rw yes' effect
