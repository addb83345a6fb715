-- What a node serves goes on with the machine.
use Rattle.std.proofs.Common.{◌≡◌, inl, inr, ℕ, Bool, true, false, Option, Some, None, List, is_some, refl, sym, ap}
use Rattle.std.proofs.Common.{◌∙◌, subst, if◌then◌else◌}
use Rattle.std.proofs.lemmas.Bool.Decides.{eqb_tells}
use Rattle.std.specs.String.{string_bytes}
use Rattle.cf_protocol.specs.Datum.{Placed}
use Rattle.cf_protocol.specs.Note.{placed_at}
use Rattle.cf_protocol.specs.Position.{Position}
use Rattle.cf_protocol.specs.Settings.{NamespaceTable}
use Rattle.cf_hub.specs.AlikeMoves.{CallsAreAlike, MovesAreAlike}
use Rattle.cf_hub.specs.Hub.{Node, attached_at}
use Rattle.cf_hub.specs.InNotes.{IsListed}
use Rattle.cf_model.specs.Sessions.{checks, comes, finishes, is_ready}
use Rattle.cf_model.specs.Sessions.{spoken}
use Rattle.cf_hub.specs.Wordings.{at_offset, plain}
use Rattle.cf_machine.specs.ClientLink.{ClientLink, with_session}
use Rattle.cf_machine.specs.Config.{Config}
use Rattle.cf_machine.specs.Event.{Event, Check, Deliver, Finish}
use Rattle.cf_machine.specs.IntervalMachine.{allows, at_session, delivered, happens, is_on}
use Rattle.cf_machine.specs.PublicationList.{Place, publication, stands_at}
use Rattle.cf_machine.specs.Session.{Session}
use Rattle.cf_machine.specs.World.{World, on_node}
use Rattle.cf_world.specs.BrokerTie.{Stands}
use Rattle.cf_world.specs.ClientTie.{ShowsClient}
use Rattle.cf_world.specs.HubCalls.{AtHub, Checked, Delivered, Finished}
use Rattle.cf_world.specs.NodesTie.{IsAway, ShowsNodes}
use Rattle.cf_world.specs.Tie.{AreTied, addresses_of}
use Rattle.cf_world.specs.declared.broker.AcceptedPublication.{AcceptedPublication}
use Rattle.cf_world.specs.declared.broker.WorldBroker.{WorldBroker as Code}
use Rattle.cf_world.specs.declared.clients.Peer.{Peer}
use Rattle.cf_world.specs.declared.clients.SessionAddress.{SessionAddress}
use Rattle.cf_client.specs.ClientView.{state_of}
use Rattle.cf_world.proofs.Ends.{checks_keeps, finishes_keeps}
use Rattle.cf_world.proofs.LinksTie.{both_name, met_name}
use Rattle.cf_world.proofs.NodesTie.{away_shows, deliver_goes, nodes_same, address_shows}
use Rattle.cf_world.proofs.Owned.{check-rest, checks-own, comes-own, finish-rest, finishes-own}
use Rattle.cf_world.proofs.Sitting.{hub_there, session-may-go}

module _ {cfg : Config} {table : NamespaceTable} {b : Code} {hubs : ℕ → Option Node} {peers : List ℕ → Option Peer}
    {m : World}
    (t : AreTied cfg table b hubs peers m) where
  -- where an event is not allowed nothing happens
  pub rests : (e : Event) → allows cfg m e ≡ false → AreTied cfg table b hubs peers (happens cfg m e)
  rests e no' = rw no' t

  pub opens-away : (x : List ℕ) → addresses_of peers x ≡ None → IsAway (m.links x)
  opens-away x none = away_shows t.nodes x none

  pub finish-away : (x c : List ℕ) → addresses_of peers x ≡ None
      → AreTied cfg table b hubs peers (happens cfg m (Finish x c))
  finish-away x c none = rests (Finish x c) (ap (λ (d : Session). is_ready (d.subs c)) (opens-away x none).session)

  pub check-away : (x c : List ℕ) → addresses_of peers x ≡ None
      → AreTied cfg table b hubs peers (happens cfg m (Check x c))
  check-away x c none = rests (Check x c) (ap (λ (d : Session). is_on (d.subs c)) (opens-away x none).session)

  pub finish-goes : CallsAreAlike m.broker.lists → (x c : List ℕ) (s : SessionAddress) → addresses_of peers x ≡ Some s
      → (hubs' : ℕ → Option Node)
      → AtHub s.node (Finished s.session c) hubs hubs' → AreTied cfg table b hubs' peers (happens cfg m (Finish x c))
  finish-goes calls x c s sat hubs' at =
      let there = hub_there t x s sat in
      let one = at there.0 there.1 in
      let met = one.changes.does in
      session-may-go t x s sat there.0 one.hub there.1 hubs' one.now one.others one.changes.same one.changes.none
      met.others (met_name met)
      (finishes (spoken m.broker.lists) c) (finishes_keeps (spoken m.broker.lists) c) (finishes-own m.broker.lists c)
      (λ d. calls.finishes s.session c there.0 one.hub met one.changes.none d)
      (is_ready ((m.links x).session.subs c)) (λ no'. finish-rest m.broker.lists c ((m.links x).session.subs c)
      (m.links x).session no')

  pub check-goes : CallsAreAlike m.broker.lists → MovesAreAlike m.broker.lists → (x c : List ℕ) (top : Option Position)
      → top ≡ stands_at (m.broker.streams c) → (s : SessionAddress) → addresses_of peers x ≡ Some s
      → (hubs' : ℕ → Option Node)
      → AtHub s.node (Checked s.session c top) hubs hubs' → AreTied cfg table b hubs' peers (happens cfg m (Check x c))
  check-goes calls moves x c top is s sat hubs' at =
      let there = hub_there t x s sat in
      let one = at there.0 there.1 in
      let met = one.changes.does in
      subst (λ (o : Option Position). AreTied cfg table b hubs' peers
      (if is_on ((m.links x).session.subs c) then at_session x (checks (spoken m.broker.lists) c o) m else m)) is
      (session-may-go t x s sat there.0 one.hub there.1 hubs' one.now one.others one.changes.same one.changes.none
      met.others (met_name met)
      (checks (spoken m.broker.lists) c top) (checks_keeps (spoken m.broker.lists) c top)
      (checks-own m.broker.lists c top)
      (λ d. calls.meets s.session (checks plain c top) (checks (spoken m.broker.lists) c top) there.0 one.hub
      (moves.checks c top) met one.changes.none d)
      (is_on ((m.links x).session.subs c)) (λ no'. check-rest m.broker.lists c top ((m.links x).session.subs c)
      (m.links x).session no'))

  -- ---- a delivery

  abbrev came : (c : List ℕ) (q : Position) → ClientLink → ClientLink
  came c q l = with_session (comes (spoken m.broker.lists) c q l.session) l

  own_came : (c : List ℕ) (q : Position) (o : Option Peer) (l : ClientLink) (test : Bool) → ShowsClient o l
      → ShowsClient o (if test then came c q l else l)
  own_came c q None l true h = h
  own_came c q None l false h = h
  own_came c q (Some p) l true h =
      record {
        client = h.client;
        connected = h.connected;
        own = comes-own m.broker.lists c q (state_of p.client) l.session h.own;
      }
  own_came c q (Some p) l false h = h

  with-deliveries : (n : ℕ) (c : List ℕ) (q : Position) (hubs' : ℕ → Option Node)
      → ShowsNodes cfg hubs' (addresses_of peers) (record m
      { links = λ x. if on_node n (m.links x).node then came c q (m.links x) else m.links x })
      → AreTied cfg table b hubs' peers (record m {
        links = λ x. if on_node n (m.links x).node then came c q (m.links x)
            else m.links x;
      })
  with-deliveries n c q hubs' nodes = record {
    namespaces = t.namespaces;
    broker = t.broker;
    nodes = nodes;
    clients = λ x. own_came c q (peers x) (m.links x) (on_node n (m.links x).node) (t.clients x);
  }

  -- nobody is at a node that isn't there
  nobody-at : (n : ℕ) → hubs n ≡ None → (x : List ℕ) → on_node n (m.links x).node ≡ false
  nobody-at n none x = by_address (addresses_of peers x) refl
    where
      by_address : (o : Option SessionAddress) → addresses_of peers x ≡ o → on_node n (m.links x).node ≡ false
      by_address None e = ap (on_node n) (away_shows t.nodes x e).node
      by_address (Some s) e = elim (eqb_tells s.node n) [
        | inl is ↦ let there = hub_there t x s e in
            absurd (let no' : None ≡ Some there.0 = sym none ∙ ap hubs (sym is.1) ∙ there.1 in cc)
        | inr is ↦ ap (on_node n) (address_shows t.nodes x s e).at ∙ is.0
      ]

  deliver-at : CallsAreAlike m.broker.lists → (n : ℕ) (c e : List ℕ) (p : Placed) → IsListed m.broker.lists c e p
      → (o : Option Node) → hubs n ≡ o → (hubs' : ℕ → Option Node)
      → AtHub n (Delivered c e p) hubs hubs' → (hubs n ≡ None → (j : ℕ) → hubs' j ≡ hubs j)
      → AreTied cfg table b hubs' peers (record m {
        links = λ x. if on_node n (m.links x).node then came c
            (at_offset e p) (m.links x) else m.links x;
      })
  deliver-at calls n c e p listed (Some h) was hubs' at same =
      let one = at h was in
      let met = one.changes.does in
      with-deliveries n c (at_offset e p) hubs'
      (deliver_goes t.nodes n h one.hub was hubs' one.now one.others one.changes.same one.changes.none
      (λ k. both_name _ (attached_at h k) (attached_at one.hub k) (met.each k)) calls c e p listed met)
  deliver-at calls n c e p listed None was hubs' at same =
      let m2 : World =
      record m {
        links = λ x. if on_node n (m.links x).node then came c (at_offset e p) (m.links x)
            else m.links x;
      } in
      let nodes : ShowsNodes cfg hubs (addresses_of peers) m2 =
      nodes_same t.nodes m2 (λ j. refl) (λ j. refl) refl refl
      (λ x. ap (λ (b : Bool). if b then came c (at_offset e p) (m.links x) else m.links x) (nobody-at n was x)) in
      with-deliveries n c (at_offset e p) hubs'
      (subst (λ (f : ℕ → Option Node). ShowsNodes cfg f (addresses_of peers) m2) (λ i j. sym (same was j) i) nodes)

  deliver-by : CallsAreAlike m.broker.lists → (n : ℕ) (a : Option AcceptedPublication) (p : Option Place)
      → Stands m.broker.lists a p → (hubs' : ℕ → Option Node)
      → ((z : AcceptedPublication) → a ≡ Some z → AtHub n (Delivered (string_bytes z.channel) z.epoch z.publication)
      hubs hubs')
      → (hubs n ≡ None → (j : ℕ) → hubs' j ≡ hubs j) → (a ≡ None → (j : ℕ) → hubs' j ≡ hubs j)
      → AreTied cfg table b hubs' peers (if is_some p then delivered n p m else m)
  deliver-by calls n None None h hubs' at same none =
      record {
        namespaces = t.namespaces;
        broker = t.broker;
        nodes = subst (λ (f : ℕ → Option Node). ShowsNodes cfg f (addresses_of peers) m) (λ i j. sym (none refl j) i)
            t.nodes;
        clients = t.clients;
      }
  deliver-by calls n None (Some p) h hubs' at same none = absurd h
  deliver-by calls n (Some a) None h hubs' at same none = absurd h
  deliver-by calls n (Some a) (Some p) h hubs' at same none =
      let place : record {
        channel = string_bytes a.channel;
        at = record { epoch = a.epoch; offset = a.publication.offset };
      } ≡ p = sym h.place in
      let listed : IsListed m.broker.lists (string_bytes a.channel) a.epoch a.publication =
      subst (λ (z : Place). IsListed m.broker.lists z.channel z.at.epoch a.publication) h.place (record {
        stands = λ later g. subst (λ (z : Place). placed_at (later p.channel p.at.epoch) z.at.offset
            ≡ Some a.publication) h.place (h.stands later g);
        regular = h.regular;
      }) in
      subst (λ (z : Place). AreTied cfg table b hubs' peers (delivered n (Some z) m)) place
      (deliver-at calls n (string_bytes a.channel) a.epoch a.publication listed (hubs n) refl hubs' (at a refl) same)

  pub deliver-goes : CallsAreAlike m.broker.lists → (n i : ℕ) (a : Option AcceptedPublication)
      → Stands m.broker.lists a (publication i m.broker) → (hubs' : ℕ → Option Node)
      → ((z : AcceptedPublication) → a ≡ Some z → AtHub n (Delivered (string_bytes z.channel) z.epoch z.publication)
      hubs hubs')
      → (hubs n ≡ None → (j : ℕ) → hubs' j ≡ hubs j) → (a ≡ None → (j : ℕ) → hubs' j ≡ hubs j)
      → AreTied cfg table b hubs' peers (happens cfg m (Deliver n i))
  deliver-goes calls n i a h hubs' at same none = deliver-by calls n a (publication i m.broker) h hubs' at same none
