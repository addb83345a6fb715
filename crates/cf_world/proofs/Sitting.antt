-- One client's session goes on with the machine.
use Rattle.std.proofs.Common.{◌≡◌, ◌≢◌, ℕ, Bool, true, false, Option, Some, None, List, refl, sym, ap, subst}
use Rattle.std.proofs.Common.{if◌then◌else◌, option_and_then}
use Rattle.std.specs.List.{All}
use Rattle.cf_protocol.specs.Note.{Lists}
use Rattle.cf_protocol.specs.Settings.{NamespaceTable}
use Rattle.cf_client.specs.ClientCalls.{State}
use Rattle.cf_client.specs.ClientView.{state_of}
use Rattle.cf_hub.specs.Hub.{Node, OthersStay, SameNode, attached_at}
use Rattle.cf_hub.specs.InNotes.{SaysAt}
use Rattle.cf_machine.specs.ClientLink.{ClientLink, with_session}
use Rattle.cf_machine.specs.Config.{Config}
use Rattle.cf_machine.specs.IntervalMachine.{at_session}
use Rattle.cf_machine.specs.Session.{Session}
use Rattle.cf_machine.specs.World.{World}
use Rattle.cf_world.specs.ClientTie.{IsOwn, ShowsClient, ShowsPeer}
use Rattle.cf_world.specs.NodesTie.{ShowsNodes, name_of, session_in}
use Rattle.cf_world.specs.Tie.{AreTied, addresses_of}
use Rattle.cf_world.specs.declared.broker.WorldBroker.{WorldBroker as Code}
use Rattle.cf_world.specs.declared.clients.Peer.{Peer}
use Rattle.cf_world.specs.declared.clients.SessionAddress.{SessionAddress}
use Rattle.cf_world.proofs.Ends.{Keeps}
use Rattle.cf_machine.proofs.Names.{with-all}
use Rattle.cf_world.proofs.LinksTie.{session_moves}
use Rattle.cf_world.proofs.NodesTie.{nodes_same, address_shows, session_goes}

-- ---- the client of a name

pub address_here : (peers : List ℕ → Option Peer) (x : List ℕ) (p : Peer) → peers x ≡ Some p
    → addresses_of peers x ≡ p.address
address_here peers x p e = ap (option_and_then (λ (q : Peer). q.address)) e

pub address_found : (o : Option Peer) (s : SessionAddress) → option_and_then (λ (q : Peer). q.address) o ≡ Some s
    → (p : Peer)
    × (o ≡ Some p) × (p.address ≡ Some s)
address_found None s e = absurd (cc)
address_found (Some p) s e = (p, refl, e)

there_by : (lists : Lists) (o : Option Node) (k : ℕ) (b : Session) → SaysAt lists (session_in o k) b → (h : Node)
    × (o ≡ Some h)
there_by lists None k b says = absurd says
there_by lists (Some h) k b says = (h, refl)

-- what a session does leaves the notes of its client its own
abbrev pub Owns : (Session → Session) → Type 0
Owns g = (s : State) (b : Session) → All (IsOwn s) b.notes → All (IsOwn s) (g b).notes

module _ {cfg : Config} {table : NamespaceTable} {b : Code} {hubs : ℕ → Option Node} {peers : List ℕ → Option Peer}
    {m : World}
    (t : AreTied cfg table b hubs peers m) where
  -- the hub of an address
  pub hub_there : (x : List ℕ) (s : SessionAddress) → addresses_of peers x ≡ Some s → (h : Node)
      × (hubs s.node ≡ Some h)
  hub_there x s sat = let g = address_shows t.nodes x s sat in
      there_by m.broker.lists (hubs s.node) s.session (m.links x).session g.says

  pub client_here : (x : List ℕ) (p : Peer) → peers x ≡ Some p → ShowsPeer p (m.links x)
  client_here x p e = subst (λ (o : Option Peer). ShowsClient o (m.links x)) e (t.clients x)

  module _ (x : List ℕ) (s : SessionAddress) (sat : addresses_of peers x ≡ Some s) (h h' : Node)
      (was : hubs s.node ≡ Some h)
      (hubs' : ℕ → Option Node) (now : hubs' s.node ≡ Some h') (others : (j : ℕ) → j ≢ s.node → hubs' j ≡ hubs j)
      (same : SameNode h h') (none : h'.refused ≡ 0) (stay : OthersStay s.session h h')
      (name : name_of (attached_at h' s.session) ≡ name_of (attached_at h s.session))
      (g : Session → Session) (keeps : Keeps g) (owns : Owns g)
      (says : (d : Session) → SaysAt m.broker.lists (attached_at h s.session) d
      → SaysAt m.broker.lists (attached_at h' s.session) (g d)) where
    after : ShowsNodes cfg hubs' (addresses_of peers) (at_session x g m)
    after =
        session_goes t.nodes s.node h h' was hubs' now others x s sat refl same none stay name
        (with_session (g (m.links x).session) (m.links x))
        (session_moves (address_shows t.nodes x s sat) g keeps) (λ d. says (m.links x).session d)

    own_by : (o : Option Peer) → peers x ≡ o → ShowsClient o (m.links x)
        → ShowsClient o (with_session (g (m.links x).session) (m.links x))
    own_by None e c = c
    own_by (Some p) e c =
        record { client = c.client; connected = c.connected; own = owns (state_of p.client) (m.links x).session c.own }

    pub session-goes : AreTied cfg table b hubs' peers (at_session x g m)
    session-goes = record {
      namespaces = t.namespaces;
      broker = t.broker;
      nodes = after;
      clients = λ y. with-all (λ z l. ShowsClient (peers z) l) m.links x
          (with_session (g (m.links x).session) (m.links x)) (own_by (peers x) refl (t.clients x)) (λ z ne. t.clients z)
          y;
    }

    -- where nothing is to happen, nothing did
    link-same : g (m.links x).session ≡ (m.links x).session → (y : List ℕ) → m.links y ≡ (at_session x g m).links y
    link-same e y =
        with-all (λ z (l : ClientLink). m.links z ≡ l) m.links x (with_session (g (m.links x).session) (m.links x))
        (sym (ap (λ (d : Session). with_session d (m.links x)) e)) (λ z ne. refl) y

    session-stays : g (m.links x).session ≡ (m.links x).session → AreTied cfg table b hubs' peers m
    session-stays e = record {
      namespaces = t.namespaces;
      broker = t.broker;
      nodes = nodes_same after m (λ n. refl) (λ n. refl) refl refl (link-same e);
      clients = t.clients;
    }

    pub session-may-go : (test : Bool) → (test ≡ false → g (m.links x).session ≡ (m.links x).session)
        → AreTied cfg table b hubs' peers (if test then at_session x g m else m)
    session-may-go true rest = session-goes
    session-may-go false rest = session-stays (rest refl)
