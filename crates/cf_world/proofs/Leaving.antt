-- All clients of a node leave it.
use Rattle.std.proofs.Common.{◌≡◌, ℕ, ◌+◌, ◌==◌, Bool, true, false, cond, Option, Some, None, List, [], ◌∷◌, is_some}
use Rattle.std.proofs.Common.{refl, sym, ap, ◌∙◌, subst, if◌then◌else◌, option_and_then}
use Rattle.std.specs.Map.Calls.{RetainsPairs}
use Rattle.std.specs.List.{All}
use Rattle.std.specs.Map.{lookup}
use Rattle.cf_protocol.specs.Settings.{NamespaceTable}
use Rattle.cf_client.specs.ClientCalls.{State, reconnected}
use Rattle.cf_model.specs.Clients.{reconnects}
use Rattle.cf_client.specs.ClientView.{state_of}
use Rattle.cf_hub.specs.Hub.{Node, empty}
use Rattle.cf_machine.specs.ClientLink.{ClientLink, breaks}
use Rattle.cf_machine.specs.Config.{Config}
use Rattle.cf_machine.specs.Event.{Restart}
use Rattle.cf_machine.specs.IntervalMachine.{allows, happens, restarts}
use Rattle.cf_machine.specs.World.{World, on_node}
use Rattle.cf_world.specs.ClientTie.{IsOwn, LeavesAs, LeavesNode, ShowsClient, is_at, leave_node}
use Rattle.cf_world.specs.HubCalls.{AtHub, Renewed}
use Rattle.cf_world.specs.Tie.{AreTied, addresses_of}
use Rattle.cf_world.specs.declared.broker.WorldBroker.{WorldBroker as Code}
use Rattle.cf_world.specs.declared.clients.Peer.{Peer}
use Rattle.cf_world.specs.declared.clients.SessionAddress.{SessionAddress}
use Rattle.cf_world.proofs.Breaking.{none-own}
use Rattle.cf_world.proofs.NodesTie.{away_shows, restart_goes, address_shows}
use Rattle.cf_world.proofs.Served.{rests}

-- each value that is kept is related to what it was
by_test : (n : ℕ) (t : Bool) (v w : Peer) (o p : Option Peer) → LeavesAs n v w → LeavesNode n o p
    → LeavesNode n (cond t (Some v) o) (cond t (Some w) p)
by_test n true v w o p h k = h
by_test n false v w o p h k = k

pub retain_leaves : {F K : Type 0} (T : F → K → Peer → Bool → Peer → F → Type 0) (n : ℕ) (f : F)
    → ((k : K) (v : Peer) (b : Bool) (w : Peer) (f' : F) → T f k v b w f' → (b ≡ true) × LeavesAs n v w × (f' ≡ f))
    → (es kept : List (K × Peer)) → RetainsPairs T f es kept → (p : K → Bool)
    → LeavesNode n (lookup p es) (lookup p kept)
retain_leaves T n f each [] kept h p = subst (λ (ks : List _). LeavesNode n None (lookup p ks)) (sym h) tt
retain_leaves {K = K} T n f each (e ∷ es) kept h p =
    let one = each e.0 e.1 h.0 h.1 h.2 h.4 in
    let rest = retain_leaves T n f each es h.3 (subst (λ x. RetainsPairs T x es h.3) one.2 h.5) p in
    let is : kept ≡ (e.0, h.1) ∷ h.3 =
    h.6 ∙ ap (λ (b : Bool). cond {A = List (K × Peer)} b ((e.0, h.1) ∷ h.3) h.3) one.0 in
    subst (λ (ks : List (K × Peer)). LeavesNode n (lookup p (e ∷ es)) (lookup p ks)) (sym is)
    (by_test n (p e.0) e.1 h.1 (lookup p es) (lookup p h.3) one.1 rest)

pub there : (o : Option Node) → is_some o ≡ true → (h : Node) × (o ≡ Some h)
there None h = absurd (cc)
there (Some h) e = (h, refl)

address_left : (n : ℕ) (o p : Option Peer) → LeavesNode n o p
    → option_and_then (λ (q : Peer). q.address) p ≡ leave_node n (option_and_then (λ (q : Peer). q.address) o)
address_left n None None h = refl
address_left n None (Some q) h = absurd h
address_left n (Some p) None h = absurd h
address_left n (Some p) (Some q) h = h.address

module _ {cfg : Config} {table : NamespaceTable} {b : Code} {hubs : ℕ → Option Node} {peers : List ℕ → Option Peer}
    {m : World}
    (t : AreTied cfg table b hubs peers m) (n : ℕ) where
  pub restart-nowhere : hubs n ≡ None → AreTied cfg table b hubs peers (happens cfg m (Restart n))
  restart-nowhere none = rests t (Restart n) (sym (t.nodes.nodes n) ∙ ap is_some none)

  left : (l : ClientLink) (p q : Peer) (s : Option SessionAddress) → p.address ≡ s → on_node n l.node ≡ is_at n s
      → LeavesAs n p q → ShowsClient (Some p) l → ShowsClient (Some q) (if on_node n l.node then breaks l else l)
  left l p q None e at h c =
      subst (λ (z : Bool). ShowsClient (Some q) (if z then breaks l else l)) (sym at)
      (let same : state_of q.client ≡ state_of p.client = h.state
      ∙ ap (λ (z : Option SessionAddress). if is_at n z then reconnected (state_of p.client) else state_of p.client)
      e in
      record {
        client = ap (λ (st : State). st.client) same ∙ c.client;
        connected = ap (λ (st : State). st.connected) same ∙ c.connected ∙ ap is_some e
            ∙ sym (ap is_some (h.address ∙ ap (leave_node n) e));
        own = subst (λ (st : State). All (IsOwn st) l.session.notes) (sym same) c.own;
      })
  left l p q (Some s) e at h c = by_value (s.node == n) refl
    where
      by_value : (z : Bool) → (s.node == n) ≡ z → ShowsClient (Some q) (if on_node n l.node then breaks l else l)
      by_value true f =
          let gone : state_of q.client ≡ reconnected (state_of p.client) =
          h.state ∙ ap (λ (z : Option SessionAddress). if is_at n z then reconnected (state_of p.client)
          else state_of p.client) e ∙ ap (λ (z : Bool). if z then reconnected (state_of p.client)
          else state_of p.client) f in
          let free : q.address ≡ None =
          h.address ∙ ap (leave_node n) e ∙ ap (λ (z : Bool). if z then None else Some s) f in
          subst (λ (z : Bool). ShowsClient (Some q) (if z then breaks l else l)) (sym (at ∙ f))
          (record {
            client = ap (λ (st : State). st.client) gone ∙ ap reconnects c.client;
            connected = ap (λ (st : State). st.connected) gone ∙ sym (ap is_some free);
            own = none-own (state_of q.client);
          })
      by_value false f =
          let same : state_of q.client ≡ state_of p.client =
          h.state ∙ ap (λ (z : Option SessionAddress). if is_at n z then reconnected (state_of p.client)
          else state_of p.client) e ∙ ap (λ (z : Bool). if z then reconnected (state_of p.client)
          else state_of p.client) f in
          let stays : q.address ≡ Some s =
          h.address ∙ ap (leave_node n) e ∙ ap (λ (z : Bool). if z then None else Some s) f in
          subst (λ (z : Bool). ShowsClient (Some q) (if z then breaks l else l)) (sym (at ∙ f))
          (record {
            client = ap (λ (st : State). st.client) same ∙ c.client;
            connected = ap (λ (st : State). st.connected) same ∙ c.connected ∙ ap is_some e ∙ sym (ap is_some stays);
            own = subst (λ (st : State). All (IsOwn st) l.session.notes) (sym same) c.own;
          })

  -- where a client sits is where its link is
  sits : (x : List ℕ) (s : Option SessionAddress) → addresses_of peers x ≡ s → on_node n (m.links x).node ≡ is_at n s
  sits x None e = ap (on_node n) (away_shows t.nodes x e).node
  sits x (Some s) e = ap (on_node n) (address_shows t.nodes x s e).at

  client_left : (x : List ℕ) (o p : Option Peer) → peers x ≡ o → LeavesNode n o p → ShowsClient o (m.links x)
      → ShowsClient p (if on_node n (m.links x).node then breaks (m.links x) else m.links x)
  client_left x None None e h c =
      subst (λ (z : Bool). ShowsClient None (if z then breaks (m.links x) else m.links x))
      (sym (sits x None (ap (option_and_then (λ (q : Peer). q.address)) e))) c
  client_left x None (Some q) e h c = absurd h
  client_left x (Some p) None e h c = absurd h
  client_left x (Some p) (Some q) e h c =
      left (m.links x) p q p.address refl (sits x p.address (ap (option_and_then (λ (q : Peer). q.address)) e)) h c

  pub restart-goes : (h : Node) → hubs n ≡ Some h → (hubs' : ℕ → Option Node) → AtHub n (Renewed n) hubs hubs'
      → (peers' : List ℕ → Option Peer)
      → ((y : List ℕ) → LeavesNode n (peers y) (peers' y))
      → AreTied cfg table b hubs' peers' (happens cfg m (Restart n))
  restart-goes h was hubs' at peers' leaves =
      let one = at h was in
      let old = t.nodes.hub n h was in
      let fresh = one.changes ∙ ap (λ (k : ℕ). empty n (k + 1)) old.boot in
      let yes' : allows cfg m (Restart n) ≡ true = sym (t.nodes.nodes n) ∙ ap is_some was in
      let gone : AreTied cfg table b hubs' peers' (restarts n m) = record {
        namespaces = t.namespaces;
        broker = t.broker;
        nodes = restart_goes t.nodes n h one.hub was hubs' one.now one.others fresh (addresses_of peers')
            (λ y. address_left n (peers y) (peers' y) (leaves y));
        clients = λ y. client_left y (peers y) (peers' y) refl (leaves y) (t.clients y);
      } in
      rw yes' gone
