-- The sessions of all clients beside their hubs', where one of them changes.
use Rattle.std.proofs.Common.{◌≡◌, ◌≢◌, ◌∙◌, inl, inr, ℕ, ◌⊎◌, ◌==◌, Bool, true, false, Option, Some, None, List}
use Rattle.std.proofs.Common.{if◌then◌else◌, refl, sym, ap, subst}
use Rattle.std.proofs.lemmas.Bool.Decides.{eqb_tells}
use Rattle.cf_protocol.specs.Names.{with}
use Rattle.cf_protocol.specs.Settings.{NamespaceTable}
use Rattle.cf_hub.specs.Hub.{Node, OthersStay, attached_at}
use Rattle.cf_hub.specs.Session.{Attached}
use Rattle.cf_machine.proofs.Names.{text_tells, with-same, with-other}
use Rattle.cf_world.specs.ClientTie.{LeavesNode, leave_node}
use Rattle.cf_world.specs.HubCalls.{Hubs, Moves}
use Rattle.cf_world.specs.NodesTie.{session_at, session_in}
use Rattle.cf_world.specs.Sending.{PeerMoves}
use Rattle.cf_world.specs.Serving.{AreServed, IsServedAt}
use Rattle.cf_machine.specs.Config.{Config}
use Rattle.cf_machine.specs.World.{World}
use Rattle.cf_world.specs.Tie.{AreTied, addresses_of}
use Rattle.cf_world.specs.declared.broker.WorldBroker.{WorldBroker as Code}
use Rattle.cf_session.specs.declared.session.Session.{Session}
use Rattle.cf_world.specs.declared.clients.Peer.{Peer}
use Rattle.cf_world.specs.declared.clients.SessionAddress.{SessionAddress}
use Rattle.cf_world.proofs.Sitting.{address_here}

some-is : {A : Type 0} {a b : A} → Some a ≡ Some b → a ≡ b
some-is h = cc

-- the session of another address stays where session k of node n alone changes
pub other-address : {n : ℕ} {h g : Node} {hubs hubs' : Hubs} (u : Moves n h g hubs hubs') (k : ℕ) → OthersStay k h g
    → (s : SessionAddress) → (s.node ≡ n → s.session ≡ k → ⊥) → session_at hubs' s ≡ session_at hubs s
other-address {n} {h} {g} {hubs} {hubs'} u k others s ne = elim (eqb_tells s.node n) [
  | inl is ↦ subst (λ (j : ℕ). session_in (hubs' j) s.session ≡ session_in (hubs j) s.session) (sym is.1)
      (ap (λ (o : Option Node). session_in o s.session) u.now ∙ others s.session (ne is.1)
      ∙ sym (ap (λ (o : Option Node). session_in o s.session) u.was))
  | inr is ↦ ap (λ (o : Option Node). session_in o s.session) (u.others s.node is.1)
]

pub session_at-now : (s : SessionAddress) {h g : Node} {hubs hubs' : Hubs} → Moves s.node h g hubs hubs'
    → session_at hubs' s ≡ attached_at g s.session
session_at-now s u = ap (λ (o : Option Node). session_in o s.session) u.now

pub session_at-was : (s : SessionAddress) {h g : Node} {hubs hubs' : Hubs} → Moves s.node h g hubs hubs'
    → session_at hubs s ≡ attached_at h s.session
session_at-was s u = ap (λ (o : Option Node). session_in o s.session) u.was

same-address-of : (a b : SessionAddress) → a.node ≡ b.node → a.session ≡ b.session → a ≡ b
same-address-of a b e f = λ i. record { node = e i; session = f i }

module _ {table : NamespaceTable} {hubs hubs' : Hubs} {peers peers' : List ℕ → Option Peer}
    (served : AreServed table hubs peers)
    (apart : (x y : List ℕ) (s : SessionAddress) → addresses_of peers x ≡ Some s → addresses_of peers y ≡ Some s
    → x ≡ y)
    (x : List ℕ) (s : SessionAddress) {h g : Node} {p q : Peer} (u : Moves s.node h g hubs hubs')
    (others : OthersStay s.session h g)
    (pv : PeerMoves x p q peers peers') (sits : p.address ≡ Some s) (sits' : q.address ≡ Some s)
    (here : IsServedAt table (attached_at g s.session) q.session) where
  -- the session of one client changes with its hub's, and the others stay
  pub served-one : AreServed table hubs' peers'
  served-one y r z found at = elim (text_tells y x) [
    | inl is ↦
        let same : q ≡ r =
        some-is (sym (with-same peers x (Some q)) ∙ ap (with peers x (Some q)) (sym is.1) ∙ sym (pv.now y)
        ∙ found) in
        let place : s ≡ z = some-is (sym sits' ∙ ap (λ (w : Peer). w.address) same ∙ at) in
        subst (λ (w : Peer). IsServedAt table (session_at hubs' z) w.session) same
        (subst (λ (i : SessionAddress). IsServedAt table (session_at hubs' i) q.session) place
        (subst (λ (o : Option Attached). IsServedAt table o q.session) (sym (session_at-now s u)) here))
    | inr is ↦
        let before : peers y ≡ Some r = sym (with-other peers x (Some q) y is.1) ∙ sym (pv.now y) ∙ found in
        let elsewhere : z.node ≡ s.node → z.session ≡ s.session → ⊥ =
        λ e f. is.1 (apart y x s (address_here peers y r before ∙ at ∙ ap Some (same-address-of z s e f))
        (address_here peers x p pv.was ∙ sits)) in
        subst (λ (o : Option Attached). IsServedAt table o r.session)
        (sym (other-address u s.session others z elsewhere))
        (served y r z before at)
  ]

-- ---- what stays stays

pub pair-still : {cfg : Config} {table : NamespaceTable} {b : Code} {hubs hubs' : ℕ → Option Node}
    {peers peers' : List ℕ → Option Peer} {w : World}
    → ((j : ℕ) → hubs' j ≡ hubs j) → ((y : List ℕ) → peers' y ≡ peers y) → AreTied cfg table b hubs peers w
    × AreServed cfg.namespaces hubs peers → AreTied cfg table b hubs' peers' w × AreServed cfg.namespaces hubs' peers'
pair-still {cfg} {table} {b} {hubs} {hubs'} {peers} {peers'} {w} he pe t =
    subst (λ (f : ℕ → Option Node). AreTied cfg table b f peers' w × AreServed cfg.namespaces f peers')
    (λ i j. sym (he j) i)
    (subst (λ (ps : List ℕ → Option Peer). AreTied cfg table b hubs ps w × AreServed cfg.namespaces hubs ps)
    (λ i y. sym (pe y) i) t)

-- a client that is looked at stays
pub peer-still : {peers peers' : List ℕ → Option Peer} {x : List ℕ} {p : Peer} → PeerMoves x p p peers peers'
    → (y : List ℕ) → peers' y ≡ peers y
peer-still {peers} {peers'} {x} {p} pv y = pv.now y ∙ itself
  where
    itself : with peers x (Some p) y ≡ peers y
    itself = elim (text_tells y x) [
      | inl h ↦ rw h.0 (sym pv.was ∙ ap peers (sym h.1))
      | inr h ↦ rw h.0 refl
    ]

-- a client whose address and session stay
pub served-looked : (table : NamespaceTable) (hubs : Hubs) {peers peers' : List ℕ → Option Peer} {x : List ℕ}
    {p q : Peer} → AreServed table hubs peers → PeerMoves x p q peers peers' → q.address ≡ p.address
    → q.session ≡ p.session
    → AreServed table hubs peers'
served-looked table hubs {peers} {peers'} {x} {p} {q} are pv address session y r z found at = elim (text_tells y x) [
  | inl is ↦
      let same : q ≡ r =
      some-is (sym (with-same peers x (Some q)) ∙ ap (with peers x (Some q)) (sym is.1) ∙ sym (pv.now y) ∙ found) in
      subst (λ (w : Peer). IsServedAt table (session_at hubs z) w.session) same
      (subst (λ (v : Session). IsServedAt table (session_at hubs z) v) (sym session)
      (are x p z pv.was (sym address ∙ ap (λ (w : Peer). w.address) same ∙ at)))
  | inr is ↦ are y r z (sym (with-other peers x (Some q) y is.1) ∙ sym (pv.now y) ∙ found) at
]

-- a client whose address is gone, and whose session its hub has no more
pub served-gone : (table : NamespaceTable) {hubs hubs' : Hubs} {peers peers' : List ℕ → Option Peer}
    → AreServed table hubs peers
    → ((x y : List ℕ) (s : SessionAddress) → addresses_of peers x ≡ Some s → addresses_of peers y ≡ Some s → x ≡ y)
    → (x : List ℕ) (s : SessionAddress) {h g : Node} {p : Peer} → Moves s.node h g hubs hubs' → OthersStay s.session h g
    → peers x ≡ Some p → p.address ≡ Some s → (q : Peer) → q.address ≡ None
    → ((y : List ℕ) → peers' y ≡ with peers x (Some q) y) → AreServed table hubs' peers'
served-gone table {peers = peers} are apart x s {p = p} u others was sits q away now y r z found at =
    elim (text_tells y x) [
      | inl is ↦
          let same : q ≡ r =
          some-is (sym (with-same peers x (Some q)) ∙ ap (with peers x (Some q)) (sym is.1) ∙ sym (now y) ∙ found) in
          absurd (cc (sym away ∙ ap (λ (w : Peer). w.address) same ∙ at))
      | inr is ↦
          let before : peers y ≡ Some r = sym (with-other peers x (Some q) y is.1) ∙ sym (now y) ∙ found in
          let elsewhere : z.node ≡ s.node → z.session ≡ s.session → ⊥ =
          λ e f. is.1 (apart y x s (address_here peers y r before ∙ at ∙ ap Some (same-address-of z s e f))
          (address_here peers x p was ∙ sits)) in
          subst (λ (o : Option Attached). IsServedAt table o r.session)
          (sym (other-address u s.session others z elsewhere))
          (are y r z before at)
    ]

-- all clients of a node are gone from it
left-address : (n : ℕ) (o : Option SessionAddress) (z : SessionAddress) → leave_node n o ≡ Some z → (o ≡ Some z)
    × (z.node ≢ n)
left-address n None z e = absurd (cc (e))
left-address n (Some s) z e = by_value (eqb_tells s.node n) e
  where
    by_value : ((s.node == n) ≡ true) × (s.node ≡ n) ⊎ ((s.node == n) ≡ false) × (s.node ≢ n)
        → (if s.node == n then None else Some s) ≡ Some z → (Some s ≡ Some z) × (z.node ≢ n)
    by_value (inl is) f = absurd (cc (sym (ap (λ (b : Bool). if b then None else Some s) is.0) ∙ f))
    by_value (inr ne) f =
        let same : Some s ≡ Some z = sym (ap (λ (b : Bool). if b then None else Some s) ne.0) ∙ f in
        (same, λ k. ne.1 (ap (λ (w : SessionAddress). w.node) (some-is same) ∙ k))

pub served-left : (table : NamespaceTable) (hubs hubs' : Hubs) (peers peers' : List ℕ → Option Peer)
    → AreServed table hubs peers → (n : ℕ) → ((j : ℕ) → j ≢ n → hubs' j ≡ hubs j)
    → ((y : List ℕ) → LeavesNode n (peers y) (peers' y))
    → AreServed table hubs' peers'
served-left table hubs hubs' peers peers' are n others leaves y q z found at =
    by_peer (peers y) refl (subst (λ (o : Option Peer). LeavesNode n (peers y) o) found (leaves y))
  where
    by_peer : (o : Option Peer) → peers y ≡ o → LeavesNode n o (Some q)
        → IsServedAt table (session_at hubs' z) q.session
    by_peer None e l = absurd l
    by_peer (Some p) e l =
        let was = left-address n p.address z (sym l.address ∙ at) in
        subst (λ (o : Option Node). IsServedAt table (session_in o z.session) q.session) (sym (others z.node was.1))
        (subst (λ (v : Session). IsServedAt table (session_at hubs z) v) (sym l.session) (are y p z e was.0))
