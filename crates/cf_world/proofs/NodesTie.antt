-- What a node and its clients' sessions do goes on beside the machine.
use Rattle.std.proofs.Common.{◌≡◌, ◌≢◌, inl, inr, ℕ, ◌+◌, ◌≤◌, ◌==◌, nat_lt, Bool, true, false, if◌then◌else◌}
use Rattle.std.proofs.Common.{is_some, Option, Some, None, List}
use Rattle.std.proofs.Common.{arith, refl, sym, ap, ◌∙◌, subst}
use Rattle.std.proofs.lemmas.Bool.{eq-eqb, ne_eqb}
use Rattle.std.proofs.lemmas.Bool.Decides.{eqb_tells}
use Rattle.std.proofs.lemmas.Option.{none-some, same_Some}
use Rattle.cf_protocol.specs.Datum.{Placed}
use Rattle.cf_protocol.specs.Names.{with, is_among, and_also}
use Rattle.cf_protocol.specs.Note.{Lists}
use Rattle.cf_subscribers.specs.Follows.{AreFollows}
use Rattle.cf_hub.specs.AlikeMoves.{CallsAreAlike, Texts}
use Rattle.cf_hub.specs.Hub.{Delivers, IsBounded, Node, Opens, OthersStay, SameNode, SameRest}
use Rattle.cf_hub.specs.Hub.{attached_at, client_id, empty}
use Rattle.cf_model.specs.Streams.{largest}
use Rattle.cf_hub.specs.InNotes.{Grown, IsListed, SaysAt, SaysSession}
use Rattle.cf_hub.specs.Rows.{Agrees, sub_in}
use Rattle.cf_hub.specs.Session.{Attached}
use Rattle.cf_model.specs.Sessions.{comes, is_off}
use Rattle.cf_model.specs.Sessions.{spoken}
use Rattle.cf_hub.specs.Wordings.{at_offset}
use Rattle.cf_machine.specs.ClientLink.{ClientLink, breaks, with_session}
use Rattle.cf_machine.specs.Config.{Config}
use Rattle.cf_machine.specs.FreshEpochs.{AreDistinct}
use Rattle.cf_machine.specs.IntervalMachine.{client_id as machine_id, connects, restarts}
use Rattle.cf_machine.specs.PublicationList.{Broker}
use Rattle.cf_machine.specs.Session.{Session}
use Rattle.cf_machine.specs.World.{World, broker_with, link_with, on_node, with_at}
use Rattle.cf_world.specs.ClientTie.{leave_node}
use Rattle.cf_world.specs.NodesTie.{IsAway, IsNode, IsAtAddress, IsShutOff, ShowsLink, ShowsNodes, name_of}
use Rattle.cf_world.specs.NodesTie.{session_at}
use Rattle.cf_world.specs.NodesTie.{session_in}
use Rattle.cf_world.specs.declared.clients.SessionAddress.{SessionAddress}
use Rattle.cf_world.proofs.Counts.{Addresses}
use Rattle.cf_world.proofs.Ends.{comes_keeps}
use Rattle.cf_world.proofs.LinksTie.{address_of, addresses_are, also_distinct, also_more, also_there}
use Rattle.cf_world.proofs.LinksTie.{at_address_goes, at_address_stays, id_there, last_but, LinkGoes, name_there}
use Rattle.cf_world.proofs.LinksTie.{names_by, nobody, number_at, number_is, session_moves, with_at_here}
use Rattle.cf_world.proofs.LinksTie.{with_at_other}
use Rattle.cf_world.proofs.Looking.{attached, off_at}
use Rattle.cf_machine.proofs.Names.{text_tells, with-all, with-both, with-other, with-same}

module _ {cfg : Config} {hubs : ℕ → Option Node} {addresses : List ℕ → Option SessionAddress} {m : World}
    (t : ShowsNodes cfg hubs addresses m) where
  -- the address of a client
  pub address_shows : (x : List ℕ) (s : SessionAddress) → addresses x ≡ Some s
      → IsAtAddress cfg.namespaces m.broker.lists (session_at hubs s) s.node (m.links x)
  address_shows x s e =
      subst (λ (o : Option SessionAddress). ShowsLink cfg.namespaces m.broker.lists hubs o (m.links x)) e (t.links x)

  pub away_shows : (x : List ℕ) → addresses x ≡ None → IsAway (m.links x)
  away_shows x e =
      subst (λ (o : Option SessionAddress). ShowsLink cfg.namespaces m.broker.lists hubs o (m.links x)) e (t.links x)

  -- the same of a machine's world with the same parts
  pub nodes_same : (m' : World) → ((n : ℕ) → m'.boots n ≡ m.boots n) → ((n : ℕ) → m'.counters n ≡ m.counters n)
      → m'.clients ≡ m.clients → m'.broker.lists ≡ m.broker.lists
      → ((x : List ℕ) → m'.links x ≡ m.links x) → ShowsNodes cfg hubs addresses m'
  nodes_same m' boots counters clients lists links = record {
    nodes = t.nodes;
    hub = λ n h e. let was = t.hub n h e in
        record {
          node = was.node;
          boot = was.boot ∙ sym (boots n);
          used = was.used ∙ sym (counters n);
          few = was.few;
          refused = was.refused;
        };
    links = λ x. subst (λ (z : Lists). ShowsLink cfg.namespaces z hubs (addresses x) (m'.links x)) (sym lists)
        (subst (λ (l : ClientLink). ShowsLink cfg.namespaces m.broker.lists hubs (addresses x) l) (sym (links x))
        (t.links x));
    apart = t.apart;
    onto = t.onto;
    among = λ x s e. ap (is_among x) clients ∙ t.among x s e;
    distinct = subst AreDistinct (sym clients) t.distinct;
  }

  -- the publication lists grow
  pub lists_grow : ((old new : Lists) (a : Texts) (b : Session) → Grown old new → SaysSession old a b
      → SaysSession new a b) → (b : Broker) → Grown m.broker.lists b.lists
      → ShowsNodes cfg hubs addresses (broker_with b m)
  lists_grow grows b g = record {
    nodes = t.nodes;
    hub = λ n h e. let was = t.hub n h e in
        record { node = was.node; boot = was.boot; used = was.used; few = was.few; refused = was.refused };
    links = λ x. by_address (addresses x) (m.links x) (t.links x);
    apart = t.apart;
    onto = t.onto;
    among = t.among;
    distinct = t.distinct;
  }
    where
      at_grows : (o : Option Attached) (s : Session) → SaysAt m.broker.lists o s → SaysAt b.lists o s
      at_grows None s h = absurd h
      at_grows (Some a) s h = grows m.broker.lists b.lists a.state s g h

      by_address : (o : Option SessionAddress) (l : ClientLink) → ShowsLink cfg.namespaces m.broker.lists hubs o l
          → ShowsLink cfg.namespaces b.lists hubs o l
      by_address None l h = h
      by_address (Some s) l h =
          record {
            at = h.at;
            name = h.name;
            named = h.named;
            says = at_grows (session_at hubs s) l.session h.says;
            way = h.way;
            up = h.up;
            once = h.once;
            listed = h.listed;
            shut = h.shut;
            served = h.served;
          }

  -- ---- one hub changes

  module _ (n : ℕ) (h h' : Node) (was : hubs n ≡ Some h) (hubs' : ℕ → Option Node) (now : hubs' n ≡ Some h')
      (others : (j : ℕ) → j ≢ n → hubs' j ≡ hubs j) where
    hub_by : (P : ℕ → Option Node → Type 0) → P n (Some h') → ((j : ℕ) → j ≢ n → P j (hubs j)) → (j : ℕ) → P j (hubs' j)
    hub_by P here there j = elim (eqb_tells j n) [
      | inl e ↦ subst (λ (i : ℕ). P i (hubs' i)) (sym e.1) (subst (λ (o : Option Node). P n o) (sym now) here)
      | inr e ↦ subst (λ (o : Option Node). P j o) (sym (others j e.1)) (there j e.1)
    ]

    same_nodes : (j : ℕ) → is_some (hubs' j) ≡ nat_lt j cfg.nodes
    same_nodes j =
        hub_by (λ i o. is_some o ≡ nat_lt i cfg.nodes) (sym (ap is_some was) ∙ t.nodes n) (λ i ne. t.nodes i) j

    same_hubs : (m' : World) → IsNode n h' m' → ((j : ℕ) → j ≢ n → m'.boots j ≡ m.boots j)
        → ((j : ℕ) → j ≢ n → m'.counters j ≡ m.counters j) → (j : ℕ) (g : Node) → hubs' j ≡ Some g → IsNode j g m'
    same_hubs m' is boots counters j =
        hub_by (λ i o. (g : Node) → o ≡ Some g → IsNode i g m')
        (λ g e. subst (λ (z : Node). IsNode n z m') (same_Some h' g e) is)
        (λ i ne g e. let old = t.hub i g e in record {
          node = old.node;
          boot = old.boot ∙ sym (boots i ne);
          used = old.used ∙ sym (counters i ne);
          few = old.few;
          refused = old.refused;
        }) j

    -- where a session of hub n is there it was there
    still_onto : ((k : ℕ) → is_some (attached_at h' k) ≡ is_some (attached_at h k)) → (j k : ℕ)
        → is_some (session_in (hubs' j) k) ≡ true → (x : List ℕ)
        × (addresses x ≡ Some (record { node = j; session = k }))
    still_onto there j =
        hub_by (λ i o. (k : ℕ) → is_some (session_in o k) ≡ true → (x : List ℕ)
        × (addresses x ≡ Some (record { node = i; session = k })))
        (λ k e. t.onto n k (ap (λ (o : Option Node). is_some (session_in o k)) was ∙ sym (there k) ∙ e))
        (λ i ne k e. t.onto i k e) j

    -- an address of another node
    pub elsewhere : (s : SessionAddress) → s.node ≢ n → session_at hubs' s ≡ session_at hubs s
    elsewhere s ne = ap (λ (o : Option Node). session_in o s.session) (others s.node ne)

    pub address_was : (s : SessionAddress) → s.node ≡ n → session_at hubs s ≡ attached_at h s.session
    address_was s e = ap (λ (o : Option Node). session_in o s.session) (ap hubs e ∙ was)

    pub address_now : (s : SessionAddress) → s.node ≡ n → session_at hubs' s ≡ attached_at h' s.session
    address_now s e = ap (λ (o : Option Node). session_in o s.session) (ap hubs' e ∙ now)

    module _ (same : SameNode h h') (none : h'.refused ≡ 0)
        (names : (k : ℕ) → name_of (attached_at h' k) ≡ name_of (attached_at h k)) where
      node_is : (m' : World) → m'.boots n ≡ m.boots n → m'.counters n ≡ m.counters n → IsNode n h' m'
      node_is m' boots counters =
          let old = t.hub n h was in
          record {
            node = same.node ∙ old.node;
            boot = same.boot ∙ old.boot ∙ sym boots;
            used = same.used ∙ old.used ∙ sym counters;
            few =
                subst (λ (i : ℕ). i ≤ largest) (sym same.used) old.few;
            refused = none;
          }

      -- the links are these
      hub_goes : (links : List ℕ → ClientLink) → ((x : List ℕ)
          → ShowsLink cfg.namespaces m.broker.lists hubs' (addresses x) (links x))
          → ShowsNodes cfg hubs' addresses (record m { links = links })
      hub_goes links shows = record {
        nodes = same_nodes;
        hub = same_hubs (record m { links = links }) (node_is (record m { links = links }) refl refl) (λ j ne. refl)
            (λ j ne. refl);
        links = shows;
        apart = t.apart;
        onto = still_onto (λ k. name_there (attached_at h k) (attached_at h' k) (names k));
        among = t.among;
        distinct = t.distinct;
      }

      -- its sessions stay
      pub still_goes : ((k : ℕ) → attached_at h' k ≡ attached_at h k) → ShowsNodes cfg hubs' addresses m
      still_goes stay = hub_goes m.links (λ x. by_address (addresses x) (m.links x) (t.links x))
        where
          by_address : (o : Option SessionAddress) (l : ClientLink) → ShowsLink cfg.namespaces m.broker.lists hubs o l
              → ShowsLink cfg.namespaces m.broker.lists hubs' o l
          by_address None l g = g
          by_address (Some s) l g = elim (eqb_tells s.node n) [
            | inl is ↦ at_address_stays (address_now s is.1 ∙ stay s.session ∙ sym (address_was s is.1)) g
            | inr is ↦ at_address_stays (elsewhere s is.1) g
          ]

      -- ---- a publication is delivered

      pub deliver_goes : CallsAreAlike m.broker.lists → (c e : List ℕ) (p : Placed) → IsListed m.broker.lists c e p
          → Delivers c e p h h'
          → ShowsNodes cfg hubs' addresses (record m {
            links = λ x. if on_node n (m.links x).node then with_session
                (comes (spoken m.broker.lists) c (at_offset e p) (m.links x).session) (m.links x) else m.links x;
          })
      deliver_goes calls c e p listed d =
          hub_goes (λ x. if on_node n (m.links x).node then with_session
          (comes (spoken m.broker.lists) c (at_offset e p) (m.links x).session) (m.links x) else m.links x)
          (λ x. by_address x (addresses x) (m.links x) (t.links x))
        where
          here : (s : SessionAddress) (l : ClientLink) → IsAtAddress cfg.namespaces m.broker.lists (session_at hubs s)
              s.node l
              → s.node ≡ n → IsAtAddress cfg.namespaces m.broker.lists (session_at hubs' s) s.node
              (with_session (comes (spoken m.broker.lists) c (at_offset e p) l.session) l)
          here s l g is =
              at_address_goes g (session_moves g (comes (spoken m.broker.lists) c (at_offset e p))
              (comes_keeps (spoken m.broker.lists) c (at_offset e p)))
              (ap name_of (address_now s is) ∙ names s.session ∙ sym (ap name_of (address_was s is)))
              (subst (λ (o : Option Attached). SaysAt m.broker.lists o
              (comes (spoken m.broker.lists) c (at_offset e p) l.session)) (sym (address_now s is))
              (calls.delivers c e p h h' listed d none s.session l.session
              (subst (λ (o : Option Attached). SaysAt m.broker.lists o l.session) (address_was s is) g.says)))

          by_address : (x : List ℕ) (o : Option SessionAddress) (l : ClientLink)
              → ShowsLink cfg.namespaces m.broker.lists hubs o l
              → ShowsLink cfg.namespaces m.broker.lists hubs' o
              (if on_node n l.node then with_session (comes (spoken m.broker.lists) c (at_offset e p) l.session) l
              else l)
          by_address x None l g =
              subst (λ (b : Bool). IsAway (if b then with_session
              (comes (spoken m.broker.lists) c (at_offset e p) l.session) l else l)) (sym (ap (on_node n) g.node)) g
          by_address x (Some s) l g = elim (eqb_tells s.node n) [
            | inl is ↦
                subst (λ (b : Bool). IsAtAddress cfg.namespaces m.broker.lists (session_at hubs' s) s.node
                (if b then with_session (comes (spoken m.broker.lists) c (at_offset e p) l.session) l else l))
                (sym (ap (on_node n) g.at ∙ is.0)) (here s l g is.1)
            | inr is ↦
                subst (λ (b : Bool). IsAtAddress cfg.namespaces m.broker.lists (session_at hubs' s) s.node
                (if b then with_session (comes (spoken m.broker.lists) c (at_offset e p) l.session) l else l))
                (sym (ap (on_node n) g.at ∙ is.0))
                (at_address_stays (elsewhere s is.1) g)
          ]

    -- ---- one session goes on, with its link

    pub session_goes : (x : List ℕ) (s : SessionAddress) → addresses x ≡ Some s → s.node ≡ n → SameNode h h'
        → h'.refused ≡ 0 → OthersStay s.session h h' → name_of (attached_at h' s.session)
        ≡ name_of (attached_at h s.session)
        → (l : ClientLink) → LinkGoes cfg.namespaces (m.links x) l
        → (SaysAt m.broker.lists (attached_at h s.session) (m.links x).session
        → SaysAt m.broker.lists (attached_at h' s.session) l.session)
        → ShowsNodes cfg hubs' addresses (link_with x l m)
    session_goes x s sits is same none stay name l goes says =
        hub_goes same none (names_by s.session h h' name stay) (with m.links x l) shows
      where
        mine : ShowsLink cfg.namespaces m.broker.lists hubs' (addresses x) l
        mine =
            let g = address_shows x s sits in
            subst (λ (o : Option SessionAddress). ShowsLink cfg.namespaces m.broker.lists hubs' o l) (sym sits)
            (at_address_goes g goes (ap name_of (address_now s is) ∙ name ∙ sym (ap name_of (address_was s is)))
            (subst (λ (o : Option Attached). SaysAt m.broker.lists o l.session) (sym (address_now s is))
            (says (subst (λ (o : Option Attached). SaysAt m.broker.lists o (m.links x).session) (address_was s is)
            g.says))))

        -- another client's address is another one
        apart : (y : List ℕ) (o : SessionAddress) → y ≢ x → addresses y ≡ Some o → o.node ≡ n → o.session ≢ s.session
        apart y o ne e f same_session =
            ne (t.apart y x s (e ∙ ap Some (addresses_are o s (f ∙ sym is) same_session)) sits)

        yours : (y : List ℕ) → y ≢ x → (o : Option SessionAddress) → addresses y ≡ o
            → ShowsLink cfg.namespaces m.broker.lists hubs o (m.links y)
            → ShowsLink cfg.namespaces m.broker.lists hubs' o (m.links y)
        yours y ne None e g = g
        yours y ne (Some o) e g = elim (eqb_tells o.node n) [
          | inl f ↦ at_address_stays (address_now o f.1 ∙ stay o.session (apart y o ne e f.1) ∙ sym (address_was o f.1))
              g
          | inr f ↦ at_address_stays (elsewhere o f.1) g
        ]

        shows : (y : List ℕ) → ShowsLink cfg.namespaces m.broker.lists hubs' (addresses y) (with m.links x l y)
        shows y = with-all (λ z k. ShowsLink cfg.namespaces m.broker.lists hubs' (addresses z) k) m.links x l mine
            (λ z ne. yours z ne (addresses z) refl (t.links z)) y

    -- ---- a session comes, or goes

    module _ (x : List ℕ) (addresses' : List ℕ → Option SessionAddress) where
      pub attach_goes : CallsAreAlike m.broker.lists → (k now_at : ℕ) (user : List ℕ) → addresses x ≡ None
          → attached_at h k ≡ None → h.used ≢ largest → Opens k user now_at h h'
          → ((y : List ℕ) → addresses' y ≡ with addresses x (Some (record { node = n; session = k })) y)
          → ShowsNodes cfg hubs' addresses' (connects x n m)
      attach_goes calls k now_at user none free not_last o sits = record {
        nodes = same_nodes;
        hub = same_hubs (connects x n m) is (λ j ne. refl) (λ j ne. other_count j ne);
        links = λ y. subst (λ (v : Option SessionAddress). ShowsLink cfg.namespaces m.broker.lists hubs' v
            ((connects x n m).links y)) (sym (sits y)) (shows y);
        apart = λ y z s e f. apart y z s (sym (sits y) ∙ e) (sym (sits z) ∙ f);
        onto = onto;
        among = λ y s e. among y s (sym (sits y) ∙ e);
        distinct = also_distinct x m.clients t.distinct;
      }
        where
          old : IsNode n h m
          old = t.hub n h was

          other_count : (j : ℕ) → j ≢ n → with_at m.counters n (m.counters n + 1) j ≡ m.counters j
          other_count j ne = elim (eqb_tells j n) [
            | inl e ↦ absurd (ne e.1)
            | inr e ↦ ap (λ (b : Bool). if b then m.counters n + 1 else m.counters j) e.0
          ]

          is : IsNode n h' (connects x n m)
          is = record {
            node = o.node ∙ old.node;
            boot = o.boot ∙ old.boot;
            used = o.used ∙ ap (λ (i : ℕ). i + 1) old.used
                ∙ sym (ap (λ (b : Bool). if b then m.counters n + 1 else m.counters n) (eq-eqb n n refl));
            few = last_but h.used h'.used largest o.used old.few not_last;
            refused = o.refused ∙ old.refused;
          }

          there : (y : List ℕ) (s : SessionAddress) → addresses y ≡ Some s → s.node ≡ n → s.session ≢ k
          there y s e f g =
              let shown = address_shows y s e in
              nobody m.broker.lists (attached_at h s.session) (ap (attached_at h) g ∙ free) (m.links y).session
              (subst (λ (v : Option Attached). SaysAt m.broker.lists v (m.links y).session) (address_was s f)
              shown.says)

          yours : (y : List ℕ) (v : Option SessionAddress) → addresses y ≡ v
              → ShowsLink cfg.namespaces m.broker.lists hubs v (m.links y)
              → ShowsLink cfg.namespaces m.broker.lists hubs' v (m.links y)
          yours y None e g = g
          yours y (Some s) e g = elim (eqb_tells s.node n) [
            | inl f ↦ at_address_stays (address_now s f.1 ∙ o.others s.session (there y s e f.1)
                ∙ sym (address_was s f.1)) g
            | inr f ↦ at_address_stays (elsewhere s f.1) g
          ]

          away : IsAway (m.links x)
          away = away_shows x none

          name : name_of (attached_at h' k) ≡ Some (machine_id n (m.boots n) (m.counters n + 1))
          name =
              ap name_of o.here ∙ (λ i. Some (client_id (old.node i) (old.boot i) (old.used i + 1)))

          came : IsAtAddress cfg.namespaces m.broker.lists (session_at hubs' (address_of n k)) n
              (record (m.links x) { node = Some n; name = machine_id n (m.boots n) (m.counters n + 1) })
          came = record {
            at = refl;
            name = ap name_of (address_now (address_of n k) refl) ∙ name;
            named = id_there n (m.boots n) (m.counters n + 1);
            says = subst (λ (v : Option Attached). SaysAt m.broker.lists v (m.links x).session)
                (sym (address_now (address_of n k) refl)) (subst
                (λ (b : Session). SaysAt m.broker.lists (attached_at h' k) b)
                (sym away.session) (calls.attaches k now_at user h h' o));
            way = away.way;
            up = away.up;
            once = subst AreDistinct (sym away.channels) tt;
            listed = λ c g. absurd (let none : true ≡ false = ap (λ (b : Session). is_off (b.subs c)) (sym away.session)
                ∙ g in cc);
            shut = subst IsShutOff (sym away.session) (λ e c. refl);
            served = λ c g. absurd (let none : true ≡ false = ap (λ (b : Session). is_off (b.subs c)) (sym away.session)
                ∙ g in cc);
          }

          shows : (y : List ℕ) → ShowsLink cfg.namespaces m.broker.lists hubs'
              (with addresses x (Some (address_of n k)) y)
              ((connects x n m).links y)
          shows y =
              with-both (λ z v l. ShowsLink cfg.namespaces m.broker.lists hubs' v l) addresses m.links x
              (Some (address_of n k)) (record (m.links x) {
                node = Some n;
                name = machine_id n (m.boots n) (m.counters n + 1);
              })
              came (λ z ne. yours z (addresses z) refl (t.links z)) y

          fresh_address : (y : List ℕ) (s : SessionAddress) → addresses y ≡ Some s → s ≡ (address_of n k) → ⊥
          fresh_address y s e f =
              there y s e (ap (λ (z : SessionAddress). z.node) f) (ap (λ (z : SessionAddress). z.session) f)

          apart : (y z : List ℕ) (s : SessionAddress) → with addresses x (Some (address_of n k)) y ≡ Some s
              → with addresses x (Some (address_of n k)) z ≡ Some s → y ≡ z
          apart y z s e f = elim (text_tells y x) [
            | inl p ↦ elim (text_tells z x) [
              | inl q ↦ p.1 ∙ sym q.1
              | inr q ↦
                  absurd (fresh_address z s (sym (with-other addresses x (Some (address_of n k)) z q.1) ∙ f)
                  (sym (same_Some (address_of n k) s (sym (ap (λ (b : Bool). if b then Some (address_of n k)
                  else addresses y)
                  p.0) ∙ e))))
            ]
            | inr p ↦ elim (text_tells z x) [
              | inl q ↦
                  absurd (fresh_address y s (sym (with-other addresses x (Some (address_of n k)) y p.1) ∙ e)
                  (sym (same_Some (address_of n k) s (sym (ap (λ (b : Bool). if b then Some (address_of n k)
                  else addresses z)
                  q.0) ∙ f))))
              | inr q ↦ t.apart y z s (sym (with-other addresses x (Some (address_of n k)) y p.1) ∙ e)
                  (sym (with-other addresses x (Some (address_of n k)) z q.1) ∙ f)
            ]
          ]

          still : (j i : ℕ) → (r : (y : List ℕ) × (addresses y ≡ Some (record { node = j; session = i })))
              → (y : List ℕ)
              × (addresses' y ≡ Some (record { node = j; session = i }))
          still j i r = (
            r.0,
            sits r.0 ∙ with-other addresses x (Some (address_of n k)) r.0
                (λ e. none-some (record { node = j; session = i }) (sym none ∙ ap addresses (sym e) ∙ r.1)) ∙ r.1,
          )

          at_new : (i : ℕ) → is_some (attached_at h' i) ≡ true → (y : List ℕ)
              × (addresses' y ≡ Some (record { node = n; session = i }))
          at_new i e = elim (eqb_tells i k) [
            | inl p ↦ (
              x,
              sits x ∙ with-same addresses x (Some (address_of n k))
                  ∙ ap Some (addresses_are (address_of n k) (record { node = n; session = i }) refl (sym p.1)),
            )
            | inr p ↦ still n i (t.onto n i (ap (λ (v : Option Node). is_some (session_in v i)) was
                ∙ ap is_some (sym (o.others i p.1)) ∙ e))
          ]

          onto : (j i : ℕ) → is_some (session_in (hubs' j) i) ≡ true → (y : List ℕ)
              × (addresses' y ≡ Some (record { node = j; session = i }))
          onto j = hub_by (λ a v. (i : ℕ) → is_some (session_in v i) ≡ true → (y : List ℕ)
              × (addresses' y ≡ Some (record { node = a; session = i }))) at_new (λ a ne i e. still a i (t.onto a i e))
              j

          among : (y : List ℕ) (s : SessionAddress) → with addresses x (Some (address_of n k)) y ≡ Some s
              → is_among y (and_also x m.clients) ≡ true
          among y s e = elim (text_tells y x) [
            | inl p ↦ subst (λ (z : List ℕ). is_among z (and_also x m.clients) ≡ true) (sym p.1)
                (also_there x m.clients)
            | inr p ↦ also_more x m.clients y (t.among y s
                (sym (with-other addresses x (Some (address_of n k)) y p.1) ∙ e))
          ]

      pub detach_goes : (s : SessionAddress) → addresses x ≡ Some s → s.node ≡ n → SameRest h h'
          → OthersStay s.session h h'
          → attached_at h' s.session ≡ None
          → ((y : List ℕ) → addresses' y ≡ with addresses x None y) → (l : ClientLink) → IsAway l
          → ShowsNodes cfg hubs' addresses' (link_with x l m)
      detach_goes s sat at rest stay gone sits l away = record {
        nodes = same_nodes;
        hub = same_hubs (link_with x l m) is (λ j ne. refl) (λ j ne. refl);
        links = λ y. subst (λ (v : Option SessionAddress). ShowsLink cfg.namespaces m.broker.lists hubs' v
            (with m.links x l y)) (sym (sits y)) (shows y);
        apart = λ y z o e f. t.apart y z o (before y o (sym (sits y) ∙ e)) (before z o (sym (sits z) ∙ f));
        onto = onto;
        among = λ y o e. t.among y o (before y o (sym (sits y) ∙ e));
        distinct = t.distinct;
      }
        where
          old : IsNode n h m
          old = t.hub n h was

          is : IsNode n h' (link_with x l m)
          is = record {
            node = rest.node ∙ old.node;
            boot = rest.boot ∙ old.boot;
            used = rest.used ∙ old.used;
            few = subst (λ (i : ℕ). i ≤ largest) (sym rest.used) old.few;
            refused = rest.refused ∙ old.refused;
          }

          before : (y : List ℕ) (o : SessionAddress) → with addresses x None y ≡ Some o → addresses y ≡ Some o
          before y o e = elim (text_tells y x) [
            | inl p ↦ absurd (none-some o (sym (ap (λ (b : Bool). if b then None else addresses y) p.0) ∙ e))
            | inr p ↦ sym (with-other addresses x None y p.1) ∙ e
          ]

          other : (y : List ℕ) (o : SessionAddress) → y ≢ x → addresses y ≡ Some o → o.node ≡ n → o.session ≢ s.session
          other y o ne e f g = ne (t.apart y x s (e ∙ ap Some (addresses_are o s (f ∙ sym at) g)) sat)

          yours : (y : List ℕ) → y ≢ x → (v : Option SessionAddress) → addresses y ≡ v
              → ShowsLink cfg.namespaces m.broker.lists hubs v (m.links y)
              → ShowsLink cfg.namespaces m.broker.lists hubs' v (m.links y)
          yours y ne None e g = g
          yours y ne (Some o) e g = elim (eqb_tells o.node n) [
            | inl f ↦ at_address_stays (address_now o f.1 ∙ stay o.session (other y o ne e f.1)
                ∙ sym (address_was o f.1)) g
            | inr f ↦ at_address_stays (elsewhere o f.1) g
          ]

          shows : (y : List ℕ) → ShowsLink cfg.namespaces m.broker.lists hubs' (with addresses x None y)
              (with m.links x l y)
          shows y = with-both (λ z v k. ShowsLink cfg.namespaces m.broker.lists hubs' v k) addresses m.links x None l
              away
              (λ z ne. yours z ne (addresses z) refl (t.links z)) y

          at_new : (i : ℕ) → is_some (attached_at h' i) ≡ true → (y : List ℕ)
              × (addresses' y ≡ Some (record { node = n; session = i }))
          at_new i e = elim (eqb_tells i s.session) [
            | inl p ↦ absurd (let none : false ≡ true = sym (ap is_some (ap (attached_at h') p.1 ∙ gone)) ∙ e in cc)
            | inr p ↦ still n i (λ a f. p.1 f) (t.onto n i
                (ap (λ (v : Option Node). is_some (session_in v i)) was ∙ ap is_some (sym (stay i p.1)) ∙ e))
          ]
            where
              still : (j i : ℕ) → (j ≡ n → i ≡ s.session → ⊥)
                  → (r : (y : List ℕ) × (addresses y ≡ Some (record { node = j; session = i }))) → (y : List ℕ)
                  × (addresses' y ≡ Some (record { node = j; session = i }))
              still j i apart r = (
                r.0,
                sits r.0 ∙ with-other addresses x None r.0 (λ f.
                    let same : s ≡ record { node = j; session = i } =
                    same_Some s (record { node = j; session = i }) (sym sat ∙ ap addresses (sym f) ∙ r.1) in
                    apart (sym (ap (λ (z : SessionAddress). z.node) same) ∙ at)
                    (sym (ap (λ (z : SessionAddress). z.session) same))) ∙ r.1,
              )

          elsewhere_still : (j i : ℕ) → j ≢ n → (r : (y : List ℕ)
              × (addresses y ≡ Some (record { node = j; session = i })))
              → (y : List ℕ) × (addresses' y ≡ Some (record { node = j; session = i }))
          elsewhere_still j i ne r = (
            r.0,
            sits r.0 ∙ with-other addresses x None r.0 (λ f.
                let same : s ≡ record { node = j; session = i } =
                same_Some s (record { node = j; session = i }) (sym sat ∙ ap addresses (sym f) ∙ r.1) in
                ne (sym (ap (λ (z : SessionAddress). z.node) same) ∙ at)) ∙ r.1,
          )

          onto : (j i : ℕ) → is_some (session_in (hubs' j) i) ≡ true → (y : List ℕ)
              × (addresses' y ≡ Some (record { node = j; session = i }))
          onto j = hub_by (λ a v. (i : ℕ) → is_some (session_in v i) ≡ true → (y : List ℕ)
              × (addresses' y ≡ Some (record { node = a; session = i }))) at_new
              (λ a ne i e. elsewhere_still a i ne (t.onto a i e)) j

    -- ---- a node restarts

    pub restart_goes : h' ≡ empty n (m.boots n + 1) → (addresses' : List ℕ → Option SessionAddress)
        → ((y : List ℕ) → addresses' y ≡ leave_node n (addresses y)) → ShowsNodes cfg hubs' addresses' (restarts n m)
    restart_goes new addresses' sits = record {
      nodes = same_nodes;
      hub = same_hubs (restarts n m) is (λ j ne. with_at_other m.boots n (m.boots n + 1) j ne)
          (λ j ne. with_at_other m.counters n 0 j ne);
      links = λ y. subst (λ (v : Option SessionAddress). ShowsLink cfg.namespaces m.broker.lists hubs' v
          ((restarts n m).links y)) (sym (sits y)) (by_address (addresses y) (m.links y) (t.links y));
      apart = λ y z s e f. t.apart y z s (before (addresses y) s (sym (sits y) ∙ e))
          (before (addresses z) s (sym (sits z) ∙ f));
      onto = onto;
      among = λ y s e. t.among y s (before (addresses y) s (sym (sits y) ∙ e));
      distinct = t.distinct;
    }
      where
        is : IsNode n h' (restarts n m)
        is = record {
          node = ap (λ (z : Node). z.node) new;
          boot = ap (λ (z : Node). z.boot) new ∙ sym (with_at_here m.boots n (m.boots n + 1));
          used = ap (λ (z : Node). z.used) new ∙ sym (with_at_here m.counters n 0);
          few = subst (λ (z : Node). z.used ≤ largest) (sym new) (omega arith);
          refused = ap (λ (z : Node). z.refused) new;
        }

        before : (v : Option SessionAddress) (s : SessionAddress) → leave_node n v ≡ Some s → v ≡ Some s
        before None s e = e
        before (Some o) s e = by_value (o.node == n) e
          where
            by_value : (b : Bool) → (if b then None else Some o) ≡ Some s → Some o ≡ Some s
            by_value true f = absurd (none-some s f)
            by_value false f = f

        by_address : (v : Option SessionAddress) (l : ClientLink) → ShowsLink cfg.namespaces m.broker.lists hubs v l
            → ShowsLink cfg.namespaces m.broker.lists hubs' (leave_node n v) (if on_node n l.node then breaks l else l)
        by_address None l g = subst (λ (b : Bool). IsAway (if b then breaks l else l)) (sym (ap (on_node n) g.node)) g
        by_address (Some s) l g = elim (eqb_tells s.node n) [
          | inl p ↦
              subst (λ (b : Bool). ShowsLink cfg.namespaces m.broker.lists hubs' (if b then None else Some s)
              (if on_node n l.node then breaks l else l)) (sym p.0)
              (subst (λ (b : Bool). IsAway (if b then breaks l else l)) (sym (ap (on_node n) g.at ∙ p.0))
              (record { node = refl; session = refl; channels = refl; way = refl; up = refl }))
          | inr p ↦
              subst (λ (b : Bool). ShowsLink cfg.namespaces m.broker.lists hubs' (if b then None else Some s)
              (if on_node n l.node then breaks l else l)) (sym p.0)
              (subst (λ (b : Bool). IsAtAddress cfg.namespaces m.broker.lists (session_at hubs' s) s.node
              (if b then breaks l else l)) (sym (ap (on_node n) g.at ∙ p.0)) (at_address_stays (elsewhere s p.1) g))
        ]

        at_new : (i : ℕ) → is_some (attached_at h' i) ≡ true → (y : List ℕ)
            × (addresses' y ≡ Some (record { node = n; session = i }))
        at_new i e = absurd (let none : false ≡ true = sym (ap (λ (z : Node). is_some (attached_at z i)) new) ∙ e in cc)

        onto : (j i : ℕ) → is_some (session_in (hubs' j) i) ≡ true → (y : List ℕ)
            × (addresses' y ≡ Some (record { node = j; session = i }))
        onto j =
            hub_by (λ a v. (i : ℕ) → is_some (session_in v i) ≡ true → (y : List ℕ)
            × (addresses' y ≡ Some (record { node = a; session = i }))) at_new
            (λ a ne i e.
            let r = t.onto a i e in (
              r.0,
              sits r.0 ∙ ap (leave_node n) r.1 ∙ ap (λ (b : Bool). if b then None
                  else Some (record { node = a; session = i })) (ne_eqb a n ne),
            ))
            j

  -- ---- the clients of one node, for counting

  pub addresses_at : (n : ℕ) (h : Node) → hubs n ≡ Some h → AreFollows h.rows → Agrees (attached_at h) h.rows
      → IsBounded (attached_at h) → Addresses n h m.links m.clients (λ x. number_at n (addresses x))
  addresses_at n h was follows agrees bounded = record {
    on = λ x. on_by (addresses x) (m.links x) (t.links x);
    there = λ x k e. there x k (number_is n (addresses x) k e);
    apart = λ x y k e f. t.apart x y (record { node = n; session = k }) (number_is n (addresses x) k e)
        (number_is n (addresses y) k f);
    onto = λ k e.
        let r = t.onto n k (ap (λ (v : Option Node). is_some (session_in v k)) was ∙ e) in
        (r.0, ap (number_at n) r.1 ∙ ap (λ (b : Bool). if b then Some k else None) (eq-eqb n n refl));
    among = λ x k e. t.among x (record { node = n; session = k }) (number_is n (addresses x) k e);
    distinct = t.distinct;
    channels = λ x. once_by (addresses x) (m.links x) (t.links x);
    listed = λ x. listed_by (addresses x) (m.links x) (t.links x);
    agrees = agrees;
    follows = follows;
    bounded = bounded;
  }
    where
      on_by : (v : Option SessionAddress) (l : ClientLink) → ShowsLink cfg.namespaces m.broker.lists hubs v l
          → is_some (number_at n v) ≡ on_node n l.node
      on_by None l g = sym (ap (on_node n) g.node)
      on_by (Some s) l g = by_value (s.node == n) ∙ sym (ap (on_node n) g.at)
        where
          by_value : (b : Bool) → is_some (if b then Some s.session else None) ≡ b
          by_value true = refl
          by_value false = refl

      there : (x : List ℕ) (k : ℕ) → addresses x ≡ Some (record { node = n; session = k }) → (a : Attached)
          × (attached_at h k ≡ Some a) × ((c : List ℕ) → is_off (a.state.subs c) ≡ is_off ((m.links x).session.subs c))
      there x k e =
          let g = address_shows x (record { node = n; session = k }) e in
          let says = subst (λ (v : Option Attached). SaysAt m.broker.lists v (m.links x).session)
          (ap (λ (v : Option Node). session_in v k) was) g.says in
          let a = attached m.broker.lists (attached_at h k) (m.links x).session says in (
            a.0,
            a.1,
            λ c. sym (ap (λ (v : Option Attached). is_off (sub_in v c)) a.1)
                ∙ off_at m.broker.lists (attached_at h k) (m.links x).session says c,
          )

      once_by : (v : Option SessionAddress) (l : ClientLink) → ShowsLink cfg.namespaces m.broker.lists hubs v l
          → AreDistinct l.channels
      once_by None l g = subst AreDistinct (sym g.channels) tt
      once_by (Some s) l g = g.once

      listed_by : (v : Option SessionAddress) (l : ClientLink) → ShowsLink cfg.namespaces m.broker.lists hubs v l
          → (c : List ℕ) → is_off (l.session.subs c) ≡ false → is_among c l.channels ≡ true
      listed_by None l g c e =
          absurd (let none : true ≡ false = ap (λ (b : Session). is_off (b.subs c)) (sym g.session) ∙ e in cc)
      listed_by (Some s) l g c e = g.listed c e
