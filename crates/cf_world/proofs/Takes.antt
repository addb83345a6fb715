-- A take that finds nothing, or the close.
use Rattle.std.proofs.Common.{◌≡◌, ◌&&◌, ℕ, Bool, true, false, if◌then◌else◌, Option, Some, None, List, [], ◌∷◌, ◌++◌}
use Rattle.std.proofs.Common.{is_some, drop, refl, sym, ap, ◌∙◌, subst}
use Rattle.std.specs.List.{All}
use Rattle.std.proofs.lemmas.List.Elements.{All-tail}
use Rattle.cf_protocol.specs.Note.{Note, Close}
use Rattle.cf_protocol.specs.Settings.{NamespaceTable}
use Rattle.cf_hub.specs.AlikeMoves.{CallsAreAlike, MovesAreAlike}
use Rattle.cf_hub.specs.Hub.{Node, attached_at}
use Rattle.cf_hub.specs.InNotes.{SaysAt}
use Rattle.cf_hub.specs.Session.{Attached}
use Rattle.cf_model.specs.Sessions.{takes_front}
use Rattle.cf_machine.specs.ClientLink.{ClientLink, breaks, hold_first, holds, receive_first, receives}
use Rattle.cf_machine.specs.Config.{Config}
use Rattle.cf_machine.specs.Event.{Take}
use Rattle.cf_machine.specs.IntervalMachine.{allows, happens, has_any}
use Rattle.cf_machine.specs.Told.{entries, first_items, tells, writes}
use Rattle.cf_machine.specs.Trace.{Closed}
use Rattle.cf_machine.specs.World.{World, link_with}
use Rattle.cf_world.specs.ClientTie.{IsOwn, ClearsAddress}
use Rattle.cf_world.specs.HubCalls.{AtHub, Gone, Taken}
use Rattle.cf_world.specs.NodesTie.{session_in}
use Rattle.cf_world.specs.Tie.{AreTied, addresses_of}
use Rattle.cf_world.specs.declared.broker.WorldBroker.{WorldBroker as Code}
use Rattle.cf_world.specs.declared.clients.Peer.{Peer}
use Rattle.cf_world.specs.declared.clients.SessionAddress.{SessionAddress}
use Rattle.cf_world.proofs.Breaking.{breaks-goes}
use Rattle.cf_world.proofs.Ends.{takes_keeps}
use Rattle.cf_world.proofs.LinksTie.{one_name}
use Rattle.cf_world.proofs.NodesTie.{address_shows}
use Rattle.cf_world.proofs.Served.{opens-away, rests}
use Rattle.cf_world.proofs.Sitting.{Owns, hub_there, session-may-go}

takes-own : Owns takes_front
takes-own s b k = by_notes b.notes k
  where
    by_notes : (ns : List Note) → All (IsOwn s) ns → All (IsOwn s) (drop 1 ns)
    by_notes [] h = h
    by_notes (n ∷ ns) h = All-tail (IsOwn s) n ns h

module _ {cfg : Config} {table : NamespaceTable} {b : Code} {hubs : ℕ → Option Node} {peers : List ℕ → Option Peer}
    {m : World}
    (t : AreTied cfg table b hubs peers m) (x : List ℕ) where
  no-take : allows cfg m (Take x) ≡ false → (k : ℕ) → [] ≡ writes cfg k m (Take x)
  no-take none k = sym (ap (λ (v : Bool). if v then tells k m (Take x) else []) none)

  away : addresses_of peers x ≡ None → allows cfg m (Take x) ≡ false
  away none = ap (λ (o : Option ℕ). is_some o && has_any (m.links x).session.notes) (opens-away t x none).node

  pub take-away : addresses_of peers x ≡ None → AreTied cfg table b hubs peers (happens cfg m (Take x))
  take-away none = rests t (Take x) (away none)

  pub writes-away : addresses_of peers x ≡ None → (k : ℕ) → [] ≡ writes cfg k m (Take x)
  writes-away none = no-take (away none)

  module _ (s : SessionAddress) (sat : addresses_of peers x ≡ Some s) where
    pub says-there : (h : Node) → hubs s.node ≡ Some h
        → SaysAt m.broker.lists (attached_at h s.session) (m.links x).session
    says-there h was =
        subst (λ (z : Option Attached). SaysAt m.broker.lists z (m.links x).session)
        (ap (λ (z : Option Node). session_in z s.session) was) (address_shows t.nodes x s sat).says

    both-no : (p q : Bool) → q ≡ false → (p && q) ≡ false
    both-no true q e = e
    both-no false q e = refl

    module _ (none : (m.links x).session.notes ≡ []) where
      still : allows cfg m (Take x) ≡ false
      still = both-no (is_some (m.links x).node) (has_any (m.links x).session.notes) (ap has_any none)

      pub writes-none : (k : ℕ) → [] ≡ writes cfg k m (Take x)
      writes-none = no-take still

      pub take-none : CallsAreAlike m.broker.lists → MovesAreAlike m.broker.lists → (hubs' : ℕ → Option Node)
          → AtHub s.node (Taken s.session) hubs hubs' → AreTied cfg table b hubs' peers (happens cfg m (Take x))
      take-none calls moves hubs' at =
          let there = hub_there t x s sat in
          let one = at there.0 there.1 in
          let same = one.changes.same in
          let stays : AreTied cfg table b hubs' peers m =
          session-may-go t x s sat there.0 one.hub there.1 hubs' one.now one.others
          (record { node = same.node; boot = same.boot; used = same.used })
          (same.refused ∙ (t.nodes.hub s.node there.0 there.1).refused) one.changes.does.others
          (one_name one.changes.does) takes_front takes_keeps takes-own
          (λ d. calls.one s.session takes_front takes_front there.0 one.hub moves.takes one.changes.does d) false
          (λ e. ap (λ (ns : List Note). record (m.links x).session { notes = drop 1 ns }) none
          ∙ sym (ap (λ (ns : List Note). record (m.links x).session { notes = ns }) none)) in
          rw still stays

    module _ (code : ℕ) (rest : List Note) (front : (m.links x).session.notes ≡ Close code ∷ rest) where
      may : allows cfg m (Take x) ≡ true
      may = ap (λ (o : Option ℕ). is_some o && has_any (m.links x).session.notes) (address_shows t.nodes x s sat).at
          ∙ ap has_any front

      held : holds (m.links x) ≡ hold_first (Close code ∷ rest) (m.links x)
      held = ap (λ (ns : List Note). hold_first ns (m.links x)) front

      broken : receives (holds (m.links x)) ≡ breaks (m.links x)
      broken =
          ap receives held
          ∙ ap (λ (ws : List Note). receive_first (ws ++ Close code ∷ [])
          (record (m.links x) { session = takes_front (m.links x).session; way = ws ++ Close code ∷ [] }))
          (address_shows t.nodes x s sat).way

      pub writes-close : (k : ℕ) → entries k x (Closed code ∷ []) ≡ writes cfg k m (Take x)
      writes-close k =
          sym (ap (λ (v : Bool). if v then tells k m (Take x) else []) may
          ∙ ap (λ (ws : List Note). entries k x (first_items m.broker.lists (m.links x).client ws))
          (ap (λ (l : ClientLink). l.way) held ∙ ap (λ (ws : List Note). ws ++ Close code ∷ [])
          (address_shows t.nodes x s sat).way))

      gone-through : (hubs' hubs'' : ℕ → Option Node) → AtHub s.node (Taken s.session) hubs hubs'
          → AtHub s.node (Gone s.session) hubs' hubs'' → AtHub s.node (Gone s.session) hubs hubs''
      gone-through hubs' hubs'' first second = λ h was.
          let one = first h was in
          let two = second one.hub one.now in
          record {
            hub = two.hub;
            now = two.now;
            changes = record {
              gone = two.changes.gone;
              others = λ j ne. two.changes.others j ne ∙ one.changes.does.others j ne;
              same = record {
                node = two.changes.same.node ∙ one.changes.same.node;
                boot = two.changes.same.boot ∙ one.changes.same.boot;
                used = two.changes.same.used ∙ one.changes.same.used;
                refused = two.changes.same.refused ∙ one.changes.same.refused;
              };
            };
            others = λ j ne. two.others j ne ∙ one.others j ne;
          }

      pub take-close : (hubs' hubs'' : ℕ → Option Node) → AtHub s.node (Taken s.session) hubs hubs'
          → AtHub s.node (Gone s.session) hubs' hubs'' → (peers' : List ℕ → Option Peer)
          → ((p : Peer) → peers x ≡ Some p → ClearsAddress x p peers peers')
          → AreTied cfg table b hubs'' peers' (happens cfg m (Take x))
      take-close hubs' hubs'' first second peers' clears_address =
          subst (λ (w : World). AreTied cfg table b hubs'' peers' w)
          (sym (ap (λ (v : Bool). if v then link_with x (receives (holds (m.links x))) m else m) may
          ∙ ap (λ (l : ClientLink). link_with x l m) broken))
          (breaks-goes t x s sat hubs'' (gone-through hubs' hubs'' first second) peers' clears_address)
