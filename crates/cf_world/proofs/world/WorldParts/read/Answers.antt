-- By where it ends: if the client is away, asks for nothing there or the stream can't open, the machine's read does
-- nothing either; else client, hub and broker go on as in the machine (`read-done`).
use Rattle.std.proofs.Common.{rules, ◌≡◌, ◌∙◌, ◌&&◌, ℕ, List, Bool, true, false, Option, Some, None, IsSome}
use Rattle.std.proofs.Common.{option_and_then, refl, sym, ap}
use Rattle.std.proofs.lemmas.Map.Text.{btree_map_updates_text}
use Rattle.std.specs.BTreeMap.{get_by_text}
use Rattle.cf_hub.specs.Asking.{asked_of}
use Rattle.cf_hub.specs.Hub.{Node, sub_at}
use Rattle.cf_hub.specs.declared.asking.UnreadSubscription.{UnreadSubscription}
use Rattle.cf_model.specs.Sessions.{is_asked}
use Rattle.cf_session.specs.declared.session.Session.{Session}
use Rattle.cf_machine.specs.Event.{Read}
use Rattle.cf_machine.specs.IntervalMachine.{run}
use Rattle.cf_machine.specs.PublicationList.{can_open}
use Rattle.cf_machine.specs.World.{World, start}
use Rattle.cf_world.specs.HubCalls.{Moves}
use Rattle.cf_world.specs.Sending.{PeerMoves}
use Rattle.cf_world.specs.declared.clients.Peer.{Peer}
use Rattle.cf_world.specs.declared.clients.SessionAddress.{SessionAddress}
use Rattle.cf_world.proofs.AtHubs.{unmoved}
use Rattle.cf_world.proofs.Changed.{lends, none-there}
use Rattle.cf_world.proofs.Named.{sets-peer}
use Rattle.cf_world.proofs.ReadGoes.{read-away, read-unasked}
use Rattle.cf_world.proofs.Served.{rests}
use Rattle.cf_world.proofs.ServedStill.{pair-still, peer-still}
use Rattle.cf_world.proofs.SessionReads.{read-done}
use Rattle.cf_world.proofs.Sitting.{hub_there, address_here}
use Rattle.cf_world.proofs.world.WorldParts.read.Goals as goal

same-node : (x y : Node) → Some x ≡ Some y → x ≡ y
same-node x y h = cc

-- what the lent hub answers, the hub of the address does
asks-there : {n : ℕ} (k : ℕ) (c : List ℕ) {h g : Node} {old new : ℕ → Option Node} {o : Option UnreadSubscription}
    → Moves n h g old new → o ≡ asked_of (sub_at h k c) → (z : Node) → old n ≡ Some z → o ≡ asked_of (sub_at z k c)
asks-there k c {h = h} v e z is = e ∙ ap (λ (y : Node). asked_of (sub_at y k c)) (same-node h z (sym v.was ∙ is))

both-false : (p q : Bool) → q ≡ false → (p && q) ≡ false
both-false true q e = e
both-false false q e = refl

pub returns-in_default : goal.returns-in_default
returns-in_default c = λ cfg past t.
    let x : List ℕ = c.args.name.now in
    let none : get_by_text c.args.self.now.clients x ≡ None = search rules in
    pair-still (λ j. refl) (λ y. ap (λ m. get_by_text m y) c.get_mut.follows.holds-at-none) (
      read-away t.0 x c.args.channel.now (ap (λ (o : Option Peer). option_and_then (λ (p : Peer). p.address) o) none),
      t.1,
    )

pub returns-in_default-address : goal.returns-in_default-address
returns-in_default-address c = λ cfg past t.
    let k : Peer = c.in-Some.peer.now in
    let x : List ℕ = c.args.name.now in
    let old = c.args.self.now.clients in
    let new = c.get_mut.follows.lender k in
    let at : get_by_text old x ≡ Some k = search rules in
    let some : IsSome (get_by_text old x) = search rules in
    let pv : PeerMoves x k k (get_by_text old) (get_by_text new) =
    record {
      was = at;
      now = sets-peer (get_by_text old) (get_by_text new) x (Some k)
          (btree_map_updates_text x old new (Some k) ((c.get_mut.follows.holds k).3 some));
    } in
    pair-still (λ j. refl) (peer-still pv) (
      read-away t.0 x c.args.channel.now
          (address_here (get_by_text old) x k at ∙ c.in_default-address.is),
      t.1,
    )

pub returns-in_default-get_mut : goal.returns-in_default-get_mut
returns-in_default-get_mut c = λ cfg past t.
    let k : Peer = c.in-Some.peer.now in
    let x : List ℕ = c.args.name.now in
    let old = c.args.self.now.clients in
    let at : get_by_text old x ≡ Some k = search rules in
    let s : SessionAddress = c.in-Some-address.address in
    let sits : k.address ≡ Some s = search rules in
    let there = hub_there t.0 x s (address_here (get_by_text old) x k at ∙ sits) in
    let none = none-there c.args.self.now.hubs s.node c.in_default-get_mut.ensures.variant.1 in
    absurd (cc)

pub returns-in_default-unread_subscription : goal.returns-in_default-unread_subscription
returns-in_default-unread_subscription c = λ cfg past t.
    let k : Peer = c.in-Some.peer.now in
    let x : List ℕ = c.args.name.now in
    let old = c.args.self.now.clients in
    let new = c.get_mut.follows.lender k in
    let at : get_by_text old x ≡ Some k = search rules in
    let some : IsSome (get_by_text old x) = search rules in
    let s : SessionAddress = c.in-Some-address.address in
    let sits : k.address ≡ Some s = search rules in
    let pv : PeerMoves x k k (get_by_text old) (get_by_text new) =
    record {
      was = at;
      now = sets-peer (get_by_text old) (get_by_text new) x (Some k)
          (btree_map_updates_text x old new (Some k) ((c.get_mut.follows.holds k).3 some));
    } in
    let h : Node = c.in-Some-get_mut.hub.now in
    let v = lends c.args.self.now.hubs s.node h h (c.in-Some-get_mut.ensures.variant.0 refl)
    c.in-Some-get_mut.ensures.value in
    let none : c.unread_subscription.result ≡ None = search rules in
    pair-still (unmoved v refl) (peer-still pv) (
      read-unasked t.0 x c.args.channel.now s (address_here (get_by_text old) x k at ∙ sits)
          c.unread_subscription.result
          (asks-there s.session c.args.channel.now v c.unread_subscription.ensures) none,
      t.1,
    )

pub returns-then-not-can_open : goal.returns-then-not-can_open
returns-then-not-can_open c = λ cfg past t.
    let w : World = run cfg start past in
    let k : Peer = c.in-Some.peer.now in
    let x : List ℕ = c.args.name.now in
    let old = c.args.self.now.clients in
    let new = c.get_mut.follows.lender k in
    let at : get_by_text old x ≡ Some k = search rules in
    let some : IsSome (get_by_text old x) = search rules in
    let s : SessionAddress = c.in-Some-address.address in
    let sits : k.address ≡ Some s = search rules in
    let pv : PeerMoves x k k (get_by_text old) (get_by_text new) =
    record {
      was = at;
      now = sets-peer (get_by_text old) (get_by_text new) x (Some k)
          (btree_map_updates_text x old new (Some k) ((c.get_mut.follows.holds k).3 some));
    } in
    let h : Node = c.in-Some-get_mut.hub.now in
    let v = lends c.args.self.now.hubs s.node h h (c.in-Some-get_mut.ensures.variant.0 refl)
    c.in-Some-get_mut.ensures.value in
    let closed : c.can_open.result ≡ false = search rules in
    pair-still (unmoved v refl) (peer-still pv) (
      rests t.0 (Read x c.args.channel.now) (both-false (is_asked ((w.links x).session.subs c.args.channel.now))
          (can_open c.args.channel.now w.broker) (sym (c.can_open.ensures cfg.namespaces w.broker t.0.broker)
          ∙ closed)),
      t.1,
    )

pub returns : goal.returns
returns c = λ cfg past t.
    let w : World = run cfg start past in
    let k : Peer = c.in-Some.peer.now in
    let x : List ℕ = c.args.name.now in
    let old = c.args.self.now.clients in
    let f : Session = c.step.new.session in
    let last : Peer = record k { session = f } in
    let new = c.get_mut.follows.lender last in
    let at : get_by_text old x ≡ Some k = search rules in
    let some : IsSome (get_by_text old x) = search rules in
    let s : SessionAddress = c.in-Some-address.address in
    let sits : k.address ≡ Some s = search rules in
    let pv : PeerMoves x k last (get_by_text old) (get_by_text new) =
    record {
      was = at;
      now = sets-peer (get_by_text old) (get_by_text new) x (Some last)
          (btree_map_updates_text x old new (Some last) ((c.get_mut.follows.holds last).3 some));
    } in
    let h : Node = c.in-Some-get_mut.hub.now in
    let g : Node = c.step.new.hub in
    let v = lends c.args.self.now.hubs s.node h g (c.in-Some-get_mut.ensures.variant.0 refl)
    c.in-Some-get_mut.ensures.value in
    let opens : c.can_open.result ≡ true = search rules in
    let a : UnreadSubscription = c.in-Some-unread_subscription._asked in
    let asked : asked_of (sub_at h s.session c.args.channel.now) ≡ Some a =
    sym c.unread_subscription.ensures ∙ c.in-Some-unread_subscription.is in
    read-done t.0 t.1 x c.args.channel.now s f a c.step.new.broker v pv sits asked
    (sym (c.can_open.ensures cfg.namespaces w.broker t.0.broker) ∙ opens) c.in_ok-step.ensures
    (c.epochs_are_fresh.ensures cfg past) c.what_is_said_stays.ensures.grows c.what_is_said_stays.ensures.read
    c.calls_are_alike.ensures c.moves_are_alike.ensures
