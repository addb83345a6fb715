-- By whether the client is there, has an address and a hub, and has read: in each case the machine's step is the one
-- taken.
use Rattle.std.proofs.Common.{rules, ◌≡◌, ◌∙◌, ℕ, List, true, false, Option, Some, None, IsSome, option_and_then, refl}
use Rattle.std.proofs.Common.{sym, ap}
use Rattle.std.proofs.lemmas.Map.Text.{btree_map_updates_text}
use Rattle.std.specs.BTreeMap.{get_by_text}
use Rattle.cf_hub.specs.Hub.{Node, sub_at}
use Rattle.cf_model.specs.Sessions.{is_ready}
use Rattle.cf_session.specs.declared.session.Session.{Session}
use Rattle.cf_world.specs.Sending.{PeerMoves}
use Rattle.cf_world.specs.declared.clients.Peer.{Peer}
use Rattle.cf_world.specs.declared.clients.SessionAddress.{SessionAddress}
use Rattle.cf_world.proofs.AtHubs.{unmoved}
use Rattle.cf_world.proofs.Changed.{lends, none-there}
use Rattle.cf_world.proofs.Named.{sets-peer}
use Rattle.cf_world.proofs.Served.{finish-away}
use Rattle.cf_world.proofs.ServedStill.{pair-still, peer-still}
use Rattle.cf_world.proofs.SessionReads.{finish-done, unread-rests}
use Rattle.cf_world.proofs.Sitting.{hub_there, address_here}
use Rattle.cf_world.proofs.world.WorldParts.finish.Goals as goal

pub returns-in_default : goal.returns-in_default
returns-in_default c = λ cfg past t.
    let x : List ℕ = c.args.name.now in
    let none : get_by_text c.args.self.now.clients x ≡ None = search rules in
    pair-still (λ j. refl) (λ y. ap (λ m. get_by_text m y) c.get_mut.follows.holds-at-none) (
      finish-away t.0 x c.args.channel.now (ap (λ (o : Option Peer). option_and_then (λ (p : Peer). p.address) o) none),
      t.1,
    )

pub returns-in_default-address : goal.returns-in_default-address
returns-in_default-address c = λ cfg past t.
    let k : Peer = c.in-Some.peer.now in
    let x : List ℕ = c.args.name.now in
    let old = c.args.self.now.clients in
    let new = c.get_mut.follows.lender k in
    let at : get_by_text old x ≡ Some k = search rules in
    let some : IsSome (get_by_text old x) = search rules in
    let pv : PeerMoves x k k (get_by_text old) (get_by_text new) =
    record {
      was = at;
      now = sets-peer (get_by_text old) (get_by_text new) x (Some k)
          (btree_map_updates_text x old new (Some k) ((c.get_mut.follows.holds k).3 some));
    } in
    pair-still (λ j. refl) (peer-still pv) (
      finish-away t.0 x c.args.channel.now
          (address_here (get_by_text old) x k at ∙ c.in_default-address.is),
      t.1,
    )

pub returns-in_default-get_mut : goal.returns-in_default-get_mut
returns-in_default-get_mut c = λ cfg past t.
    let k : Peer = c.in-Some.peer.now in
    let x : List ℕ = c.args.name.now in
    let old = c.args.self.now.clients in
    let at : get_by_text old x ≡ Some k = search rules in
    let s : SessionAddress = c.in-Some-address.address in
    let sits : k.address ≡ Some s = search rules in
    let there = hub_there t.0 x s (address_here (get_by_text old) x k at ∙ sits) in
    let none = none-there c.args.self.now.hubs s.node c.in_default-get_mut.ensures.variant.1 in
    absurd (cc)

pub returns-then-not-is_read : goal.returns-then-not-is_read
returns-then-not-is_read c = λ cfg past t.
    let k : Peer = c.in-Some.peer.now in
    let x : List ℕ = c.args.name.now in
    let old = c.args.self.now.clients in
    let new = c.get_mut.follows.lender k in
    let at : get_by_text old x ≡ Some k = search rules in
    let some : IsSome (get_by_text old x) = search rules in
    let s : SessionAddress = c.in-Some-address.address in
    let sits : k.address ≡ Some s = search rules in
    let pv : PeerMoves x k k (get_by_text old) (get_by_text new) =
    record {
      was = at;
      now = sets-peer (get_by_text old) (get_by_text new) x (Some k)
          (btree_map_updates_text x old new (Some k) ((c.get_mut.follows.holds k).3 some));
    } in
    let h : Node = c.in-Some-get_mut.hub.now in
    let v = lends c.args.self.now.hubs s.node h h (c.in-Some-get_mut.ensures.variant.0 refl)
    c.in-Some-get_mut.ensures.value in
    let no' : is_ready (sub_at h s.session c.args.channel.now) ≡ false = sym c.is_read.ensures ∙ search rules in
    pair-still (unmoved v refl) (peer-still pv) (
      unread-rests t.0 x c.args.channel.now s (record { was = v.was; now = v.was; others = λ j ne. refl })
          (address_here (get_by_text old) x k at ∙ sits) no',
      t.1,
    )

pub returns : goal.returns
returns c = λ cfg past t.
    let k : Peer = c.in-Some.peer.now in
    let x : List ℕ = c.args.name.now in
    let old = c.args.self.now.clients in
    let f : Session = c.step-2.new.session in
    let last : Peer = record k { session = f } in
    let new = c.get_mut.follows.lender last in
    let at : get_by_text old x ≡ Some k = search rules in
    let some : IsSome (get_by_text old x) = search rules in
    let s : SessionAddress = c.in-Some-address.address in
    let sits : k.address ≡ Some s = search rules in
    let pv : PeerMoves x k last (get_by_text old) (get_by_text new) =
    record {
      was = at;
      now = sets-peer (get_by_text old) (get_by_text new) x (Some last)
          (btree_map_updates_text x old new (Some last) ((c.get_mut.follows.holds last).3 some));
    } in
    let h : Node = c.in-Some-get_mut.hub.now in
    let g : Node = c.step-2.new.hub in
    let v = lends c.args.self.now.hubs s.node h g (c.in-Some-get_mut.ensures.variant.0 refl)
    c.in-Some-get_mut.ensures.value in
    let ready : is_ready (sub_at h s.session c.args.channel.now) ≡ true = sym c.is_read.ensures ∙ search rules in
    finish-done t.0 t.1 x c.args.channel.now s c.step.new.session f c.step.new.broker c.step-2.new.broker c.step.new.hub
    v pv sits ready c.in_ok-step.ensures c.in_ok-step-2.ensures
    c.calls_are_alike.ensures
