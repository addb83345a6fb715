-- By whether the client is there, has an address and a hub, sends something, and is open and idle then: the machine's
-- step
-- in each
-- case.
use Rattle.std.proofs.Common.{rules, ◌≡◌, ◌∙◌, ℕ, List, Bool, true, false, not, Option, Some, None, option_and_then}
use Rattle.std.proofs.Common.{IsSome, refl, sym, ap, slice_get, subst}
use Rattle.std.proofs.lemmas.Map.Text.{btree_map_updates_text}
use Rattle.std.proofs.lemmas.Result.{on_ok_weaker}
use Rattle.std.specs.BTreeMap.{get_by_text}
use Rattle.std.specs.String.{string_bytes}
use Rattle.cf_hub.specs.Hub.{Node, attached_at, is_open}
use Rattle.cf_session.specs.Standing.{is_idle}
use Rattle.cf_session.specs.declared.session.Session.{Session}
use Rattle.cf_machine.specs.IntervalMachine.{run}
use Rattle.cf_machine.specs.World.{World, start}
use Rattle.cf_world.specs.Sending.{HasSent, PeerMoves, Sends}
use Rattle.cf_world.specs.Serving.{Plays}
use Rattle.cf_world.specs.declared.clients.Peer.{Peer}
use Rattle.cf_world.specs.declared.clients.SessionAddress.{SessionAddress}
use Rattle.cf_world.proofs.AtHubs.{unmoved}
use Rattle.cf_world.proofs.Changed.{lends, none-there}
use Rattle.cf_world.proofs.Named.{sets-peer}
use Rattle.cf_world.proofs.Sends.{no_address}
use Rattle.cf_world.proofs.ServedStill.{pair-still, peer-still, served-looked}
use Rattle.cf_world.proofs.Sitting.{hub_there, address_here}
use Rattle.cf_world.proofs.TextDone.{it-rests, text-done, text-unheard}
use Rattle.cf_world.proofs.world.WorldParts.serve.Goals as goal

pub returns-in_default : goal.returns-in_default
returns-in_default c = λ back cfg past t.
    let x : List ℕ = c.args.name.now in
    let old = c.args.self.now.clients in
    let none : get_by_text old x ≡ None = search rules in
    pair-still (λ j. refl) (λ y. ap (λ m. get_by_text m y) c.get_mut.follows.holds-at-none) (
      no_address t.0 x c.args.command.now (ap (λ (o : Option Peer). option_and_then (λ (p : Peer). p.address) o) none),
      t.1,
    )

pub returns-in_default-address : goal.returns-in_default-address
returns-in_default-address c = λ back cfg past t.
    let k : Peer = c.in-Some.peer.now in
    let x : List ℕ = c.args.name.now in
    let old = c.args.self.now.clients in
    let new = c.get_mut.follows.lender k in
    let at : get_by_text old x ≡ Some k = search rules in
    let some : IsSome (get_by_text old x) = search rules in
    let pv : PeerMoves x k k (get_by_text old) (get_by_text new) =
    record {
      was = at;
      now = sets-peer (get_by_text old) (get_by_text new) x (Some k)
          (btree_map_updates_text x old new (Some k) ((c.get_mut.follows.holds k).3 some));
    } in
    pair-still (λ j. refl) (peer-still pv) (
      no_address t.0 x c.args.command.now
          (address_here (get_by_text old) x k at ∙ c.in_default-address.is),
      t.1,
    )

pub returns-in_default-get_mut : goal.returns-in_default-get_mut
returns-in_default-get_mut c = λ back cfg past t.
    let k : Peer = c.in-Some.peer.now in
    let x : List ℕ = c.args.name.now in
    let old = c.args.self.now.clients in
    let at : get_by_text old x ≡ Some k = search rules in
    let s : SessionAddress = c.in-Some-address.address in
    let sits : k.address ≡ Some s = search rules in
    let there = hub_there t.0 x s (address_here (get_by_text old) x k at ∙ sits) in
    let none = none-there c.args.self.now.hubs s.node c.in_default-get_mut.ensures.variant.1 in
    absurd (cc)

pub returns-in_default-sent : goal.returns-in_default-sent
returns-in_default-sent c = λ back cfg past t.
    let w : World = run cfg start past in
    let k : Peer = c.in-Some.peer.now in
    let x : List ℕ = c.args.name.now in
    let old = c.args.self.now.clients in
    let at : get_by_text old x ≡ Some k = search rules in
    let some : IsSome (get_by_text old x) = search rules in
    let s : SessionAddress = c.in-Some-address.address in
    let sits : k.address ≡ Some s = search rules in
    let q : Peer = c.send.new.peer in
    let new = c.get_mut.follows.lender q in
    let pv : PeerMoves x k q (get_by_text old) (get_by_text new) =
    record {
      was = at;
      now = sets-peer (get_by_text old) (get_by_text new) x (Some q)
          (btree_map_updates_text x old new (Some q) ((c.get_mut.follows.holds q).3 some));
    } in
    let h : Node = c.in-Some-get_mut.hub.now in
    let v = lends c.args.self.now.hubs s.node h h (c.in-Some-get_mut.ensures.variant.0 refl)
    c.in-Some-get_mut.ensures.value in
    let sent : Sends c.args.self.now.namespaces.now c.args.self.now.broker h s.session c.args.command.now k q None =
    subst (Sends c.args.self.now.namespaces.now c.args.self.now.broker h s.session c.args.command.now k q)
    c.in_default-sent.is c.in_ok-sent.ensures.sends in
    pair-still (unmoved v refl) (λ y. refl) (
      sent cfg w x s.node (slice_get c.args.self.now.hubs.items)
          (get_by_text old) (get_by_text new) v.was pv sits t.0,
      served-looked cfg.namespaces (slice_get c.args.self.now.hubs.items) t.1 pv c.send.ensures.address
          c.send.ensures.session,
    )

pub returns-then-is_closed : goal.returns-then-is_closed
returns-then-is_closed c = λ back cfg past t.
    let w : World = run cfg start past in
    let k : Peer = c.in-Some.peer.now in
    let x : List ℕ = c.args.name.now in
    let old = c.args.self.now.clients in
    let at : get_by_text old x ≡ Some k = search rules in
    let some : IsSome (get_by_text old x) = search rules in
    let s : SessionAddress = c.in-Some-address.address in
    let sits : k.address ≡ Some s = search rules in
    let q : Peer = c.send.new.peer in
    let new = c.get_mut.follows.lender q in
    let pv : PeerMoves x k q (get_by_text old) (get_by_text new) =
    record {
      was = at;
      now = sets-peer (get_by_text old) (get_by_text new) x (Some q)
          (btree_map_updates_text x old new (Some q) ((c.get_mut.follows.holds q).3 some));
    } in
    let h : Node = c.in-Some-get_mut.hub.now in
    let v = lends c.args.self.now.hubs s.node h h (c.in-Some-get_mut.ensures.variant.0 refl)
    c.in-Some-get_mut.ensures.value in
    let sent : HasSent c.args.self.now.namespaces.now c.args.self.now.broker h s.session c.args.command.now k q
    (string_bytes c.in-Some-sent.text) =
    subst (Sends c.args.self.now.namespaces.now c.args.self.now.broker h s.session c.args.command.now k q)
    c.in-Some-sent.is c.in_ok-sent.ensures.sends in
    pair-still (unmoved v refl) (λ y. refl)
    (text-unheard t.0 t.1 x c.args.command.now s (string_bytes c.in-Some-sent.text) v.was pv sits sent
    c.commands_read_back.ensures.read c.commands_read_back.ensures.alone
    c.what_is_said_stays.ensures.grows c.calls_are_alike.ensures c.moves_are_alike.ensures back
    (not-true (is_open (attached_at h s.session)) (sym c.is_closed.ensures ∙ c.if-is_closed.true)))
  where
    not-true : (b : Bool) → not b ≡ true → b ≡ false
    not-true true h = absurd (cc (h))
    not-true false h = refl

not-false : (b : Bool) → not b ≡ false → b ≡ true
not-false true h = refl
not-false false h = absurd (cc (h))

pub returns-then-not-is_idle : goal.returns-then-not-is_idle
returns-then-not-is_idle c = λ back cfg past t.
    let w : World = run cfg start past in
    let k : Peer = c.in-Some.peer.now in
    let x : List ℕ = c.args.name.now in
    let old = c.args.self.now.clients in
    let at : get_by_text old x ≡ Some k = search rules in
    let some : IsSome (get_by_text old x) = search rules in
    let s : SessionAddress = c.in-Some-address.address in
    let sits : k.address ≡ Some s = search rules in
    let q : Peer = c.send.new.peer in
    let new = c.get_mut.follows.lender q in
    let pv : PeerMoves x k q (get_by_text old) (get_by_text new) =
    record {
      was = at;
      now = sets-peer (get_by_text old) (get_by_text new) x (Some q)
          (btree_map_updates_text x old new (Some q) ((c.get_mut.follows.holds q).3 some));
    } in
    let h : Node = c.in-Some-get_mut.hub.now in
    let v = lends c.args.self.now.hubs s.node h h (c.in-Some-get_mut.ensures.variant.0 refl)
    c.in-Some-get_mut.ensures.value in
    let sent : HasSent c.args.self.now.namespaces.now c.args.self.now.broker h s.session c.args.command.now k q
    (string_bytes c.in-Some-sent.text) =
    subst (Sends c.args.self.now.namespaces.now c.args.self.now.broker h s.session c.args.command.now k q)
    c.in-Some-sent.is c.in_ok-sent.ensures.sends in
    let up : is_open (attached_at h s.session) ≡ true =
    not-false (is_open (attached_at h s.session)) (sym c.is_closed.ensures ∙ c.if-is_closed.false) in
    let rests = it-rests t.0 t.1 x c.args.command.now s q.session (string_bytes c.in-Some-sent.text) v pv sits sent
    c.commands_read_back.ensures.read c.commands_read_back.ensures.alone
    c.what_is_said_stays.ensures.grows c.calls_are_alike.ensures c.moves_are_alike.ensures back up in
    let idle : is_idle q.session ≡ true = ap is_idle sent.session ∙ rests.idle in
    absurd (cc (c.is_idle.ensures, c.if-not-is_idle.true, idle))

pub returns : goal.returns
returns c = on_ok_weaker c.serve_text.result (λ did. λ back cfg past t.
    let w : World = run cfg start past in
    let k : Peer = c.in-Some.peer.now in
    let x : List ℕ = c.args.name.now in
    let old = c.args.self.now.clients in
    let at : get_by_text old x ≡ Some k = search rules in
    let some : IsSome (get_by_text old x) = search rules in
    let s : SessionAddress = c.in-Some-address.address in
    let sits : k.address ≡ Some s = search rules in
    let q : Peer = c.send.new.peer in
    let f : Session = c.serve_text.new.session in
    let last : Peer = record q { session = f } in
    let new = c.get_mut.follows.lender last in
    let pv : PeerMoves x k last (get_by_text old) (get_by_text new) =
    record {
      was = at;
      now = sets-peer (get_by_text old) (get_by_text new) x (Some last)
          (btree_map_updates_text x old new (Some last) ((c.get_mut.follows.holds last).3 some));
    } in
    let h : Node = c.in-Some-get_mut.hub.now in
    let g : Node = c.serve_text.new.hub in
    let v = lends c.args.self.now.hubs s.node h g (c.in-Some-get_mut.ensures.variant.0 refl)
    c.in-Some-get_mut.ensures.value in
    let sent : HasSent c.args.self.now.namespaces.now c.args.self.now.broker h s.session c.args.command.now k q
    (string_bytes c.in-Some-sent.text) =
    subst (Sends c.args.self.now.namespaces.now c.args.self.now.broker h s.session c.args.command.now k q)
    c.in-Some-sent.is c.in_ok-sent.ensures.sends in
    let up : is_open (attached_at h s.session) ≡ true =
    not-false (is_open (attached_at h s.session)) (sym c.is_closed.ensures ∙ c.if-is_closed.false) in
    let plays : Plays s.session k.session f (string_bytes c.in-Some-sent.text) c.args.self.now.broker
    c.serve_text.new.broker h g =
    subst (λ (ts : List ℕ). Plays s.session k.session f ts c.args.self.now.broker c.serve_text.new.broker h g)
    c.as_str.ensures.value
    (subst (λ (z : Session). Plays s.session z f c.as_str.result.now c.args.self.now.broker c.serve_text.new.broker h g)
    sent.session did) in
    text-done t.0 t.1 x c.args.command.now s f (string_bytes c.in-Some-sent.text) v pv sits sent
    c.commands_read_back.ensures.read c.commands_read_back.ensures.alone
    c.what_is_said_stays.ensures.grows c.calls_are_alike.ensures c.moves_are_alike.ensures back up
    c.serve_text.new.broker
    c.rows_are_counted.ensures.session c.rows_are_counted.ensures.all (c.epochs_are_fresh.ensures cfg past)
    c.what_is_said_stays.ensures.read plays)
    c.serve_text.ensures
