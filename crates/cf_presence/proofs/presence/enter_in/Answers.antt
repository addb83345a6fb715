-- By whether the channel had clients: those are set in the map as `enter` leaves them, or a first one is put there.
use Rattle.std.proofs.Common.{Some, rules, refl, sym, subst}
use Rattle.std.proofs.lemmas.Map.Text.{btree_map_updates_text}
use Rattle.std.proofs.lemmas.Result.{on_ok_weaker, on_err_weaker}
use Rattle.cf_presence.specs.Presence.{Clients}
use Rattle.cf_presence.specs.Maps.{SetsAt}
use Rattle.cf_presence.proofs.Rooms.{nobody_there, set_same}
use Rattle.cf_presence.proofs.presence.enter_in.Goals as goal

-- ---- a channel that had clients

sets : (c : goal.After-map-in-Some-1) → SetsAt c.args.map.now (c.get_mut.follows.lender c.enter.new.self)
    c.args.channel.now (Some c.enter.new.self)
sets c = btree_map_updates_text c.args.channel.now c.args.map.now (c.get_mut.follows.lender c.enter.new.self)
    _ ((c.get_mut.follows.holds c.enter.new.self).3 (search rules))

pub returns-in-Some-clause-ok : goal.returns-in-Some-clause-ok
returns-in-Some-clause-ok c =
    rw (← c.in-Some.ensures.value)
    (on_ok_weaker c.enter.result (λ is. subst (λ (r : Clients). SetsAt c.args.map.now
    (c.get_mut.follows.lender c.enter.new.self) c.args.channel.now (Some r)) is (sets c)) c.enter.ensures.ok)

pub returns-in-Some-clause-err : goal.returns-in-Some-clause-err
returns-in-Some-clause-err c =
    on_err_weaker c.enter.result (λ same. set_same c.args.map.now (c.get_mut.follows.lender c.enter.new.self)
    c.args.channel.now c.in-Some.clients.now c.enter.new.self (sym c.in-Some.ensures.value) (sets c) same)
    c.enter.ensures.err

pub returns-in-Some-clause-again : goal.returns-in-Some-clause-again
returns-in-Some-clause-again c = rw (← c.in-Some.ensures.value) c.enter.ensures.again

-- ---- a channel that had none

pub returns-in_err-enter-in-None-clause-again : goal.returns-in_err-enter-in-None-clause-again
returns-in_err-enter-in-None-clause-again c =
    λ h. absurd (nobody_there _ c.args.client.now c.args.user.now (sym c.in-None.ensures.value) h)

pub returns-in_err-put-in-None-clause-again : goal.returns-in_err-put-in-None-clause-again
returns-in_err-put-in-None-clause-again c =
    λ h. absurd (nobody_there _ c.args.client.now c.args.user.now (sym c.in-None.ensures.value) h)

pub returns-in_ok-put-in-None-clause-again : goal.returns-in_ok-put-in-None-clause-again
returns-in_ok-put-in-None-clause-again c = λ h. refl

pub returns-in_ok-put-in-None-clause-ok : goal.returns-in_ok-put-in-None-clause-ok
returns-in_ok-put-in-None-clause-ok c =
    rw (
      ← c.in-None.ensures.value,
      ← c.get_mut.follows.holds-at-none,
      ← c.new-clients.ensures,
      ← c.in_ok-enter-in-None.ensures.ok,
    ) c.in_ok-put-in-None.ensures.sets
