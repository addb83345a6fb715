-- The loop goes from session to session of the channel, and keeps that those behind it are settled (`IsSettling`).
use Rattle.std.proofs.Common.{◌≡◌, ◌<◌, ℕ, Option, Some, None, subst, sym, rules}
use Rattle.cf_subscribers.specs.Follows.{after_in, sessions_of}
use Rattle.cf_hub.specs.Hub.{attached_in}
use Rattle.cf_hub.proofs.Ending.{IsSettling, begins_settling, comes_nearer, ends_settling, from_on, settles}
use Rattle.cf_hub.proofs.deliveries.settle_all.Goals as goal

pub loop-next-init : goal.loop-next-init
loop-next-init c =
    subst (λ (next : Option ℕ). IsSettling c.args.channel.now (attached_in c.args.sessions.now) c.args.rows.now next)
    (sym c.first-next.ensures.first)
    (begins_settling c.args.channel.now (attached_in c.args.sessions.now) c.args.rows.now c.first-next.ensures.rows
    c.requires)

pub loop-next-smaller : goal.loop-next-smaller
loop-next-smaller c =
    let way : IsSettling c.args.channel.now (attached_in c.args.sessions.now) c.loop-next.rows
    (Some c.in-Some.session) =
    subst (λ (next : Option ℕ). IsSettling c.args.channel.now (attached_in c.args.sessions.now) c.loop-next.rows next)
    c.in-Some.is c.loop-next.invariant in
    subst (λ (next : Option ℕ). from_on next (sessions_of c.settle.new.rows c.args.channel.now)
    < from_on c.loop-next.next (sessions_of c.loop-next.rows c.args.channel.now)) (sym c.after-next.ensures.next)
    (subst (λ (last : Option ℕ). from_on (after_in c.in-Some.session (sessions_of c.loop-next.rows c.args.channel.now))
    (sessions_of c.settle.new.rows c.args.channel.now)
    < from_on last (sessions_of c.loop-next.rows c.args.channel.now)) (sym c.in-Some.is)
    (comes_nearer c.args.channel.now (attached_in c.args.sessions.now) c.loop-next.rows c.in-Some.session
    c.fate_now.result c.fate_now.ensures way c.settle.new.rows c.settle.ensures))

pub loop-next-preserved : goal.loop-next-preserved
loop-next-preserved c =
    let way : IsSettling c.args.channel.now (attached_in c.args.sessions.now) c.loop-next.rows
    (Some c.in-Some.session) =
    subst (λ (next : Option ℕ). IsSettling c.args.channel.now (attached_in c.args.sessions.now) c.loop-next.rows next)
    c.in-Some.is c.loop-next.invariant in
    subst (λ (next : Option ℕ). IsSettling c.args.channel.now (attached_in c.args.sessions.now) c.settle.new.rows next)
    (sym c.after-next.ensures.next)
    (settles c.args.channel.now (attached_in c.args.sessions.now) c.loop-next.rows c.in-Some.session c.fate_now.result
    c.fate_now.ensures way c.settle.new.rows c.settle.ensures)

pub returns : goal.returns
returns c =
    let none_left : c.loop-next.next ≡ None = search rules in
    ends_settling c.args.channel.now (attached_in c.args.sessions.now) c.loop-next.rows
    (subst (λ (next : Option ℕ). IsSettling c.args.channel.now (attached_in c.args.sessions.now) c.loop-next.rows next)
    none_left c.loop-next.invariant)
