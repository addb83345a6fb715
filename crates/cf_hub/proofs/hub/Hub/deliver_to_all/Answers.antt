-- The loop keeps that the sessions passed were served, each once, and the others are as they were (`IsOnItsWay`). At
-- its end each clause is read off that, and rows and sessions agree: nothing ended, or `settle_all` made them agree.
use Rattle.std.proofs.Common.{rules, ◌≡◌, ◌≤◌, ◌∙◌, ◌+◌, ℕ, List, [], ◌∷◌, ◌++◌, Option, arith, refl, subst, sym, ap}
use Rattle.std.proofs.Common.{option_map}
use Rattle.std.specs.BTreeMap.{is_at}
use Rattle.std.specs.Map.{lookup}
use Rattle.std.specs.Ordering.{nat_cmp}
use Rattle.cf_subscribers.specs.Follows.{AreFollows, sessions_of}
use Rattle.cf_hub.specs.declared.delivered.Delivered.{Delivered}
use Rattle.cf_hub.specs.Hub.{AreNumbered, Node, attached_at, attached_in}
use Rattle.cf_model.specs.Streams.{largest}
use Rattle.cf_hub.specs.Places.{numbered}
use Rattle.cf_hub.specs.Rows.{AgreedBefore, Agrees}
use Rattle.cf_hub.specs.Session.{Attached, attached_shown, shown_all}
use Rattle.cf_hub.proofs.DeliveryOutcomes.{IsOnItsWay, starts, steps, goes_on, ends_before, ends_counted, ends_numbered}
use Rattle.cf_hub.proofs.DeliveryOutcomes.{ends_served, ends_so_many, ends_turns}
use Rattle.cf_hub.proofs.Hubs.{agrees_shown, agrees_view, seen, seen_in}
use Rattle.cf_hub.proofs.hub.Hub.deliver_to_all.Goals as goal
use Rattle.cf_hub.proofs.hub.Hub.deliver_to_all.Goals.{In-None, In-Some}

pub loop-session-init : goal.loop-session-init
loop-session-init c =
    let was : attached_at c.args.self.now ≡ attached_in c.self.inside.sessions =
    seen c.args.self.now c.self.inside.sessions (ap (λ (h : Node). h.sessions) (sym c.self.view_is)) in
    let small : c.self.inside.refused ≤ largest = search rules in
    let agrees : Agrees (attached_in c.self.inside.sessions) c.args.self.now.rows =
    subst (λ (h : Node). Agrees (attached_in c.self.inside.sessions) h.rows) c.self.view_is c.self.invariant.0 in
    let begins =
    starts c.args.publication.now c.args.channel.now c.args.epoch.now c.args.self.now
    (attached_in c.self.inside.sessions) c.self.inside.refused c.self.inside.pending was
    (ap (λ (h : Node). h.refused) c.self.view_is) (ap (λ (h : Node). h.turns) c.self.view_is) agrees small in
    let all : sessions_of c.args.self.now.rows c.args.channel.now ≡ c.into_iter-session-iterator.result =
    ap (λ (h : Node). sessions_of h.rows c.args.channel.now) (sym c.self.view_is)
    ∙ sym c.walk-session-items.ensures.sessions ∙ sym c.into_iter-session-iterator.ensures.into_iter_gives in
    subst (λ (todo : List ℕ). IsOnItsWay c.args.publication.now c.args.channel.now c.args.epoch.now c.args.self.now
    (attached_in c.self.inside.sessions) c.self.inside.refused c.self.inside.pending c.none-counts.result [] todo)
    all
    (subst (λ (counts : Delivered). IsOnItsWay c.args.publication.now c.args.channel.now c.args.epoch.now
    c.args.self.now (attached_in c.self.inside.sessions) c.self.inside.refused c.self.inside.pending counts []
    (sessions_of c.args.self.now.rows c.args.channel.now)) (sym c.none-counts.ensures) begins)

-- one more is to be met
on_its_way : (c : In-Some) → IsOnItsWay c.args.publication.now c.args.channel.now c.args.epoch.now c.args.self.now
    (attached_in c.loop-session.self-inside.1.1.1.1.0) c.loop-session.self-inside.1.1.1.1.1.1.1.0
    c.loop-session.self-inside.1.1.1.1.1.1.1.1.0 c.loop-session.counts c.loop-session.yielded
    (c.in-Some.session ∷ c.next.new.self)
on_its_way c =
    subst (λ (todo : List ℕ). IsOnItsWay c.args.publication.now c.args.channel.now c.args.epoch.now c.args.self.now
    (attached_in c.loop-session.self-inside.1.1.1.1.0) c.loop-session.self-inside.1.1.1.1.1.1.1.0
    c.loop-session.self-inside.1.1.1.1.1.1.1.1.0 c.loop-session.counts c.loop-session.yielded todo)
    c.in-Some.ensures.steps c.loop-session.invariant

are_rows : (c : In-Some) → AreFollows c.args.self.now.rows
are_rows c = subst (λ (h : Node). AreFollows h.rows) c.self.view_is c.walk-session-items.ensures.rows

pub and-counts-requires : goal.and-counts-requires
and-counts-requires c =
    let i = (goal.at.and-counts-requires c).In-Some in
    goes_on c.args.publication.now c.args.channel.now c.args.epoch.now c.args.self.now
    (attached_in c.loop-session.self-inside.1.1.1.1.0) c.loop-session.self-inside.1.1.1.1.1.1.1.0
    c.loop-session.self-inside.1.1.1.1.1.1.1.1.0 c.loop-session.counts c.loop-session.yielded c.in-Some.session
    c.next.new.self (are_rows i) (on_its_way i)

pub loop-session-preserved : goal.loop-session-preserved
loop-session-preserved c =
    let i = (goal.at.loop-session-preserved c).In-Some in
    subst (λ (counts : Delivered). IsOnItsWay c.args.publication.now c.args.channel.now c.args.epoch.now c.args.self.now
    (attached_in c.deliver_one-step.new.sessions) c.count_more-self-inside.result c.add.new.self counts
    (c.loop-session.yielded ++ c.in-Some.session ∷ []) c.next.new.self) (sym c.and-counts.ensures)
    (steps c.args.publication.now c.args.channel.now c.args.epoch.now c.args.self.now
    (attached_in c.loop-session.self-inside.1.1.1.1.0) (attached_in c.deliver_one-step.new.sessions)
    c.in-Some.session c.deliver_one-step.result.refused c.deliver_one-step.result.fate
    c.deliver_one-step.ensures.here c.deliver_one-step.ensures.others c.deliver_one-step.ensures.fate
    c.loop-session.counts c.loop-session.yielded c.next.new.self (are_rows i) (on_its_way i)
    c.count_more-self-inside.ensures c.add.ensures)

-- all were met
at_its_end : (c : In-None) → IsOnItsWay c.args.publication.now c.args.channel.now c.args.epoch.now c.args.self.now
    (attached_in c.loop-session.self-inside.1.1.1.1.0) c.loop-session.self-inside.1.1.1.1.1.1.1.0
    c.loop-session.self-inside.1.1.1.1.1.1.1.1.0 c.loop-session.counts c.loop-session.yielded []
at_its_end c =
    subst (λ (todo : List ℕ). IsOnItsWay c.args.publication.now c.args.channel.now c.args.epoch.now c.args.self.now
    (attached_in c.loop-session.self-inside.1.1.1.1.0) c.loop-session.self-inside.1.1.1.1.1.1.1.0
    c.loop-session.self-inside.1.1.1.1.1.1.1.1.0 c.loop-session.counts c.loop-session.yielded todo)
    c.in-None.ensures.steps.0 c.loop-session.invariant

agreed : (c : In-None) → Agrees (attached_at c.args.self.now) c.args.self.now.rows
agreed c = agrees_view _ _ c.self.inside.sessions c.self.view_is refl c.self.invariant.0

are_numbered : (c : In-None) → AreNumbered c.self.inside.free_from (attached_in c.loop-session.self-inside.1.1.1.1.0)
are_numbered c =
    let was : attached_at c.args.self.now ≡ attached_in c.self.inside.sessions =
    seen c.args.self.now c.self.inside.sessions (ap (λ (h : Node). h.sessions) (sym c.self.view_is)) in
    ends_numbered c.args.publication.now c.args.channel.now c.args.epoch.now c.args.self.now
    (attached_in c.loop-session.self-inside.1.1.1.1.0) c.loop-session.self-inside.1.1.1.1.1.1.1.0
    c.loop-session.self-inside.1.1.1.1.1.1.1.1.0 c.loop-session.counts c.loop-session.yielded (agreed c)
    (at_its_end c) c.self.inside.free_from
    (subst (λ (g : ℕ → Option Attached). AreNumbered c.self.inside.free_from g) (sym was) c.self.invariant.1)

quiet : (c : In-None) → c.loop-session.counts.ended + c.loop-session.counts.closed ≡ 0
    → Agrees (attached_in c.loop-session.self-inside.1.1.1.1.0) c.self.inside.rows
quiet c none =
    subst (λ (h : Node). Agrees (attached_in c.loop-session.self-inside.1.1.1.1.0) h.rows) (sym c.self.view_is)
    ((at_its_end c).quiet none)

pub invariant_of-self : goal.invariant_of-self
invariant_of-self c =
    let i = (goal.at.invariant_of-self c).In-None in let a = c.if-counts-gt0.false in let b = c.if-counts-gt0-2.false in
    let none : c.loop-session.counts.ended + c.loop-session.counts.closed ≡ 0 = omega (arith, a, b) in
    (quiet i none, are_numbered i)

pub settle_all-requires : goal.settle_all-requires
settle_all-requires c =
    let i = (goal.at.settle_all-requires c).In-None in
    subst (λ (h : Node). AgreedBefore c.args.channel.now (attached_in c.loop-session.self-inside.1.1.1.1.0) h.rows)
    (sym c.self.view_is)
    (ends_before c.args.publication.now c.args.channel.now c.args.epoch.now c.args.self.now
    (attached_in c.loop-session.self-inside.1.1.1.1.0) c.loop-session.self-inside.1.1.1.1.1.1.1.0
    c.loop-session.self-inside.1.1.1.1.1.1.1.1.0 c.loop-session.counts c.loop-session.yielded (agreed i)
    (at_its_end i))

pub invariant_of-self-then-counts-gt0 : goal.invariant_of-self-then-counts-gt0
invariant_of-self-then-counts-gt0 c =
    (c.settle_all.ensures, are_numbered (goal.at.invariant_of-self-then-counts-gt0 c).In-None)

pub returns-then-counts-gt0-clause-each : goal.returns-then-counts-gt0-clause-each
returns-then-counts-gt0-clause-each c =
    let i = (goal.at.returns-then-counts-gt0-clause-each c).In-None in
    ends_served c.args.publication.now c.args.channel.now c.args.epoch.now c.args.self.now
    (attached_in c.loop-session.self-inside.1.1.1.1.0) c.loop-session.self-inside.1.1.1.1.1.1.1.0
    c.loop-session.self-inside.1.1.1.1.1.1.1.1.0 c.loop-session.counts c.loop-session.yielded (agreed i)
    (at_its_end i) _ (λ j k. seen_in c.loop-session.self-inside.1.1.1.1.0 k j) refl

pub returns-then-counts-gt0-clause-counts : goal.returns-then-counts-gt0-clause-counts
returns-then-counts-gt0-clause-counts c =
    let i = (goal.at.returns-then-counts-gt0-clause-counts c).In-None in
    ends_counted c.args.publication.now c.args.channel.now c.args.epoch.now c.args.self.now
    (attached_in c.loop-session.self-inside.1.1.1.1.0) c.loop-session.self-inside.1.1.1.1.1.1.1.0
    c.loop-session.self-inside.1.1.1.1.1.1.1.1.0 c.loop-session.counts c.loop-session.yielded (agreed i)
    (at_its_end i)
    (λ k. option_map attached_shown (lookup (is_at (nat_cmp k))
    (shown_all (numbered 0 c.loop-session.self-inside.1.1.1.1.0))))
    (λ j k. seen_in c.loop-session.self-inside.1.1.1.1.0 k j)

pub returns-then-counts-gt0-clause-adds_up : goal.returns-then-counts-gt0-clause-adds_up
returns-then-counts-gt0-clause-adds_up c =
    let i = (goal.at.returns-then-counts-gt0-clause-adds_up c).In-None in
    ends_so_many c.args.publication.now c.args.channel.now c.args.epoch.now c.args.self.now
    (attached_in c.loop-session.self-inside.1.1.1.1.0) c.loop-session.self-inside.1.1.1.1.1.1.1.0
    c.loop-session.self-inside.1.1.1.1.1.1.1.1.0 c.loop-session.counts c.loop-session.yielded (agreed i)
    (at_its_end i)

pub returns-then-counts-gt0-clause-turns : goal.returns-then-counts-gt0-clause-turns
returns-then-counts-gt0-clause-turns c =
    let i = (goal.at.returns-then-counts-gt0-clause-turns c).In-None in
    ends_turns c.args.publication.now c.args.channel.now c.args.epoch.now c.args.self.now
    (attached_in c.loop-session.self-inside.1.1.1.1.0) c.loop-session.self-inside.1.1.1.1.1.1.1.0
    c.loop-session.self-inside.1.1.1.1.1.1.1.1.0 c.loop-session.counts c.loop-session.yielded (agreed i)
    (at_its_end i)

pub returns-then-counts-gt0-clause-agrees : goal.returns-then-counts-gt0-clause-agrees
returns-then-counts-gt0-clause-agrees c =
    agrees_shown c.loop-session.self-inside.1.1.1.1.0 c.settle_all.new.rows c.settle_all.ensures

pub returns-else-counts-gt0-2-clause-each : goal.returns-else-counts-gt0-2-clause-each
returns-else-counts-gt0-2-clause-each c =
    let i = (goal.at.returns-else-counts-gt0-2-clause-each c).In-None in
    ends_served c.args.publication.now c.args.channel.now c.args.epoch.now c.args.self.now
    (attached_in c.loop-session.self-inside.1.1.1.1.0) c.loop-session.self-inside.1.1.1.1.1.1.1.0
    c.loop-session.self-inside.1.1.1.1.1.1.1.1.0 c.loop-session.counts c.loop-session.yielded (agreed i)
    (at_its_end i) _ (λ j k. seen_in c.loop-session.self-inside.1.1.1.1.0 k j) refl

pub returns-else-counts-gt0-2-clause-counts : goal.returns-else-counts-gt0-2-clause-counts
returns-else-counts-gt0-2-clause-counts c =
    let i = (goal.at.returns-else-counts-gt0-2-clause-counts c).In-None in
    ends_counted c.args.publication.now c.args.channel.now c.args.epoch.now c.args.self.now
    (attached_in c.loop-session.self-inside.1.1.1.1.0) c.loop-session.self-inside.1.1.1.1.1.1.1.0
    c.loop-session.self-inside.1.1.1.1.1.1.1.1.0 c.loop-session.counts c.loop-session.yielded (agreed i)
    (at_its_end i)
    (λ k. option_map attached_shown (lookup (is_at (nat_cmp k))
    (shown_all (numbered 0 c.loop-session.self-inside.1.1.1.1.0))))
    (λ j k. seen_in c.loop-session.self-inside.1.1.1.1.0 k j)

pub returns-else-counts-gt0-2-clause-adds_up : goal.returns-else-counts-gt0-2-clause-adds_up
returns-else-counts-gt0-2-clause-adds_up c =
    let i = (goal.at.returns-else-counts-gt0-2-clause-adds_up c).In-None in
    ends_so_many c.args.publication.now c.args.channel.now c.args.epoch.now c.args.self.now
    (attached_in c.loop-session.self-inside.1.1.1.1.0) c.loop-session.self-inside.1.1.1.1.1.1.1.0
    c.loop-session.self-inside.1.1.1.1.1.1.1.1.0 c.loop-session.counts c.loop-session.yielded (agreed i)
    (at_its_end i)

pub returns-else-counts-gt0-2-clause-turns : goal.returns-else-counts-gt0-2-clause-turns
returns-else-counts-gt0-2-clause-turns c =
    let i = (goal.at.returns-else-counts-gt0-2-clause-turns c).In-None in
    ends_turns c.args.publication.now c.args.channel.now c.args.epoch.now c.args.self.now
    (attached_in c.loop-session.self-inside.1.1.1.1.0) c.loop-session.self-inside.1.1.1.1.1.1.1.0
    c.loop-session.self-inside.1.1.1.1.1.1.1.1.0 c.loop-session.counts c.loop-session.yielded (agreed i)
    (at_its_end i)

pub returns-else-counts-gt0-2-clause-agrees : goal.returns-else-counts-gt0-2-clause-agrees
returns-else-counts-gt0-2-clause-agrees c =
    let a = c.if-counts-gt0.false in let b = c.if-counts-gt0-2.false in
    let none : c.loop-session.counts.ended + c.loop-session.counts.closed ≡ 0 = omega (arith, a, b) in
    agrees_shown c.loop-session.self-inside.1.1.1.1.0 c.self.inside.rows
    (quiet (goal.at.returns-else-counts-gt0-2-clause-agrees c).In-None none)
