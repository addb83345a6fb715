-- By whether all that was missed is held: if so it is counted from the top, and else there is none.
use Rattle.std.proofs.Common.{ap, ◌≡◌, ◌-◌, ◌≤◌, min, length, map, arith, rules, ◌∙◌, sym}
use Rattle.std.proofs.lemmas.List.{length-map}
use Rattle.cf_protocol.specs.Datum.{Placed}
use Rattle.cf_stream.specs.contracts.stream.Stream.{the_view}
use Rattle.cf_stream.proofs.Giving.{missed_many}
use Rattle.cf_stream.proofs.Placing.{missed_some}
use Rattle.cf_stream.proofs.stream.Stream.missed_since.Goals as goal

pub returns-then-missed-min : goal.returns-then-missed-min
returns-then-missed-min c =
    let at_top = ap (λ i. i.top) c.as_ref-inner.ensures in
    let at_ring = ap (λ i. length i.ring.items) c.as_ref-inner.ensures in
    let same : c.in_ok-since.since.epoch ≡ c.self.inside.inner.value.epoch = search rules in
    let many = length-map c.self.inside.inner.value.ring.items (λ (p : Placed). p.datum) in
    let few : c.self.inside.inner.value.top - c.in_ok-since.since.offset
    ≤ min (length (map (λ (p : Placed). p.datum) c.self.inside.inner.value.ring.items)) 300 =
    omega (arith, c.len.ensures, c.min.ensures, many, at_top, at_ring) in
    rw (← c.self.view_is, at_top) (missed_some (the_view c.self.inside) c.args.since c.in_ok-since.since
    c.in_ok-since.was same (let h = c.if-since-inner.false in rw at_top at h) few)

pub returns-in_err-since : goal.returns-in_err-since
returns-in_err-since c = rw (c.from_residual.ensures, c.in_err-since.was) (λ h. h)

pub returns-else-missed-min : goal.returns-else-missed-min
returns-else-missed-min c =
    let at_top = ap (λ i. i.top) c.as_ref-inner.ensures in
    let held = c.len.ensures ∙ ap (λ i. length i.ring.items) c.as_ref-inner.ensures
    ∙ sym (length-map c.self.inside.inner.value.ring.items (λ (p : Placed). p.datum)) in
    rw (← c.self.view_is) (missed_many (the_view c.self.inside) c.args.since c.in_ok-since.since c.min.result
    c.in_ok-since.was (c.min.ensures ∙ ap (λ n. min n 300) held)
    (rw at_top at c.if-missed-min.false))
