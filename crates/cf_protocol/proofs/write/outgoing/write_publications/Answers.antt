-- The loop keeps that the publications so far are written as items; none is written as nothing.
use Rattle.std.proofs.Common.{◌≡◌, ◌≤◌, ℕ, ◌<◌, List, map, length, get_or, add-one, arith, rules, subst}
use Rattle.std.proofs.lemmas.List.{take_all, length-map}
use Rattle.cf_protocol.specs.Datum.{Placed}
use Rattle.cf_protocol.specs.Written.{publication, as_it_is}
use Rattle.cf_protocol.specs.Writing.{AddsItems}
use Rattle.cf_protocol.proofs.Writings.{one_more, listed}
use Rattle.cf_protocol.proofs.Outgoings.{map-take_more, nonzero}
use Rattle.cf_protocol.proofs.write.outgoing.write_publications.Goals as goal

pub loop-publication-preserved : goal.loop-publication-preserved
loop-publication-preserved c =
    let items : List Placed = c.args.publications.now.items in
    let i : ℕ = c.loop-publication.publication-index in
    let x : Placed = c.publication-item.result in
    let is : x ≡ get_or items i x = rw (← c.deref-publication-items.ensures.value) c.publication-item.is in
    let in_range : i < length items = rw (← c.deref-publication-items.ensures.value) (omega arith) in
    rw (add-one, map-take_more (publication as_it_is) items i x in_range is)
    (one_more (publication as_it_is x) c.loop-publication.invariant c.comma.ensures.text c.write_placed.ensures)

pub returns : goal.returns
returns c =
    let items : List Placed = c.args.publications.now.items in
    let long : c.args.publications.now.len ≡ length items = search rules in
    let some : 0 < length items =
    omega (
      arith,
      long,
      nonzero c.is_empty.result c.args.publications.now.len c.is_empty.ensures
          c.if-is_empty.false,
    ) in
    let same = c.deref-publication-items.ensures.value in
    let ends : length items ≤ c.loop-publication.publication-index = rw (← same) c.loop-publication-test.false in
    let all = take_all c.loop-publication.publication-index items ends in
    let trees = map (publication as_it_is) items in
    let adds : AddsItems c.open.new.self c.loop-publication.writer trees =
    subst (λ ps. AddsItems c.open.new.self c.loop-publication.writer (map (publication as_it_is) ps)) all
    c.loop-publication.invariant in
    listed trees (rw (length-map items (publication as_it_is)) some) c.open.ensures adds c.value.ensures
