-- The newest are the last of the ring, of which there are as many.
use Rattle.std.proofs.Common.{◌≤◌, length, arith}
use Rattle.std.proofs.lemmas.List.{length-map}
use Rattle.cf_protocol.specs.Datum.{Placed}
use Rattle.cf_stream.proofs.Placing.{newest_placed}
use Rattle.cf_stream.proofs.stream.Stream.newest.Goals as goal

pub returns : goal.returns
returns c =
    let held = rw (← c.self.view_is) at c.requires in
    let few : c.args.count ≤ length c.self.inside.inner.value.ring.items =
    omega (arith, held, length-map c.self.inside.inner.value.ring.items (λ (p : Placed). p.datum)) in
    let at = newest_placed c.self.inside.inner.value.top c.args.count c.args.limit c.self.inside.inner.value.ring.items
    c.self.invariant.placed few in
    let copied = rw (c.min.ensures, c.len.ensures, c.as_ref-inner.ensures, at) at c.copies.ensures in
    rw (← c.self.view_is) copied
