-- The loop keeps that the copies so far are the publications from the start on, and that there is room for the others.
use Rattle.std.proofs.Common.{sym}
use Rattle.cf_stream.proofs.Placing.{copied_more}
use Rattle.cf_stream.proofs.ring.copies.Goals as goal

pub loop-i-preserved : goal.loop-i-preserved
loop-i-preserved c =
    let e = copied_more c.args.ring.now.items c.args.from c.loop-i.i _ (sym c.in-Some.ensures) in
    let at = c.loop-i.invariant.copied in
    record {
      copied = cc (e, c.push_reserved.ensures.items, c.in_ok-copied-in-Some.ensures, at);
      roomy = rw c.push_reserved.ensures.capacity c.loop-i.invariant.roomy;
    }
