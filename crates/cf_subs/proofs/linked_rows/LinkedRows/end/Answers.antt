-- The loop gives back one held block after another, and keeps that the rows left are whole.
use Rattle.std.proofs.Common.{◌<◌, ap, length, arith}
use Rattle.cf_subs.specs.RowBlocks.{rows_of}
use Rattle.cf_subs.proofs.Finds.{held_less}
use Rattle.cf_subs.proofs.linked_rows.LinkedRows.end.Goals as goal

pub loop-here-smaller : goal.loop-here-smaller
loop-here-smaller c =
    let b = c.loop-here.rows.row_blocks.blocks in let less =
    held_less b.held c.in-Some.here.ptr c.in-Some.ensures.held b.apart in
    let same = ap length c.unlink.ensures.rows in
    let fewer : length (rows_of c.unlink.new.self.row_blocks.blocks.held) < length (rows_of b.held) =
    omega (arith, less, same) in fewer
