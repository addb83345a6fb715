use Rattle.std.proofs.Common.{length}
use Rattle.cf_subs.specs.RowBlocks.{rows_of}
use Rattle.cf_subs.specs.Whole.{IsWhole}
use Rattle.cf_subs.proofs.linked_rows.LinkedRows.end.Given as goal

abbrev pub invariant-loop-here : goal.invariant-loop-here
invariant-loop-here l = IsWhole l.rows

abbrev pub decreases-loop-here : goal.decreases-loop-here
decreases-loop-here l = length (rows_of l.rows.row_blocks.blocks.held)
