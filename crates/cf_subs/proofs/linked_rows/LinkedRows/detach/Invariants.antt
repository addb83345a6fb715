use Rattle.std.proofs.Common.{◌≡◌, ◌+◌, length}
use Rattle.cf_subs.specs.Rows.{without_session}
use Rattle.cf_subs.specs.RowBlocks.{rows_of}
use Rattle.cf_subs.specs.Whole.{IsWhole}
use Rattle.cf_subs.proofs.linked_rows.LinkedRows.detach.Given as goal

abbrev pub invariant-loop-here : goal.invariant-loop-here
invariant-loop-here l =
    IsWhole l.self × (without_session (rows_of l.self.row_blocks.blocks.held) l.session
    ≡ without_session (rows_of l.fn.self.row_blocks.blocks.held) l.session)
    × (l.gone + length (rows_of l.self.row_blocks.blocks.held) ≡ length (rows_of l.fn.self.row_blocks.blocks.held))

abbrev pub decreases-loop-here : goal.decreases-loop-here
decreases-loop-here l = length (rows_of l.self.row_blocks.blocks.held)
