use Rattle.std.proofs.Common.{◌≡◌, length}
use Rattle.cf_subs.specs.RowBlocks.{IsSessionWalk, of_number, onward, place_of, session_of}
use Rattle.cf_subs.proofs.linked_rows.LinkedRows.find.Given as goal

abbrev pub invariant-loop-next : goal.invariant-loop-next
invariant-loop-next l =
    let hs = l.fn.self.row_blocks.blocks.held in
    IsSessionWalk hs l.session l.next × (place_of l.channel l.session
    (of_number session_of l.session (onward hs l.next)) ≡ place_of l.channel l.session hs)

abbrev pub decreases-loop-next : goal.decreases-loop-next
decreases-loop-next l = length (of_number session_of l.session (onward l.fn.self.row_blocks.blocks.held l.next))
