-- The loop goes along the session's rows, and keeps that the place wanted is among those left exactly if it is among
-- all.
use Rattle.std.proofs.Common.{◌∙◌, ap, sym, subst, ◌<◌, length, Some, arith}
use Rattle.cf_subs.specs.RowBlocks.{session_of, place_of, of_number, onward}
use Rattle.cf_subs.proofs.Finds.{WayTo, find_here, find_less, find_on, place-of_number}
use Rattle.cf_subs.proofs.Walks.{stands_first, walk_ends, walk_starts}
use Rattle.cf_subs.proofs.linked_rows.LinkedRows.find.Goals as goal

pub loop-next-init : goal.loop-next-init
loop-next-init c =
    let b = c.args.self.now.row_blocks.blocks in let s = c.args.session in let first = c.first_in_session-next in (
      (c.requires.whole.linked.1, stands_first session_of s b.held first.result b.apart first.ensures),
      ap (place_of c.args.channel s) (walk_starts session_of s b.held first.result b.apart first.ensures)
          ∙ place-of_number b.held c.args.channel s,
    )

pub returns-then-row-channel : goal.returns-then-row-channel
returns-then-row-channel c =
    let b = c.args.self.now.row_blocks.blocks in
    let way : WayTo c.args.channel c.args.session b.held (Some c.in-Some.here) =
    subst (WayTo c.args.channel c.args.session b.held) c.in-Some.is c.loop-next.invariant in
    find_here c.args.channel c.args.session b.held c.in-Some.here c.row.result way.0 b.apart c.row.ensures way.1
    c.if-row-channel.true

pub loop-next-smaller : goal.loop-next-smaller
loop-next-smaller c =
    let b = c.args.self.now.row_blocks.blocks in
    let way : WayTo c.args.channel c.args.session b.held (Some c.in-Some.here) =
    subst (WayTo c.args.channel c.args.session b.held) c.in-Some.is c.loop-next.invariant in
    let less = find_less c.args.session b.held c.in-Some.here c.next_in_session-next.result way.0 b.apart
    c.next_in_session-next.ensures in
    let here = ap (λ o. length (of_number session_of c.args.session (onward b.held o))) c.in-Some.is in
    let fewer : length (of_number session_of c.args.session (onward b.held c.next_in_session-next.result))
    < length (of_number session_of c.args.session (onward b.held c.loop-next.next)) = omega (arith, less, here) in
    fewer

pub loop-next-preserved : goal.loop-next-preserved
loop-next-preserved c =
    let b = c.args.self.now.row_blocks.blocks in
    let way : WayTo c.args.channel c.args.session b.held (Some c.in-Some.here) =
    subst (WayTo c.args.channel c.args.session b.held) c.in-Some.is c.loop-next.invariant in
    find_on c.args.channel c.args.session b.held c.in-Some.here c.row.result c.next_in_session-next.result way.0 b.apart
    c.row.ensures c.next_in_session-next.ensures way.1 c.if-row-channel.false

pub returns : goal.returns
returns c =
    let b = c.args.self.now.row_blocks.blocks in let s = c.args.session in
    sym (ap (place_of c.args.channel s) (walk_ends session_of s b.held c.loop-next.next c.in_default.is))
    ∙ c.loop-next.invariant.1
