-- The loop unlinks the session's first row again and again, and keeps that the rows of the other sessions stay.
use Rattle.std.proofs.Common.{◌<◌, ◌∙◌, ap, sym, length, arith}
use Rattle.cf_subs.specs.Rows.{without_session}
use Rattle.cf_subs.specs.RowBlocks.{rows_of, session_of}
use Rattle.cf_subs.proofs.Finds.{first_goes, first_is_held, first_less, none_left}
use Rattle.cf_subs.proofs.linked_rows.LinkedRows.detach.Goals as goal

pub unlink-requires-clause-held : goal.unlink-requires-clause-held
unlink-requires-clause-held c =
    let b = c.loop-here.self.row_blocks.blocks in
    first_is_held session_of c.args.session b.held c.in-Some.here (sym c.first_in_session.ensures ∙ c.in-Some.is)
    b.apart

pub loop-here-smaller : goal.loop-here-smaller
loop-here-smaller c =
    let b = c.loop-here.self.row_blocks.blocks in let less =
    first_less session_of c.args.session b.held c.in-Some.here (sym c.first_in_session.ensures ∙ c.in-Some.is)
    b.apart in
    let same = ap length c.unlink.ensures.rows in
    let fewer : length (rows_of c.unlink.new.self.row_blocks.blocks.held) < length (rows_of b.held) =
    omega (arith, less, same) in fewer

pub loop-here-preserved : goal.loop-here-preserved
loop-here-preserved c =
    let b = c.loop-here.self.row_blocks.blocks in let s = c.args.session in
    let first = sym c.first_in_session.ensures ∙ c.in-Some.is in
    let less = first_less session_of s b.held c.in-Some.here first b.apart in
    let same = ap length c.unlink.ensures.rows in let before = c.loop-here.invariant.2 in (
      c.unlink.ensures.whole,
      ap (λ l. without_session l s) c.unlink.ensures.rows ∙ first_goes s b.held c.in-Some.here first b.apart
          ∙ c.loop-here.invariant.1,
      omega (arith, less, same, before),
    )

pub returns-clause-rows : goal.returns-clause-rows
returns-clause-rows c =
    sym (none_left c.args.session c.loop-here.self.row_blocks.blocks.held
    (sym c.first_in_session.ensures ∙ c.in_default.is))
    ∙ c.loop-here.invariant.1
