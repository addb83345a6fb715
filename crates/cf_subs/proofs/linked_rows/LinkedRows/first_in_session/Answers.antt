-- The number in the table of sessions is that of the first row, by the invariant.
use Rattle.std.proofs.Common.{◌∙◌}
use Rattle.cf_subs.specs.RowBlocks.{session_of}
use Rattle.cf_subs.proofs.Heads.{first_is}
use Rattle.cf_subs.proofs.linked_rows.LinkedRows.first_in_session.Goals as goal

pub returns : goal.returns
returns c = let r = c.args.self.now in
    c.first.ensures ∙ first_is session_of r.sessions r.row_blocks.blocks.held c.args.session c.requires.whole.sessions
