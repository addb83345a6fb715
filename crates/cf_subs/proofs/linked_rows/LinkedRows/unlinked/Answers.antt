-- What stands before and behind the row in its chains is what the tables are told.
use Rattle.std.proofs.Common.{◌∙◌, refl}
use Rattle.cf_subs.specs.RowBlocks.{channel_of, session_of}
use Rattle.cf_subs.proofs.Heads.{last_is}
use Rattle.cf_subs.proofs.linked_rows.LinkedRows.unlinked.Goals as goal

pub returns-clause-unlinked : goal.returns-clause-unlinked
returns-clause-unlinked c =
    let r = c.args.self.now in let hs = r.row_blocks.blocks.held in record {
      channel = c.last.ensures ∙ last_is channel_of r.channels hs c.args.row.channel c.requires.whole.channels;
      channel_ends = refl;
      session = c.last-2.ensures ∙ last_is session_of r.sessions hs c.args.row.session c.requires.whole.sessions;
      session_ends = refl;
    }
