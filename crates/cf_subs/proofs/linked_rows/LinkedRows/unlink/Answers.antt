-- The row is taken out of both chains, and both tables know the neighbours that close them.
use Rattle.cf_subs.specs.RowBlocks.{channel_of, session_of}
use Rattle.cf_subs.proofs.Heads.{headed_without}
use Rattle.cf_subs.proofs.linked_rows.LinkedRows.unlink.Goals as goal

pub returns-clause-whole : goal.returns-clause-whole
returns-clause-whole c =
    let r = c.args.self.now in let b = r.row_blocks.blocks in let left = c.unlink-linked_row.new.self.blocks.held in
    record {
      linked = c.unlink-linked_row.ensures.linked;
      channels = headed_without channel_of (λ x. x.before_in_channel) (λ x. x.after_in_channel) r.channels
          c.shrink.new.ends b.held left c.args.at.ptr c.unlink-linked_row.result c.requires.whole.linked.0 b.apart
          c.unlink-linked_row.ensures.linked_row
          c.requires.whole.channels c.shrink.ensures c.unlink-linked_row.ensures.lists.channels;
      sessions = headed_without session_of (λ x. x.before_in_session) (λ x. x.after_in_session) r.sessions
          c.shrink-2.new.ends b.held left c.args.at.ptr c.unlink-linked_row.result c.requires.whole.linked.1 b.apart
          c.unlink-linked_row.ensures.linked_row
          c.requires.whole.sessions c.shrink-2.ensures c.unlink-linked_row.ensures.lists.sessions;
    }

pub returns-clause-rows : goal.returns-clause-rows
returns-clause-rows c = c.unlink-linked_row.ensures.lists.rows
