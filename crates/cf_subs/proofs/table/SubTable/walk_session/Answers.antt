-- The walk starts at the session's first row, and so goes through all of the session's, each once.
use Rattle.std.proofs.Common.{ap, ◌∙◌, map}
use Rattle.cf_subs.specs.Rows.{channels_of}
use Rattle.cf_subs.specs.RowBlocks.{session_of}
use Rattle.cf_subs.proofs.Finds.{session_walk}
use Rattle.cf_subs.proofs.Members.{among_channels, distinct_channels}
use Rattle.cf_subs.proofs.Walks.{stands_first, walk_starts}
use Rattle.cf_subs.proofs.table.SubTable.walk_session.Goals as goal

pub invariant_of-result : goal.invariant_of-result
invariant_of-result c =
    let b = c.self.inside.rows.row_blocks.blocks in (
      c.self.invariant.whole.linked.1,
      stands_first session_of c.args.session b.held c.first_in_session.result
          b.apart c.first_in_session.ensures,
    )

pub returns-clause-channels : goal.returns-clause-channels
returns-clause-channels c =
    let b = c.self.inside.rows.row_blocks.blocks in
    ap (map (λ h. h.value.row.channel)) (walk_starts session_of c.args.session b.held c.first_in_session.result b.apart
    c.first_in_session.ensures) ∙ session_walk b.held c.args.session
    ∙ ap (λ l. channels_of l c.args.session) c.self.view_is

pub returns-clause-each : goal.returns-clause-each
returns-clause-each c = record {
  once = rw (← c.self.view_is) (distinct_channels _ c.args.session c.self.invariant.rows.once);
  members = λ d. among_channels c.args.self.now d c.args.session;
}
