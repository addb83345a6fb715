-- The walk starts at the channel's first row, and so goes through all of the channel's, each once.
use Rattle.std.proofs.Common.{ap, ◌∙◌, map}
use Rattle.cf_subs.specs.Rows.{sessions_of}
use Rattle.cf_subs.specs.RowBlocks.{channel_of}
use Rattle.cf_subs.proofs.Finds.{channel_walk}
use Rattle.cf_subs.proofs.Members.{among_sessions, distinct_sessions}
use Rattle.cf_subs.proofs.Walks.{stands_first, walk_starts}
use Rattle.cf_subs.proofs.table.SubTable.walk.Goals as goal

pub invariant_of-result : goal.invariant_of-result
invariant_of-result c =
    let b = c.self.inside.rows.row_blocks.blocks in (
      c.self.invariant.whole.linked.0,
      stands_first channel_of c.args.channel b.held c.first_in_channel.result
          b.apart c.first_in_channel.ensures,
    )

pub returns-clause-sessions : goal.returns-clause-sessions
returns-clause-sessions c =
    let b = c.self.inside.rows.row_blocks.blocks in
    ap (map (λ h. h.value.row.session)) (walk_starts channel_of c.args.channel b.held c.first_in_channel.result b.apart
    c.first_in_channel.ensures) ∙ channel_walk b.held c.args.channel
    ∙ ap (λ l. sessions_of l c.args.channel) c.self.view_is

pub returns-clause-each : goal.returns-clause-each
returns-clause-each c = record {
  once = rw (← c.self.view_is) (distinct_sessions _ c.args.channel c.self.invariant.rows.once);
  members = λ s. among_sessions c.args.self.now c.args.channel s;
}
