-- Behind the row found, the next one of its channel is the next follower, and the walk goes on from there.
use Rattle.std.proofs.Common.{sym, ap, ◌∙◌}
use Rattle.cf_subs.specs.Rows.{after_in, sessions_of}
use Rattle.cf_subs.specs.RowBlocks.{sessions_onward}
use Rattle.cf_subs.proofs.Finds.{after_nobody, behind, place_is_held, starts}
use Rattle.cf_subs.proofs.table.SubTable.after.Goals as goal

pub returns-in_default-clause-next : goal.returns-in_default-clause-next
returns-in_default-clause-next c =
    let b = c.self.inside.rows.row_blocks.blocks in
    sym (ap (λ l. after_in c.args.session (sessions_of l c.args.channel)) (sym c.self.view_is)
    ∙ after_nobody c.args.channel c.args.session b.held (sym c.find.ensures ∙ c.in_default.is))

pub next_in_channel-requires : goal.next_in_channel-requires
next_in_channel-requires c =
    let b = c.self.inside.rows.row_blocks.blocks in
    place_is_held c.args.channel c.args.session b.held c.in-Some.at (sym c.find.ensures ∙ c.in-Some.is) b.apart

pub invariant_of-rest : goal.invariant_of-rest
invariant_of-rest c =
    let b = c.self.inside.rows.row_blocks.blocks in
    (behind c.args.channel c.args.session b.held c.in-Some.at c.next_in_channel.result
    (sym c.find.ensures ∙ c.in-Some.is) c.self.invariant.whole.linked.0 b.apart c.next_in_channel.ensures).walk

pub returns-clause-next : goal.returns-clause-next
returns-clause-next c =
    let b = c.self.inside.rows.row_blocks.blocks in
    let next = (behind c.args.channel c.args.session b.held c.in-Some.at c.next_in_channel.result
    (sym c.find.ensures ∙ c.in-Some.is) c.self.invariant.whole.linked.0 b.apart c.next_in_channel.ensures).next in
    starts c.next.result (sessions_onward b.held c.args.channel c.next_in_channel.result) c.next.new.self
    c.next.ensures.steps ∙ next ∙ ap (λ l. after_in c.args.session (sessions_of l c.args.channel)) c.self.view_is
