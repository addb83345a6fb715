-- Where there is a neighbour its block alone changes; where there is none nothing does.
use Rattle.std.proofs.Common.{sym, ap, ◌∙◌}
use Rattle.cf_subs.specs.Threads.{changed}
use Rattle.cf_subs.specs.RowBlocks.{before_in_channel}
use Rattle.cf_subs.proofs.Threads.{put_changed, changed_none}
use Rattle.cf_subs.proofs.row_blocks.RowBlocks.set_before_in_channel.Goals as goal

pub returns-in-Some : goal.returns-in-Some
returns-in-Some c =
    let hs = c.args.self.now.blocks.held in let change = before_in_channel c.args.before in
    c.put.ensures.held ∙ put_changed change c.in-Some.at c.get-linked_row.result.now hs c.get-linked_row.ensures
    c.args.self.now.blocks.apart ∙ ap (λ o. changed change o hs) (sym c.in-Some.is)

pub returns-in_default : goal.returns-in_default
returns-in_default c =
    let hs = c.args.self.now.blocks.held in let change = before_in_channel c.args.before in
    sym (ap (λ o. changed change o hs) c.in_default.is ∙ changed_none change hs)
