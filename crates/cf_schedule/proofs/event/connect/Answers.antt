-- By the word that can't be read: without it the line is no such event, since it could be cut in no other way.
use Rattle.std.proofs.Common.{sym, subst}
use Rattle.std.specs.Fmt.{decimal}
use Rattle.cf_schedule.specs.Word.{IsClientName}
use Rattle.cf_schedule.proofs.Spacing.{never_cut, unspaced_client}
use Rattle.cf_schedule.proofs.Lines.{no_connect}
use Rattle.cf_schedule.proofs.Refusals.{refused_name, same_cut}
use Rattle.cf_schedule.proofs.event.connect.Goals as goal

pub returns-in_default : goal.returns-in_default
returns-in_default c =
    no_connect c.args.nodes c.args.text.now (λ x n h. never_cut c.args.text.now x (decimal n) c.in_default.ensures h.2)

pub returns-in_default-node : goal.returns-in_default-node
returns-in_default-node c = no_connect c.args.nodes c.args.text.now (λ x n h.
    let cut = same_cut c.args.text.now c.in-Some.client.now c.in-Some.number.now x (decimal n) c.in-Some.ensures
    (unspaced_client x h.0) h.2 in
    c.in_default-node.ensures n h.1 (sym cut.1))

pub returns-in-Err : goal.returns-in-Err
returns-in-Err c =
    refused_name _ _ _ c.in-Err.ensures.unreadable (λ not_name. no_connect c.args.nodes c.args.text.now (λ x n h.
    let cut = same_cut c.args.text.now c.in-Some.client.now c.in-Some.number.now x (decimal n) c.in-Some.ensures
    (unspaced_client x h.0) h.2 in
    not_name (subst IsClientName cut.0 h.0)))
