-- By the word that can't be read: without it the line is no such event, since it could be cut in no other way.
use Rattle.std.proofs.Common.{sym, arith}
use Rattle.std.specs.Fmt.{decimal}
use Rattle.cf_schedule.proofs.Spacing.{never_cut, unspaced_number}
use Rattle.cf_schedule.proofs.Lines.{no_deliver}
use Rattle.cf_schedule.proofs.Refusals.{same_cut}
use Rattle.cf_schedule.proofs.event.deliver.Goals as goal

pub returns-in_default : goal.returns-in_default
returns-in_default c =
    no_deliver c.args.nodes c.args.text.now (λ n i h. never_cut c.args.text.now (decimal n) (decimal i)
    c.in_default.ensures h.2)

pub returns-in_default-node : goal.returns-in_default-node
returns-in_default-node c = no_deliver c.args.nodes c.args.text.now (λ n i h.
    let small = h.0 in
    let cut = same_cut c.args.text.now c.in-Some.number.now c.in-Some.publication.now (decimal n) (decimal i)
    c.in-Some.ensures (unspaced_number n (omega arith)) h.2 in
    c.in_default-node.ensures n h.0 (sym cut.0))

pub returns-in_default-whole_number : goal.returns-in_default-whole_number
returns-in_default-whole_number c = no_deliver c.args.nodes c.args.text.now (λ n i h.
    let small = h.0 in
    let cut = same_cut c.args.text.now c.in-Some.number.now c.in-Some.publication.now (decimal n) (decimal i)
    c.in-Some.ensures (unspaced_number n (omega arith)) h.2 in
    c.in_default-whole_number.ensures i h.1 (sym cut.1))
