-- By the part that can't be read: without it the line is no such event, since it could be cut in no other way.
use Rattle.std.proofs.Common.{arith, sym, subst, ◌∙◌}
use Rattle.std.proofs.lemmas.Fmt.{decimal_injective}
use Rattle.std.specs.Fmt.{decimal}
use Rattle.cf_schedule.specs.Word.{IsChannelName}
use Rattle.cf_schedule.proofs.Spacing.{never_cut, unspaced_channel}
use Rattle.cf_schedule.proofs.Lines.{no_trim}
use Rattle.cf_schedule.proofs.Refusals.{refused_name, same_cut}
use Rattle.cf_schedule.proofs.event.trim.Goals as goal

pub returns-in_default : goal.returns-in_default
returns-in_default c =
    λ nodes. no_trim nodes c.args.text.now (λ d k h. never_cut c.args.text.now d (decimal k) c.in_default.ensures h.2)

pub returns-in_default-whole_number : goal.returns-in_default-whole_number
returns-in_default-whole_number c = λ nodes. no_trim nodes c.args.text.now (λ d k h.
    let cut = same_cut c.args.text.now c.in-Some.channel.now c.in-Some.number.now d (decimal k) c.in-Some.ensures
    (unspaced_channel d h.0) h.2 in
    c.in_default-whole_number.ensures k (let few = h.1 in omega (arith, few)) (sym cut.1))

pub returns-then-count-gt-MOST_LEFT : goal.returns-then-count-gt-MOST_LEFT
returns-then-count-gt-MOST_LEFT c = λ nodes. no_trim nodes c.args.text.now (λ d k h.
    let cut = same_cut c.args.text.now c.in-Some.channel.now c.in-Some.number.now d (decimal k) c.in-Some.ensures
    (unspaced_channel d h.0) h.2 in
    let few = h.1 in
    let same = decimal_injective k c.in-Some-whole_number.count (omega (arith, few)) (omega arith)
    (cut.1 ∙ c.in-Some-whole_number.ensures) in
    omega (arith, few))

pub returns-in-Err : goal.returns-in-Err
returns-in-Err c = λ nodes.
    refused_name _ _ _ c.in-Err.ensures.unreadable (λ not_name. no_trim nodes c.args.text.now (λ d k h.
    let cut = same_cut c.args.text.now c.in-Some.channel.now c.in-Some.number.now d (decimal k) c.in-Some.ensures
    (unspaced_channel d h.0) h.2 in
    not_name (subst IsChannelName cut.0 h.0)))
