-- By the word that can't be read: without it the line is no such event, since it could be cut in no other way.
use Rattle.std.proofs.Common.{[], ◌∷◌, sym, subst}
use Rattle.std.proofs.lemmas.Result.{err_from_is_err_and}
use Rattle.cf_machine.specs.TraceLine.{spaced}
use Rattle.cf_schedule.specs.Word.{IsClientName, IsChannelName}
use Rattle.cf_schedule.specs.ScheduleLine.{IsLimit}
use Rattle.cf_schedule.proofs.Spacing.{never_cut, unspaced_channel, unspaced_client}
use Rattle.cf_schedule.proofs.Lines.{no_list}
use Rattle.cf_schedule.proofs.Refusals.{refused_name, same_cut}
use Rattle.cf_schedule.proofs.event.list.Goals as goal

pub returns-in_default : goal.returns-in_default
returns-in_default c =
    λ nodes. no_list nodes c.args.text.now (λ x d limit h. never_cut c.args.text.now x (spaced (d ∷ h.2 ∷ []))
    c.in_default.ensures h.4)

pub returns-in_default-cut : goal.returns-in_default-cut
returns-in_default-cut c = λ nodes. no_list nodes c.args.text.now (λ x d limit h.
    let cut = same_cut c.args.text.now c.in-Some.client.now c.in-Some.rest.now x (spaced (d ∷ h.2 ∷ []))
    c.in-Some.ensures (unspaced_client x h.0) h.4 in
    never_cut c.in-Some.rest.now d h.2 c.in_default-cut.ensures (sym cut.1))

pub returns-in_default-limit_of : goal.returns-in_default-limit_of
returns-in_default-limit_of c = λ nodes. no_list nodes c.args.text.now (λ x d limit h.
    let cut = same_cut c.args.text.now c.in-Some.client.now c.in-Some.rest.now x (spaced (d ∷ h.2 ∷ []))
    c.in-Some.ensures (unspaced_client x h.0) h.4 in
    let inner = same_cut c.in-Some.rest.now c.in-Some-cut.channel.now c.in-Some-cut.limit.now d h.2
    c.in-Some-cut.ensures (unspaced_channel d h.1) (sym cut.1) in
    c.in_default-limit_of.ensures limit (subst (λ t. IsLimit t limit) inner.1 h.3))

pub returns-in_err-client : goal.returns-in_err-client
returns-in_err-client c = λ nodes.
    let p = err_from_is_err_and c.from_residual.result c.from_residual.ensures.1 in
    rw (p.1, p.2) (refused_name _ _ _ c.in_err-client.ensures.unreadable
    (λ not_name. no_list nodes c.args.text.now (λ x d limit h.
    let cut = same_cut c.args.text.now c.in-Some.client.now c.in-Some.rest.now x (spaced (d ∷ h.2 ∷ []))
    c.in-Some.ensures (unspaced_client x h.0) h.4 in
    not_name (subst IsClientName cut.0 h.0))))

pub returns-in-Err : goal.returns-in-Err
returns-in-Err c = λ nodes.
    refused_name _ _ _ c.in-Err.ensures.unreadable (λ not_name. no_list nodes c.args.text.now (λ x d limit h.
    let cut = same_cut c.args.text.now c.in-Some.client.now c.in-Some.rest.now x (spaced (d ∷ h.2 ∷ []))
    c.in-Some.ensures (unspaced_client x h.0) h.4 in
    let inner = same_cut c.in-Some.rest.now c.in-Some-cut.channel.now c.in-Some-cut.limit.now d h.2
    c.in-Some-cut.ensures (unspaced_channel d h.1) (sym cut.1) in
    not_name (subst IsChannelName inner.0 h.1)))
