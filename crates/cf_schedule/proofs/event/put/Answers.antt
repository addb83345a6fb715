-- The name first, and then what `publication` reads: each that can't be read is refused with its reason.
use Rattle.std.proofs.Common.{rules, ℕ, List, ◌∷◌, ◌++◌, ap, sym, subst, ◌∙◌}
use Rattle.std.proofs.lemmas.Result.{err_from_is_err_and}
use Rattle.cf_schedule.specs.LineRead.{IsPublication}
use Rattle.cf_schedule.specs.Seen.{key_of}
use Rattle.cf_schedule.specs.Word.{IsClientName}
use Rattle.cf_schedule.proofs.Spacing.{never_cut, unspaced_client}
use Rattle.cf_schedule.proofs.Lines.{no_put_publication, put_said}
use Rattle.cf_schedule.proofs.Refusals.{refused_name, refused_so, same_cut}
use Rattle.cf_schedule.proofs.event.put.Goals as goal

pub returns-in-Ok : goal.returns-in-Ok
returns-in-Ok c = λ nodes.
    put_said nodes c.args.is_keyed c.args.text.now c.in_ok-client.client c.in-Some.rest.now c.in-Ok.channel
    (key_of c.in-Ok.key) c.in-Ok.body (search rules)
    (c.in-Some.ensures.whole ∙ ap (λ t. t ++ 32 ∷ c.in-Some.rest.now) (sym c.in_ok-client.ensures.ok))
    c.in-Ok.ensures.ok

pub returns-in_default : goal.returns-in_default
returns-in_default c =
    λ nodes. no_put_publication nodes c.args.is_keyed c.args.text.now
    (λ x d k body end name is h. never_cut c.args.text.now x end c.in_default.ensures is)

pub returns-in_err-client : goal.returns-in_err-client
returns-in_err-client c = λ nodes.
    let p = err_from_is_err_and c.from_residual.result c.from_residual.ensures.1 in
    rw (p.1, p.2) (refused_name _ _ _ c.in_err-client.ensures.unreadable
    (λ not_name. no_put_publication nodes c.args.is_keyed c.args.text.now (λ x d k body end name is h.
    let cut = same_cut c.args.text.now c.in-Some.client.now c.in-Some.rest.now x end c.in-Some.ensures
    (unspaced_client x name) is in
    not_name (subst IsClientName cut.0 name))))

pub returns-in-Err : goal.returns-in-Err
returns-in-Err c = λ nodes.
    refused_so _ ((d k body : List ℕ) → IsPublication c.args.is_keyed d k body c.in-Some.rest.now → ⊥)
    _ (λ none. no_put_publication nodes c.args.is_keyed c.args.text.now (λ x d k body end name is h.
    let cut = same_cut c.args.text.now c.in-Some.client.now c.in-Some.rest.now x end c.in-Some.ensures
    (unspaced_client x name) is in
    none d k body (subst (λ (r : List ℕ). IsPublication c.args.is_keyed d k body r) cut.1 h))) c.in-Err.ensures.err
