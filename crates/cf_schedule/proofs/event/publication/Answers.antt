-- By the part that can't be read: channel, key and body in turn, each of which is refused with its reason.
use Rattle.std.proofs.Common.{rules, ℕ, List, ◌∷◌, ◌++◌, ap, sym, subst, ◌∙◌}
use Rattle.std.proofs.lemmas.Result.{err_from_is_err_and}
use Rattle.cf_schedule.specs.Word.{IsChannelName}
use Rattle.cf_schedule.specs.ScheduleLine.{IsData}
use Rattle.cf_schedule.specs.LineRead.{IsKeyBefore, IsNoData, IsPublication}
use Rattle.cf_schedule.proofs.Spacing.{never_cut, unspaced_channel}
use Rattle.cf_schedule.proofs.Refusals.{one_key, refused_name, refused_so, same_cut}
use Rattle.cf_schedule.proofs.event.publication.Goals as goal

pub returns-in-Ok-clause-ok : goal.returns-in-Ok-clause-ok
returns-in-Ok-clause-ok c = (
  search rules,
  c.in_ok-key.«data».now,
  c.in-Some.rest.now,
  c.in_ok-key.ensures.ok,
  c.in-Ok.ensures.ok,
  c.in-Some.ensures.whole ∙ ap (λ t. t ++ 32 ∷ c.in-Some.rest.now) (sym c.in_ok-channel.ensures.ok),
)

pub returns-in_default-clause-err : goal.returns-in_default-clause-err
returns-in_default-clause-err c = λ d k body h. never_cut c.args.text.now d h.2 c.in_default.ensures h.5

pub returns-in_err-channel-clause-err : goal.returns-in_err-channel-clause-err
returns-in_err-channel-clause-err c =
    let p = err_from_is_err_and c.from_residual.result c.from_residual.ensures.1 in
    rw (p.1, p.2) (refused_name _ _ _ c.in_err-channel.ensures.unreadable (λ not_name d k body h.
    let cut = same_cut c.args.text.now c.in-Some.channel.now c.in-Some.rest.now d h.2 c.in-Some.ensures
    (unspaced_channel d h.0) h.5 in
    not_name (subst IsChannelName cut.0 h.0)))

pub returns-in_err-key-clause-err : goal.returns-in_err-key-clause-err
returns-in_err-key-clause-err c =
    let p = err_from_is_err_and c.from_residual-in_err-key.result c.from_residual-in_err-key.ensures.1 in
    rw (p.1, p.2) (refused_so _ ((k s : List ℕ) → IsKeyBefore c.args.is_keyed k s c.in-Some.rest.now → ⊥)
    ((d k body : List ℕ) → IsPublication c.args.is_keyed d k body c.args.text.now → ⊥) (λ none d k body h.
    let cut = same_cut c.args.text.now c.in-Some.channel.now c.in-Some.rest.now d h.2 c.in-Some.ensures
    (unspaced_channel d h.0) h.5 in
    none k h.1 (subst (λ (r : List ℕ). IsKeyBefore c.args.is_keyed k h.1 r) cut.1 h.3)) c.in_err-key.ensures.err)

pub returns-in-Err-clause-err : goal.returns-in-Err-clause-err
returns-in-Err-clause-err c =
    refused_so _ (IsNoData c.in_ok-key.«data».now)
    ((d k body : List ℕ) → IsPublication c.args.is_keyed d k body c.args.text.now → ⊥) (λ no_data d k body h.
    let cut = same_cut c.args.text.now c.in-Some.channel.now c.in-Some.rest.now d h.2 c.in-Some.ensures
    (unspaced_channel d h.0) h.5 in
    let same = one_key c.args.is_keyed k _ h.1 c.in_ok-key.«data».now h.2 c.in-Some.rest.now cut.1 h.3
    c.in_ok-key.ensures.ok in
    no_data body (subst (λ (t : List ℕ). IsData t body) same h.4)) c.in-Err.ensures.err
