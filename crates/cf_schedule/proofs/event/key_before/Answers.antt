-- By whether a key stands there: what is cut off is the key, and one that can't be read is refused.
use Rattle.std.proofs.Common.{rules, Bool, ◌∷◌, ◌++◌, ap, sym, subst, ◌∙◌}
use Rattle.cf_schedule.specs.LineRead.{IsKeyBefore}
use Rattle.cf_schedule.specs.Word.{IsKey}
use Rattle.cf_schedule.proofs.Spacing.{never_cut, unspaced_key}
use Rattle.cf_schedule.proofs.Refusals.{refused_name, same_cut}
use Rattle.cf_schedule.proofs.event.key_before.Goals as goal

pub returns-in-Ok-clause-ok : goal.returns-in-Ok-clause-ok
returns-in-Ok-clause-ok c =
    subst (λ (b : Bool). IsKeyBefore b c.in-Ok.key c.in-Some.«data».now c.args.text.now) (sym c.if-not-is_keyed.false)
    (search rules, c.in-Some.ensures.whole ∙ ap (λ t. t ++ 32 ∷ c.in-Some.«data».now) (sym c.in-Ok.ensures.ok))

pub returns-in_default-clause-err : goal.returns-in_default-clause-err
returns-in_default-clause-err c = λ k s h.
    let is = subst (λ (b : Bool). IsKeyBefore b k s c.args.text.now) c.if-not-is_keyed.false h in
    never_cut c.args.text.now k s c.in_default.ensures is.1

pub returns-in-Err-clause-err : goal.returns-in-Err-clause-err
returns-in-Err-clause-err c =
    refused_name _ _ _ c.in-Err.ensures.unreadable (λ not_key k s h.
    let is = subst (λ (b : Bool). IsKeyBefore b k s c.args.text.now) c.if-not-is_keyed.false h in
    let cut = same_cut c.args.text.now c.in-Some.key.now c.in-Some.«data».now k s c.in-Some.ensures
    (unspaced_key k is.0) is.1 in
    not_key (subst IsKey cut.0 is.0))
