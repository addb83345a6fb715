-- The loop keeps that a member that stands alone among those left stands alone among all, since no later one has its
-- key.
use Rattle.std.proofs.Common.{◌≡◌, map, refl, sym, ap, ◌∙◌, subst}
use Rattle.std.proofs.lemmas.List.{nil_from_length}
use Rattle.cf_json.specs.Members.{entry_of}
use Rattle.cf_json.proofs.Lasts.{has, lasts, lasts_of}
use Rattle.cf_json.proofs.Differing.{one_differs}
use Rattle.cf_json.proofs.fields.are_different.Goals as goal

pub loop-first-preserved : goal.loop-first-preserved
loop-first-preserved c = λ e.
    let es = map entry_of c.in-Some.more.now in
    let new = ap (λ k. has k es) (sym c.as_str.ensures.value) ∙ sym c.has_key.ensures ∙ c.if-has_key.false in
    c.loop-first.invariant (subst (λ ms. lasts (map entry_of ms) ≡ map entry_of ms) (sym c.in-Some.ensures.cases.0)
    (one_differs (entry_of c.in-Some.first.now) es new e))

pub returns : goal.returns
returns c =
    lasts_of (map entry_of c.args.members.now)
    ∙ c.loop-first.invariant (subst (λ ms. lasts (map entry_of ms) ≡ map entry_of ms)
    (sym (nil_from_length c.loop-first.rest.now c.in_default.ensures.cases)) refl)
