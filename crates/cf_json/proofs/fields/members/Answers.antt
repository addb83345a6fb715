-- The members read are those of the grammar; where two have one key, the last stands, and the reader's refusals are
-- passed on.
use Rattle.std.proofs.Common.{◌≡◌, List, [], ℕ, map, sym, subst}
use Rattle.std.specs.Bool.{OnTrue}
use Rattle.std.proofs.lemmas.Result.{err_from_is_err_and}
use Rattle.cf_json.specs.Members.{NoEntries, NoMembers, entry_of, put_all}
use Rattle.cf_json.specs.Spans.{Span}
use Rattle.cf_json.specs.declared.fault.Fault.{Fault}
use Rattle.cf_json.specs.declared.fault.Fault.TheVariants.{NotJson, TooDeep, Memory}
use Rattle.cf_json.proofs.Nexts.{object_holds}
use Rattle.cf_json.proofs.Standing.{members_stand, no_members}
use Rattle.cf_json.proofs.fields.members.Goals as goal

no_members_of : (all : List ℕ) (s : Span) (f : Fault) → NoEntries all s f → NoMembers all s f
no_members_of all s (NotJson p) h = (
  h.0,
  λ ps at. let shallow = at.shallow in no_members all s ps at
      (h.1 ps (object_holds all ps s at).0 (object_holds all ps s at).1 shallow),
)
no_members_of all s (TooDeep p) h = absurd h
no_members_of all s Memory h = tt

pub returns-in_err-all-clause-err : goal.returns-in_err-all-clause-err
returns-in_err-all-clause-err c =
    let p = err_from_is_err_and c.from_residual.result c.from_residual.ensures.1 in
    let none = no_members_of c.args.text.now c.args.span c.in_err-all.field-0.0 c.in_err-all.ensures.err in
    rw (p.1, p.2) none

pub returns-clause-ok : goal.returns-clause-ok
returns-clause-ok c = λ ps at.
    let all = c.args.text.now in let s = c.args.span in
    let held = object_holds all ps s at in
    let shallow = at.shallow in
    members_stand all s ps at c.in_ok-kept.kept.items c.in_ok-all.all.items c.in_ok-kept.ensures.ok
    (c.in_ok-all.ensures.ok ps held.0 held.1 shallow)

pub returns-then-are_different-clause-ok : goal.returns-then-are_different-clause-ok
returns-then-are_different-clause-ok c = λ ps at.
    let all = c.args.text.now in let s = c.args.span in
    let held = object_holds all ps s at in
    let shallow = at.shallow in
    let given = c.deref.result.now in
    let same = subst (λ b. OnTrue b (put_all [] (map entry_of given) ≡ map entry_of given)) c.if-are_different.true
    c.are_different.ensures in
    let kept = sym (subst (λ ms. put_all [] (map entry_of ms) ≡ map entry_of ms) c.deref.ensures.value same) in
    members_stand all s ps at c.in_ok-all.all.items c.in_ok-all.all.items kept
    (c.in_ok-all.ensures.ok ps held.0 held.1 shallow)
