-- What lies within the span is the text's token, which the kit reads; where it reads none, there are no characters.
use Rattle.std.proofs.Common.{◌≡◌, Some, is_some, Result, Ok, Err, sym, ap, ◌∙◌, subst}
use Rattle.std.proofs.lemmas.Bool.{true≢false}
use Rattle.std.specs.Prelude.{option_and_then, IfErr, IsErrAnd}
use Rattle.cf_json.specs.Characters.{NoCharacters}
use Rattle.cf_json.specs.declared.fault.Fault.{Fault}
use Rattle.cf_json.specs.declared.fault.Fault.TheVariants.{Memory}
use Rattle.serde_json.specs.Read.{read}
use Rattle.serde_json.specs.Find.{as_str}
use Rattle.cf_json.proofs.Strings.{cut}
use Rattle.cf_json.proofs.SerdeReads.{read-characters}
use Rattle.cf_json.proofs.text.read_escaped.Goals as goal

memory_only : {A : Type 0} (P : Fault → Type 0) (r : Result A Fault) → IsErrAnd r (λ e. e ≡ Memory) → P Memory
    → IfErr r P
memory_only P (Ok a) is m = tt
memory_only P (Err e) is m = subst P (sym is) m

pub range-requires-clause-start_le_end : goal.range-requires-clause-start_le_end
range-requires-clause-start_le_end c = (cut c.args.text.now c.requires.0 c.args.span c.utf8.text c.requires.1).ordered

pub range-requires-clause-end_boundary : goal.range-requires-clause-end_boundary
range-requires-clause-end_boundary c = (cut c.args.text.now c.requires.0 c.args.span c.utf8.text c.requires.1).to_at

pub returns-in-Some-clause-ok : goal.returns-in-Some-clause-ok
returns-in-Some-clause-ok c = λ d h.
    let token = c.range.ensures.value ∙ (cut c.args.text.now d c.args.span c.utf8.text h).token in
    let reads = ap read (sym token) ∙ c.in-Ok.ensures.ok in
    sym (read-characters d h.value.0) ∙ ap (option_and_then as_str) reads ∙ sym c.in-Some.ensures
    ∙ ap Some (sym c.in_ok-from_str.ensures.ok)

pub returns-in_err-from_str-clause-err : goal.returns-in_err-from_str-clause-err
returns-in_err-from_str-clause-err c =
    memory_only (NoCharacters c.args.text.now c.args.span) c.from_residual.result c.from_residual.ensures.1
    (λ d h none.
    let token = c.range.ensures.value ∙ (cut c.args.text.now d c.args.span c.utf8.text h).token in
    let reads = ap read (sym token) ∙ c.in-Ok.ensures.ok in
    let found = sym (read-characters d h.value.0) ∙ ap (option_and_then as_str) reads ∙ sym c.in-Some.ensures in
    true≢false (ap is_some (sym found ∙ none)))
