-- The number's own bytes are those within the span, so the kit's reading of them is the grammar's.
use Rattle.std.proofs.Common.{◌≡◌, Some, None, sym, ap, ◌∙◌, subst}
use Rattle.std.specs.Str.Parse.{IsNumeral, signed_digits_value, without_leading_sign}
use Rattle.std.proofs.lemmas.Int.{to_z-of_z}
use mir.Syntax.{w64}
use mir.Val.{SFits}
use Rattle.cf_json.specs.Grammar.{number}
use Rattle.cf_json.proofs.Cuts.{cut, own_at}
use Rattle.cf_json.proofs.Wholes.{signed_reads}
use Rattle.cf_json.proofs.integers.read_signed.Goals as goal

pub range-requires-clause-start_le_end : goal.range-requires-clause-start_le_end
range-requires-clause-start_le_end c =
    (cut c.args.text.now (number c.requires.0) c.args.span c.utf8.text c.requires.1).ordered

pub range-requires-clause-start_boundary : goal.range-requires-clause-start_boundary
range-requires-clause-start_boundary c =
    λ _. (cut c.args.text.now (number c.requires.0) c.args.span c.utf8.text c.requires.1).from_at

pub range-requires-clause-end_boundary : goal.range-requires-clause-end_boundary
range-requires-clause-end_boundary c =
    (cut c.args.text.now (number c.requires.0) c.args.span c.utf8.text c.requires.1).to_at

pub returns-in-Ok : goal.returns-in-Ok
returns-in-Ok c = λ n h.
    let own = c.range.ensures.value ∙ own_at c.args.text.now n c.args.span h.begins h.ends h.value.1 in
    let v = subst (λ b. (IsNumeral 10 (without_leading_sign b) × SFits w64 (signed_digits_value 10 b))
    × (c.in-Ok.signed ≡ signed_digits_value 10 b)) own c.in-Ok.ensures.value.0 in
    ap Some (to_z-of_z w64 c.in-Ok.signed (subst (λ z. SFits w64 z) (sym v.1) v.0.1))
    ∙ signed_reads n (Some c.in-Ok.signed) h.value.0 v

pub returns-in-Err : goal.returns-in-Err
returns-in-Err c = λ n h.
    let own = c.range.ensures.value ∙ own_at c.args.text.now n c.args.span h.begins h.ends h.value.1 in
    signed_reads n None h.value.0 (λ is. c.in-Err.ensures.value.0
    (subst (λ b. IsNumeral 10 (without_leading_sign b) × SFits w64 (signed_digits_value 10 b)) (sym own) is))
