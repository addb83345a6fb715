-- The number's own bytes are those within the span, so the kit's reading of them is the grammar's.
use Rattle.std.proofs.Common.{◌≡◌, ◌<◌, ◌^◌, Some, None, sym, ap, ◌∙◌, subst}
use Rattle.std.specs.Str.Parse.{IsNumeral, digits_value, without_leading_plus}
use Rattle.cf_json.specs.Grammar.{number}
use Rattle.cf_json.proofs.Cuts.{cut, own_at}
use Rattle.cf_json.proofs.Numbers.{no_plus}
use Rattle.cf_json.proofs.Wholes.{unsigned_reads}
use Rattle.cf_json.proofs.integers.read_whole.Goals as goal

pub range-requires-clause-start_le_end : goal.range-requires-clause-start_le_end
range-requires-clause-start_le_end c =
    (cut c.args.text.now (number c.requires.0) c.args.span c.utf8.text c.requires.1).ordered

pub range-requires-clause-start_boundary : goal.range-requires-clause-start_boundary
range-requires-clause-start_boundary c =
    λ _. (cut c.args.text.now (number c.requires.0) c.args.span c.utf8.text c.requires.1).from_at

pub range-requires-clause-end_boundary : goal.range-requires-clause-end_boundary
range-requires-clause-end_boundary c =
    (cut c.args.text.now (number c.requires.0) c.args.span c.utf8.text c.requires.1).to_at

pub returns-in-Ok : goal.returns-in-Ok
returns-in-Ok c = λ n h.
    let own = c.range.ensures.value ∙ own_at c.args.text.now n c.args.span h.begins h.ends h.value.1 in
    unsigned_reads n (Some c.in-Ok.whole) h.value.0
    (subst (λ b. (IsNumeral 10 b × (digits_value 10 b < 2 ^ 64)) × (c.in-Ok.whole ≡ digits_value 10 b))
    (ap without_leading_plus own ∙ no_plus n h.value.0) c.in-Ok.ensures.value.0)

pub returns-in-Err : goal.returns-in-Err
returns-in-Err c = λ n h.
    let own = c.range.ensures.value ∙ own_at c.args.text.now n c.args.span h.begins h.ends h.value.1 in
    unsigned_reads n None h.value.0
    (λ is. c.in-Err.ensures.value.0 (subst (λ b. IsNumeral 10 b × (digits_value 10 b < 2 ^ 64))
    (sym (ap without_leading_plus own ∙ no_plus n h.value.0)) is))
