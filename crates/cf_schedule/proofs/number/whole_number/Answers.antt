-- A text with other letters, or with a zero in front, is no number; else it is the kit's, if that fits.
use Rattle.std.proofs.Common.{◌≡◌, ◌<◌, ◌^◌, ℕ, arith, sym, length, get_or, ◌∙◌, Ok, Err}
use Rattle.std.specs.Str.Parse.{digits_value}
use Rattle.std.proofs.lemmas.Bool.{false≢true}
use Rattle.std.proofs.lemmas.Str.Pattern.{starts_char}
use Rattle.cf_schedule.proofs.Numbers.{no_number_undigits, no_number_zero, number_parsed, number_written}
use Rattle.cf_schedule.proofs.Numbers.{no_number_parsed}
use Rattle.cf_schedule.proofs.number.whole_number.Goals as goal
use Rattle.cf_schedule.proofs.number.whole_number.Goals.{else-text-gt1-via-then-text-gt1+else-starts_with}
use Rattle.cf_schedule.proofs.number.whole_number.Goals.{else-text-gt1-via-else-text-gt1}

pub returns-then-not-has_digits_alone : goal.returns-then-not-has_digits_alone
returns-then-not-has_digits_alone c = no_number_undigits c.args.text.now (sym c.if-not-has_digits_alone.ensures)

pub returns-then-starts_with : goal.returns-then-starts_with
returns-then-starts_with c =
    let zero_first =
    (starts_char 48 c.args.text.now c.starts_with.result c.starts_with.ensures.cases (omega arith) (omega arith)).0
    c.if-starts_with.true in
    no_number_zero c.args.text.now c.if-text-gt1.true zero_first

pub returns-in-Ok : goal.returns-in-Ok
returns-in-Ok c =
    let s = c.args.text.now in
    let digits = sym c.if-not-has_digits_alone.ensures in
    let parsed : ((0 < length s) × (digits_value 10 s < 2 ^ 64)) × (c.in-Ok.number ≡ digits_value 10 s) =
    number_parsed {E = ℕ} s (Ok c.in-Ok.number) c.in-Ok.ensures.value.0 digits in
    let first : get_or s 0 0 ≡ 48 → length s ≡ 1 = elim c.else-text-gt1.branch [
      | else-text-gt1-via-then-text-gt1+else-starts_with w ↦
          λ e. absurd (false≢true (sym w.if-starts_with.false
          ∙ (starts_char 48 s w.starts_with.result w.starts_with.ensures.cases (omega arith) (omega arith)).1 e))
      | else-text-gt1-via-else-text-gt1 w ↦ λ e. let low = w.if-text-gt1.false in let high = parsed.0.0 in omega arith
    ] in
    number_written s c.in-Ok.number digits first parsed.0 parsed.1

pub returns-in-Err : goal.returns-in-Err
returns-in-Err c =
    no_number_parsed c.args.text.now (number_parsed c.args.text.now (Err c.in-Err.field-0) c.in-Err.ensures.value.0
    (sym c.if-not-has_digits_alone.ensures))
