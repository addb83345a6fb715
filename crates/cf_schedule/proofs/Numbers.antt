-- Whole numbers without sign or leading zeros.
use Rattle.std.proofs.Common.{◌≡◌, ℕ, ◌<◌, ◌≤◌, ◌^◌, true, false, List, ◌∷◌, length, get_or, sym, ap, ◌∙◌, subst, arith}
use Rattle.std.proofs.Common.{zero, suc}
use Rattle.std.specs.Prelude.{Result}
use Rattle.std.specs.Result.{OkIff}
use Rattle.std.specs.Char.{is_ascii_digit}
use Rattle.std.specs.List.{list_all}
use Rattle.std.specs.Str.Parse.{digits_value, ParsesUnsigned}
use Rattle.std.specs.Fmt.{decimal}
use Rattle.std.proofs.lemmas.Bool.{false≢true}
use Rattle.std.proofs.lemmas.Fmt.{digits_decimal, digits_value-decimal, decimal-digits_value, decimal_nonempty}
use Rattle.std.proofs.lemmas.Fmt.{decimal_digit, first_decimal}
use Rattle.std.proofs.lemmas.Str.Parse.{parse_digits}
use Rattle.cf_schedule.specs.ScheduleLine.{last_number}
use Rattle.cf_schedule.specs.LineRead.{IsNoNumber}
use Rattle.cf_schedule.proofs.Spacing.{own}

pub no_number_undigits : (s : List ℕ) → list_all is_ascii_digit s ≡ false → IsNoNumber s
no_number_undigits s h =
    λ n l e. false≢true (sym h ∙ ap (list_all is_ascii_digit) e ∙ digits_decimal own n (omega arith))

first_of : (n : ℕ) → n ≤ last_number → get_or (decimal n) 0 0 ≡ 48 → length (decimal n) ≡ 1
first_of zero l e = ap length (decimal_digit 0 (omega arith))
first_of (suc n) l e = absurd (omega (arith, first_decimal (suc n) (omega arith) (omega arith)))

pub no_number_zero : (s : List ℕ) → 1 < length s → get_or s 0 0 ≡ 48 → IsNoNumber s
no_number_zero s long first = λ n l e.
    let one = first_of n l (sym (ap (λ t. get_or t 0 0) e) ∙ first) in
    omega (arith, ap length e)

pub number_parsed : {E : Type 0} (s : List ℕ) (r : Result ℕ E) → ParsesUnsigned 64 10 s r
    → list_all is_ascii_digit s ≡ true
    → OkIff r ((0 < length s) × (digits_value 10 s < 2 ^ 64)) (digits_value 10 s)
number_parsed s r h d = parse_digits own 64 s r h d

pub number_written : (s : List ℕ) (n : ℕ) → list_all is_ascii_digit s ≡ true → (get_or s 0 0 ≡ 48 → length s ≡ 1)
    → (0 < length s) × (digits_value 10 s < 2 ^ 64) → n ≡ digits_value 10 s → s ≡ decimal n
number_written s n d z h e = sym (decimal-digits_value own s d h.0 z h.1) ∙ ap decimal (sym e)

pub no_number_parsed : (s : List ℕ) → ((0 < length s) × (digits_value 10 s < 2 ^ 64) → ⊥) → IsNoNumber s
no_number_parsed s h = λ n l e.
    let v : digits_value 10 s ≡ n = ap (digits_value 10) e ∙ digits_value-decimal own n (omega arith) in
    let long : 0 < length s = subst (λ t. 0 < length t) (sym e) (decimal_nonempty n (omega arith)) in
    h (long, omega arith)

-- a number has no sign
pub number_unsigned : (n : ℕ) → n ≤ last_number → (s : List ℕ) → decimal n ≡ 45 ∷ s → ⊥
number_unsigned zero l s e = omega (arith, ap (λ t. get_or t 0 0) (sym (decimal_digit 0 (omega arith)) ∙ e))
number_unsigned (suc n) l s e =
    omega (arith, first_decimal (suc n) (omega arith) (omega arith), ap (λ t. get_or t 0 0) e)
