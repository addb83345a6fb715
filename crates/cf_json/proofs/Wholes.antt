-- Whole numbers: what `parse` reads of a number's spelling.
use Rattle.std.proofs.Common.{◌≡◌, ◌⊎◌, ℕ, zero, suc, ◌<◌, ◌^◌, List, [], ◌∷◌, ◌++◌, length, get_or, Bool, true, false}
use Rattle.std.proofs.Common.{◌==◌, Option, Some, None, refl, sym, ap, ◌∙◌, subst, arith, inl, inr}
use Rattle.std.specs.Prelude.{ℤ, pos, negsuc, neg_ℤ, nat_lt, decimal, option_map, option_and_then}
use Rattle.std.specs.Option.{SomeIff}
use Rattle.std.specs.Str.{bytes_eq}
use Rattle.std.specs.Str.Parse.{IsNumeral, AllDigits as Digits, digits_value, signed_digits_value, without_leading_sign}
use Rattle.std.proofs.lemmas.Bool.{cases_lt, lt-ltb, le-ltb, eqb-true}
use Rattle.std.proofs.lemmas.Fmt.{decimal-digits_value, digits_decimal}
use Rattle.std.proofs.lemmas.List.{append-nil}
use Rattle.std.proofs.lemmas.Slice.Eq.{bytes_eq-Decides}
use Rattle.std.proofs.lemmas.Str.Parse.{IsNumeralModel, numerals_by_value, tells_digits}
use mir.Syntax.{w64}
use mir.Val.{SFits}
use Rattle.cf_json.specs.Bytes.{is_digit, is_exponent_mark}
use Rattle.cf_json.specs.Grammar.{IsMinus, IsWhole, IsFraction, IsExponent, IsNumber}
use Rattle.cf_json.specs.Integers.{whole_of, signed_of, as_u64, as_i64}
use Rattle.cf_json.proofs.Numbers.{number_begins, no_plus}

own : IsNumeralModel (Digits 10) (digits_value 10)
own = numerals_by_value (Digits 10) tells_digits

-- ---- a number that is spelled by digits has no leading zero

front_digits : (a b : List ℕ) → Digits 10 (a ++ b) → Digits 10 a
front_digits [] b h = tt
front_digits (x ∷ a) b h = (h.0, front_digits a b h.1)

back_digits : (a b : List ℕ) → Digits 10 (a ++ b) → Digits 10 b
back_digits [] b h = h
back_digits (x ∷ a) b h = back_digits a b h.1

no_minus : (s : List ℕ) → IsMinus s → Digits 10 s → s ≡ []
no_minus s h d =
    elim h [ inl e ↦ e | inr e ↦ let b : Digits 10 (45 ∷ []) = subst (Digits 10) e d in absurd (omega (arith, b.0)) ]

no_fraction : (s : List ℕ) → IsFraction s → Digits 10 s → s ≡ []
no_fraction s h d =
    elim h [ inl e ↦ e | inr g ↦ let b : Digits 10 (46 ∷ g.0) = subst (Digits 10) g.1 d in absurd (omega (arith, b.0)) ]

mark_cases : (x : ℕ) → is_exponent_mark x ≡ true → (x ≡ 101) ⊎ (x ≡ 69)
unfolding is_exponent_mark
mark_cases x h = grind arith

no_exponent : (s : List ℕ) → IsExponent s → Digits 10 s → s ≡ []
no_exponent s h d =
    elim h [
      | inl e ↦ e
      | inr g ↦ elim (mark_cases g.0 g.4) [
        | inl m ↦ let b : Digits 10 (101 ∷ (g.1 ++ g.2)) = subst (Digits 10) (g.3 ∙ ap (λ x. x ∷ (g.1 ++ g.2)) m) d in
            absurd (omega (arith, b.0))
        | inr m ↦ let b : Digits 10 (69 ∷ (g.1 ++ g.2)) = subst (Digits 10) (g.3 ∙ ap (λ x. x ∷ (g.1 ++ g.2)) m) d in
            absurd (omega (arith, b.0))
      ]
    ]

is_whole : (n : List ℕ) → IsNumber n → Digits 10 n → IsWhole n
is_whole n h d =
    let m = h.0 in let w = h.1 in let f = h.2 in let x = h.3 in
    let all : Digits 10 (m ++ (w ++ (f ++ x))) = subst (Digits 10) h.4 d in
    let tail : Digits 10 (w ++ (f ++ x)) = back_digits m (w ++ (f ++ x)) all in
    let ends : Digits 10 (f ++ x) = back_digits w (f ++ x) tail in
    let none : m ≡ [] = no_minus m h.5 (front_digits m (w ++ (f ++ x)) all) in
    let point : f ≡ [] = no_fraction f h.7 (front_digits f x ends) in
    let mark : x ≡ [] = no_exponent x h.8 (back_digits f x ends) in
    let same : n ≡ w =
    h.4 ∙ ap (λ t. t ++ (w ++ (f ++ x))) none ∙ ap (λ t. w ++ (t ++ x)) point ∙ ap (λ t. w ++ t) mark
    ∙ append-nil w in
    subst IsWhole (sym same) h.6

no_zeros : (n : List ℕ) → IsWhole n → get_or n 0 0 ≡ 48 → length n ≡ 1
no_zeros n h z = elim h [ inl e ↦ ap length e | inr g ↦ absurd (g.3 (ap (λ t. get_or t 0 0) (sym g.2) ∙ z)) ]

not_empty : (n : List ℕ) → IsNumber n → 0 < length n
not_empty n h = let b = number_begins n h in omega (arith, ap length b.2)

-- ---- digits and their value

whole_numeral : (n : List ℕ) → IsNumber n → IsNumeral 10 n → digits_value 10 n < 2 ^ 64
    → whole_of n ≡ Some (digits_value 10 n)
whole_numeral n h is lt =
    let e : n ≡ decimal (digits_value 10 n) =
    sym (decimal-digits_value own n is.1 is.0 (no_zeros n (is_whole n h is.1)) lt) in
    let t : bytes_eq n (decimal (digits_value 10 n)) ≡ true = (bytes_eq-Decides n (decimal (digits_value 10 n))).1 e in
    rw t refl

-- nothing is read, or the digits' value
abbrev Reads : List ℕ → Type 0
Reads n = (whole_of n ≡ None) ⊎ ((whole_of n ≡ Some (digits_value 10 n)) × (digits_value 10 n < 2 ^ 64 → Digits 10 n))

reads : (n : List ℕ) → Reads n
reads n = by_case (bytes_eq n (decimal (digits_value 10 n))) refl
  where
    by_case : (b : Bool) → bytes_eq n (decimal (digits_value 10 n)) ≡ b → Reads n
    by_case false e = inl (rw e refl)
    by_case true e = let same = (bytes_eq-Decides n (decimal (digits_value 10 n))).0 e in
        inr (rw e refl, λ lt. subst (Digits 10) (sym same) (digits_decimal own (digits_value 10 n) lt))

-- ---- without a sign

pub unsigned_reads : (n : List ℕ) (r : Option ℕ) → IsNumber n
    → SomeIff r (IsNumeral 10 n × (digits_value 10 n < 2 ^ 64)) (digits_value 10 n)
    → r ≡ option_and_then as_u64 (whole_of n)
unsigned_reads n (Some x) h is =
    let v : ℕ = digits_value 10 n in
    let small : nat_lt v (2 ^ 64) ≡ true = lt-ltb v (2 ^ 64) is.0.1 in
    let some : as_u64 v ≡ Some v = rw small refl in
    ap Some is.1 ∙ sym some ∙ sym (ap (option_and_then as_u64) (whole_numeral n h is.0.0 is.0.1))
unsigned_reads n None h is =
    let v : ℕ = digits_value 10 n in
    elim (reads n) [
      | inl none ↦ sym (ap (option_and_then as_u64) none)
      | inr some ↦ elim (cases_lt v (2 ^ 64)) [
        | inl lt ↦ absurd (is ((not_empty n h, some.1 lt), lt))
        | inr ge ↦ let large : nat_lt v (2 ^ 64) ≡ false = le-ltb v (2 ^ 64) ge in let none : as_u64 v ≡ None =
            rw large refl in sym (ap (option_and_then as_u64) some.0 ∙ none)
      ]
    ]

-- ---- with one

range_step : (z : ℤ) → ((as_i64 z ≡ Some z) × SFits w64 z) ⊎ ((as_i64 z ≡ None) × (SFits w64 z → ⊥))
range_step (pos n) =
    elim (cases_lt n (2 ^ 63)) [
      | inl lt ↦ let t : nat_lt n (2 ^ 63)
          ≡ true = lt-ltb n (2 ^ 63) lt in inl (rw t refl, record { sfits = lt })
      | inr ge ↦
          let t : nat_lt n (2 ^ 63) ≡ false = le-ltb n (2 ^ 63) ge in inr (rw t refl, λ f. omega (arith, f.sfits, ge))
    ]
range_step (negsuc n) =
    elim (cases_lt n (2 ^ 63)) [
      | inl lt ↦ let t : nat_lt n (2 ^ 63)
          ≡ true = lt-ltb n (2 ^ 63) lt in inl (rw t refl, record { sfits = lt })
      | inr ge ↦
          let t : nat_lt n (2 ^ 63) ≡ false = le-ltb n (2 ^ 63) ge in inr (rw t refl, λ f. omega (arith, f.sfits, ge))
    ]

module _ (f : ℕ → ℤ) (fits : (k : ℕ) → SFits w64 (f k) → k < 2 ^ 64) where
  part_reads : (s : List ℕ) (r : Option ℤ) → IsNumber s
      → SomeIff r (IsNumeral 10 s × SFits w64 (f (digits_value 10 s))) (f (digits_value 10 s))
      → r ≡ option_and_then as_i64 (option_map f (whole_of s))
  part_reads s (Some x) h is =
      let v : ℕ = digits_value 10 s in
      let read = ap (λ o. option_and_then as_i64 (option_map f o)) (whole_numeral s h is.0.0 (fits v is.0.1)) in
      elim (range_step (f v)) [
        | inl in_range ↦ ap Some is.1 ∙ sym in_range.0 ∙ sym read
        | inr out ↦ absurd (out.1 is.0.1)
      ]
  part_reads s None h is =
      let v : ℕ = digits_value 10 s in
      elim (reads s) [
        | inl none ↦ sym (ap (λ o. option_and_then as_i64 (option_map f o)) none)
        | inr some ↦ elim (range_step (f v)) [
          | inl in_range ↦ absurd (is ((not_empty s h, some.1 (fits v in_range.1)), in_range.1))
          | inr out ↦ sym (ap (λ o. option_and_then as_i64 (option_map f o)) some.0 ∙ out.0)
        ]
      ]

pos_fits : (k : ℕ) → SFits w64 (pos k) → k < 2 ^ 64
pos_fits k h = omega (arith, h.sfits)

neg_fits : (k : ℕ) → SFits w64 (neg_ℤ (pos k)) → k < 2 ^ 64
neg_fits zero h = omega arith
neg_fits (suc k) h = omega (arith, h.sfits)

minus_is_no_digit : is_digit 45 ≡ false
unfolding is_digit
minus_is_no_digit = refl

first_is : (x : ℕ) (s t : List ℕ) (y : ℕ) → x ∷ s ≡ y ∷ t → x ≡ y
first_is x s t y e = cc

-- what stands behind a minus is a number too
behind_minus : (s : List ℕ) → IsNumber (45 ∷ s) → IsNumber s
behind_minus s h =
    let w = h.1 in let f = h.2 in let x = h.3 in
    elim h.5 [
      | inl none ↦
          let e : 45 ∷ s ≡ w ++ (f ++ x) = h.4 ∙ ap (λ t. t ++ (w ++ (f ++ x))) none in
          absurd (elim h.6 [
            | inl z ↦ let b = first_is 45 s (f ++ x) 48 (e ∙ ap (λ t. t ++ (f ++ x)) z) in omega (arith, b)
            | inr g ↦ let b = first_is 45 s (g.1 ++ (f ++ x)) g.0 (e ∙ ap (λ t. t ++ (f ++ x)) g.2) in
                let d : is_digit 45 ≡ true = ap is_digit b ∙ g.4.0 in let both : false ≡ true =
                sym minus_is_no_digit ∙ d in cc
          ])
      | inr one ↦
          let e : 45 ∷ s ≡ 45 ∷ (w ++ (f ++ x)) = h.4 ∙ ap (λ t. t ++ (w ++ (f ++ x))) one in
          let rest : s ≡ w ++ (f ++ x) = cc in
          ([], w, f, x, rest, inl refl, h.6, h.7, h.8)
    ]

by_sign : (x : ℕ) (s : List ℕ) (b : Bool) (r : Option ℤ) → (x == 45) ≡ b → IsNumber (x ∷ s)
    → SomeIff r (IsNumeral 10 (without_leading_sign (x ∷ s)) × SFits w64 (signed_digits_value 10 (x ∷ s)))
    (signed_digits_value 10 (x ∷ s)) → r ≡ option_and_then as_i64 (signed_of (x ∷ s))
by_sign x s true r e h is =
    let m : x ≡ 45 = eqb-true x 45 e in
    let at : IsNumber (45 ∷ s) = subst (λ y. IsNumber (y ∷ s)) m h in
    let read : SomeIff r (IsNumeral 10 s × SFits w64 (neg_ℤ (pos (digits_value 10 s))))
    (neg_ℤ (pos (digits_value 10 s))) =
    subst (λ y. SomeIff r (IsNumeral 10 (without_leading_sign (y ∷ s)) × SFits w64 (signed_digits_value 10 (y ∷ s)))
    (signed_digits_value 10 (y ∷ s))) m is in
    subst (λ y. r ≡ option_and_then as_i64 (signed_of (y ∷ s))) (sym m)
    (part_reads (λ k. neg_ℤ (pos k)) neg_fits s r (behind_minus s at) read)
by_sign x s false r e h is =
    let plain : without_leading_sign (x ∷ s) ≡ x ∷ s = rw e (no_plus (x ∷ s) h) in
    let value : signed_digits_value 10 (x ∷ s) ≡ pos (digits_value 10 (x ∷ s)) =
    rw e (ap (λ t. pos (digits_value 10 t)) (no_plus (x ∷ s) h)) in
    let read : SomeIff r (IsNumeral 10 (x ∷ s) × SFits w64 (pos (digits_value 10 (x ∷ s))))
    (pos (digits_value 10 (x ∷ s))) =
    subst (λ t. SomeIff r (IsNumeral 10 t × SFits w64 (pos (digits_value 10 (x ∷ s)))) (pos (digits_value 10 (x ∷ s))))
    plain (subst (λ z. SomeIff r (IsNumeral 10 (without_leading_sign (x ∷ s)) × SFits w64 z) z) value is) in
    let no : signed_of (x ∷ s) ≡ option_map pos (whole_of (x ∷ s)) = rw e refl in
    part_reads pos pos_fits (x ∷ s) r h read ∙ sym (ap (option_and_then as_i64) no)

pub signed_reads : (n : List ℕ) (r : Option ℤ) → IsNumber n
    → SomeIff r (IsNumeral 10 (without_leading_sign n) × SFits w64 (signed_digits_value 10 n))
    (signed_digits_value 10 n) → r ≡ option_and_then as_i64 (signed_of n)
signed_reads [] r h is = let b = number_begins [] h in absurd (omega (arith, ap length b.2))
signed_reads (x ∷ s) r h is = by_sign x s (x == 45) r refl h is
