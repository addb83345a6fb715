-- A string has characters exactly where each high surrogate stands right before a low one, and each low one right
-- behind a high one.
use Rattle.std.proofs.Common.{◌≡◌, ◌≢◌, ℕ, ◌<◌, ◌≤◌, Bool, true, false, cond, not, ◌&&◌, List, [], ◌∷◌, length, take}
use Rattle.std.proofs.Common.{drop, get_or, Option, Some, None, is_some, refl, sym, ap, ◌∙◌, subst, arith, inl, inr}
use mathlib.Core.Bool.{beq}
use Rattle.std.proofs.lemmas.List.{nil_from_length}
use Rattle.std.proofs.lemmas.Bool.{cases_Bool, true≢false, ne_eqb}
use Rattle.std.specs.Char.{encode_utf8}
use Rattle.cf_json.specs.Characters.{Piece, byte, unit, is_high, is_low, paired, before, alone, joined, a_piece, pieces}
use Rattle.cf_json.specs.Characters.{code_unit}

-- the flag says that a high surrogate stands right before
unfoldable pub are_pairs : Bool → List Piece → Bool
are_pairs high [] = not high
are_pairs high (byte x ∷ ps) = not high && are_pairs false ps
are_pairs high (unit u ∷ ps) = cond high (is_low u) (not (is_low u)) && are_pairs (is_high u) ps

some_before : (s : List ℕ) (o : Option (List ℕ)) → is_some (before s o) ≡ is_some o
some_before s None = refl
some_before s (Some t) = refl

not_both : (u : ℕ) → is_high u ≡ true → is_low u ≡ false
unfolding is_high is_low
not_both u h = grind arith

not_high_alone : (u : ℕ) (ps : List Piece) → is_high u ≡ false → joined (unit u ∷ ps) ≡ alone u (joined ps)
unfolding joined
not_high_alone u [] h = refl
not_high_alone u (byte x ∷ ps) h = refl
not_high_alone u (unit v ∷ ps) h = rw h refl

high_alone : (u : ℕ) (more : Option (List ℕ)) → is_high u ≡ true → alone u more ≡ None
high_alone u more h = rw h refl

low_alone : (u : ℕ) (more : Option (List ℕ)) → is_high u ≡ false → is_low u ≡ true → alone u more ≡ None
low_alone u more h l = rw (h, l) refl

other_alone : (u : ℕ) (more : Option (List ℕ)) → is_high u ≡ false → is_low u ≡ false
    → alone u more ≡ before (encode_utf8 u) more
other_alone u more h l = rw (h, l) refl

pub record Tells (ps : List Piece) : Type 0 where
  pub here : is_some (joined ps) ≡ are_pairs false ps
  pub behind : (u : ℕ) → is_high u ≡ true → is_some (joined (unit u ∷ ps)) ≡ are_pairs true ps

tells_byte : (x : ℕ) (ps : List Piece) → Tells ps → Tells (byte x ∷ ps)
unfolding joined are_pairs
tells_byte x ps t = record {
  here = some_before (x ∷ []) (joined ps) ∙ t.here;
  behind = λ u h. ap is_some (high_alone u (joined (byte x ∷ ps)) h);
}

unit_here : (u : ℕ) (ps : List Piece) → Tells ps
    → is_some (joined (unit u ∷ ps)) ≡ not (is_low u) && are_pairs (is_high u) ps
unit_here u ps t = elim (cases_Bool (is_high u)) [
  | inl high ↦ rw (not_both u high, high) (t.behind u high)
  | inr not_high ↦ elim (cases_Bool (is_low u)) [
    | inl low ↦ rw low (ap is_some (not_high_alone u ps not_high ∙ low_alone u (joined ps) not_high low))
    | inr not_low ↦
        rw (not_low, not_high) (ap is_some (not_high_alone u ps not_high ∙ other_alone u (joined ps) not_high not_low)
        ∙ some_before (encode_utf8 u) (joined ps) ∙ t.here)
  ]
]

unit_behind : (u v : ℕ) (ps : List Piece) → Tells ps → is_high u ≡ true
    → is_some (joined (unit u ∷ unit v ∷ ps)) ≡ is_low v && are_pairs (is_high v) ps
unfolding joined
unit_behind u v ps t h = elim (cases_Bool (is_low v)) [
  | inl low ↦ elim (cases_Bool (is_high v)) [
    | inl high ↦ absurd (true≢false (sym low ∙ not_both v high))
    | inr not_high ↦ rw (h, low, not_high) (some_before (encode_utf8 (paired u v)) (joined ps) ∙ t.here)
  ]
  | inr not_low ↦ rw (h, not_low) refl
]

pub tells : (ps : List Piece) → Tells ps
unfolding joined are_pairs
tells [] = record { here = refl; behind = λ u h. ap is_some (high_alone u (Some []) h) }
tells (byte x ∷ ps) = tells_byte x ps (tells ps)
tells (unit u ∷ ps) = record { here = unit_here u ps (tells ps); behind = λ v h. unit_behind v u ps (tells ps) h }

-- ---- a step over what is spelled, by what stands at the front of it

plain_step : (high : Bool) (x : ℕ) (xs : List ℕ) → x ≢ 92
    → are_pairs high (pieces a_piece (x ∷ xs)) ≡ not high && are_pairs false (pieces a_piece xs)
unfolding pieces are_pairs
plain_step high x xs b = rw (ne_eqb x 92 b) refl

escape_step : (high : Bool) (x : ℕ) (xs : List ℕ) → x ≢ 117
    → are_pairs high (pieces a_piece (92 ∷ x ∷ xs)) ≡ not high && are_pairs false (pieces a_piece xs)
unfolding pieces are_pairs
escape_step high x xs u = rw (ne_eqb x 117 u) refl

abbrev unit_test : Bool → ℕ → Bool
unit_test high u = cond high (is_low u) (not (is_low u))

unit_step : (high : Bool) (a b c d : ℕ) (xs : List ℕ)
    → are_pairs high (pieces a_piece (92 ∷ 117 ∷ a ∷ b ∷ c ∷ d ∷ xs)) ≡ unit_test high (code_unit a b c d)
    && are_pairs (is_high (code_unit a b c d)) (pieces a_piece xs)
unfolding pieces are_pairs
unit_step high a b c d xs = refl

short_step : (high : Bool) (xs : List ℕ) → length xs < 4 → are_pairs high (pieces a_piece (92 ∷ 117 ∷ xs)) ≡ not high
unfolding pieces are_pairs
short_step high [] h = refl
short_step high (a ∷ []) h = refl
short_step high (a ∷ b ∷ []) h = refl
short_step high (a ∷ b ∷ c ∷ []) h = refl
short_step high (a ∷ b ∷ c ∷ d ∷ xs) h = let no : ⊥ = omega arith in absurd no

pub four : (xs digits behind : List ℕ) → 4 ≤ length xs → digits ≡ take 4 xs → behind ≡ drop 4 xs
    → xs ≡ get_or digits 0 0 ∷ get_or digits 1 0 ∷ get_or digits 2 0 ∷ get_or digits 3 0 ∷ behind
four [] digits behind h d b = let no : ⊥ = omega arith in absurd no
four (p ∷ []) digits behind h d b = let no : ⊥ = omega arith in absurd no
four (p ∷ q ∷ []) digits behind h d b = let no : ⊥ = omega arith in absurd no
four (p ∷ q ∷ r ∷ []) digits behind h d b = let no : ⊥ = omega arith in absurd no
four (p ∷ q ∷ r ∷ s ∷ xs) digits behind h d b = rw (d, b) refl

module _ (high n : Bool) (rest : List ℕ) (is : are_pairs high (pieces a_piece rest) ≡ n) where
  read : (form : List ℕ) → rest ≡ form → are_pairs high (pieces a_piece form) ≡ n
  read form e = subst (λ r. are_pairs high (pieces a_piece r) ≡ n) e is

  pub at_end : length rest ≡ 0 → not high ≡ n
  unfolding pieces are_pairs
  at_end e = read [] (nil_from_length rest e)

  pub past_plain : (x : ℕ) (more : List ℕ) → rest ≡ x ∷ more → x ≢ 92
      → not high && are_pairs false (pieces a_piece more) ≡ n
  past_plain x more e b = sym (plain_step high x more b) ∙ read (x ∷ more) e

  -- behind a backslash
  module _ (x : ℕ) (more : List ℕ) (e : rest ≡ x ∷ more) (b : x ≡ 92) where
    behind : (form : List ℕ) → more ≡ form → rest ≡ 92 ∷ form
    behind form m = e ∙ ap (λ z. z ∷ more) b ∙ ap (λ t. 92 ∷ t) m

    pub lone_backslash : length more ≡ 0 → not high ≡ n
    unfolding pieces are_pairs
    lone_backslash m = read (92 ∷ []) (behind [] (nil_from_length more m))

    module _ (y : ℕ) (after : List ℕ) (m : more ≡ y ∷ after) where
      pub past_escape : y ≢ 117 → not high && are_pairs false (pieces a_piece after) ≡ n
      past_escape u = sym (escape_step high y after u) ∙ read (92 ∷ y ∷ after) (behind (y ∷ after) m)

      pub past_short : y ≡ 117 → length after < 4 → not high ≡ n
      past_short u l =
          sym (short_step high after l) ∙ read (92 ∷ 117 ∷ after) (behind (117 ∷ after) (m ∙ ap (λ z. z ∷ after) u))

      pub past_unit : y ≡ 117 → (p q r s : ℕ) (others : List ℕ) → after ≡ p ∷ q ∷ r ∷ s ∷ others
          → unit_test high (code_unit p q r s) && are_pairs (is_high (code_unit p q r s)) (pieces a_piece others) ≡ n
      past_unit u p q r s others a =
          sym (unit_step high p q r s others) ∙ read (92 ∷ 117 ∷ p ∷ q ∷ r ∷ s ∷ others)
          (behind (117 ∷ p ∷ q ∷ r ∷ s ∷ others) (m ∙ ap (λ z. z ∷ after) u ∙ ap (λ t. 117 ∷ t) a))

-- ---- which way a test of the flag went

pub stops : (high r n : Bool) → not high && r ≡ n → high ≡ true → false ≡ n
stops high r n e h = ap (λ b. not b && r) (sym h) ∙ e

pub goes_on : (high n : Bool) (ps : List Piece) → not high && are_pairs false ps ≡ n → high ≡ false
    → are_pairs high ps ≡ n
goes_on high n ps e h = ap (λ b. are_pairs b ps) h ∙ ap (λ b. not b && are_pairs false ps) (sym h) ∙ e

pub stops_at_unit : (high low r n : Bool) (u : ℕ) → unit_test high u && r ≡ n → low ≡ is_low u
    → not (beq low high) ≡ true → false ≡ n
stops_at_unit high low r n u e is t = by_cases high low (is_low u) is t ∙ e
  where
    by_cases : (h l k : Bool) → l ≡ k → not (beq l h) ≡ true → false ≡ cond h k (not k) && r
    by_cases true true k i t = absurd (true≢false (sym t))
    by_cases true false k i t = ap (λ b. b && r) i
    by_cases false true k i t = ap (λ b. not b && r) i
    by_cases false false k i t = absurd (true≢false (sym t))

pub passes_unit : (high low r n : Bool) (u : ℕ) → unit_test high u && r ≡ n → low ≡ is_low u
    → not (beq low high) ≡ false → r ≡ n
passes_unit high low r n u e is t = by_cases high low (is_low u) is t ∙ e
  where
    by_cases : (h l k : Bool) → l ≡ k → not (beq l h) ≡ false → r ≡ cond h k (not k) && r
    by_cases true true k i t = ap (λ b. b && r) i
    by_cases true false k i t = absurd (true≢false t)
    by_cases false true k i t = absurd (true≢false t)
    by_cases false false k i t = ap (λ b. not b && r) i
