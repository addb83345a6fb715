-- A text that is quoted is a string of the grammar, its characters are the text again, and its length is the one that
-- is named.
use Rattle.std.proofs.Common.{◌≡◌, ℕ, ◌<◌, ◌/◌, ◌%◌, List, [], ◌∷◌, ◌++◌, length, Option, Some, None, Bool, true, false}
use Rattle.std.proofs.Common.{cond, nat_lt, refl, ap, ◌∙◌, arith, inl, inr, length-append}
use Rattle.std.specs.List.{sum_by}
use Rattle.std.proofs.lemmas.List.Concat.{length-flat_map}
use Rattle.std.proofs.lemmas.Bool.{cases_lt, lt-ltb, le-ltb, lt-leb, ne_eqb}
use Rattle.std.proofs.lemmas.Str.{encode_ascii}
use Rattle.cf_json.specs.Bytes.{is_escape, is_hex, is_digit}
use Rattle.cf_json.specs.Grammar.{IsText, nothing, plain, escaped as short, unicode}
use Rattle.cf_json.specs.Characters.{Piece, byte, unit, a_piece, pieces, before, alone, joined, characters, meaning}
use Rattle.cf_json.specs.Characters.{hex_value, code_unit, is_high, is_low}
use Rattle.cf_json.specs.Quoting.{short_letter, hex_digit, escape, escape_by, length_by, escaped, quoted, escape_length}
use Rattle.cf_json.specs.Quoting.{quoted_length}
use Rattle.cf_json.proofs.Escapes.{unless}

-- ---- a string of the grammar

pub IsText-append : (a b : List ℕ) → IsText a → IsText b → IsText (a ++ b)
IsText-append _ b nothing h = h
IsText-append _ b (plain l q s t) h = plain l q s (IsText-append _ b t h)
IsText-append _ b (short e t) h = short e (IsText-append _ b t h)
IsText-append _ b (unicode p q r s t) h = unicode p q r s (IsText-append _ b t h)

digit_is_hex : (n : ℕ) → n < 16 → is_hex (hex_digit n) ≡ true
unfolding is_hex is_digit
digit_is_hex n h = grind arith

byte_is_text : (x : ℕ) → IsText (escape x)
unfolding escape short_letter is_escape is_hex is_digit
byte_is_text x =
    unless P 34 (short refl nothing) x (λ a. unless P 92 (short refl nothing) x
    (λ b. unless P 8 (short refl nothing) x (λ c. unless P 12 (short refl nothing) x (λ d.
    unless P 10 (short refl nothing) x (λ e. unless P 13 (short refl nothing) x
    (λ f. unless P 9 (short refl nothing) x (λ g.
    rw (ne_eqb x 34 a, ne_eqb x 92 b, ne_eqb x 8 c, ne_eqb x 12 d, ne_eqb x 10 e, ne_eqb x 13 f, ne_eqb x 9 g)
    (elim (cases_lt x 32) [
      | inl low ↦ rw (lt-ltb x 32 low) (unicode refl refl (digit_is_hex (x / 16) (omega arith))
          (digit_is_hex (x % 16) (omega arith)) nothing)
      | inr high ↦ rw (le-ltb x 32 high) (plain high a b nothing)
    ]))))))))
  where
    P : ℕ → Type 0
    P y = IsText (escape y)

pub escaped_is_text : (s : List ℕ) → IsText (escaped s)
escaped_is_text [] = nothing
escaped_is_text (x ∷ xs) = IsText-append (escape x) (escaped xs) (byte_is_text x) (escaped_is_text xs)

-- ---- the characters again

hex_back : (n : ℕ) → n < 16 → hex_value (hex_digit n) ≡ n
unfolding hex_value
hex_back n h = grind arith

control_unit : (x : ℕ) → x < 32 → code_unit 48 48 (hex_digit (x / 16)) (hex_digit (x % 16)) ≡ x
unfolding code_unit
control_unit x h =
    let zero : hex_value 48 ≡ 0 = hex_back 0 (omega arith) in
    let high : hex_value (hex_digit (x / 16)) ≡ x / 16 = hex_back (x / 16) (omega arith) in
    let low : hex_value (hex_digit (x % 16)) ≡ x % 16 = hex_back (x % 16) (omega arith) in
    rw (zero, high, low) (omega arith)

no_high : (x : ℕ) → x < 32 → is_high x ≡ false
unfolding is_high
no_high x h = rw (lt-leb 0xD800 x (omega arith)) refl

no_low : (x : ℕ) → x < 32 → is_low x ≡ false
unfolding is_low
no_low x h = rw (lt-leb 0xDC00 x (omega arith)) refl

control_alone : (x : ℕ) → x < 32 → (more : Option (List ℕ)) → alone x more ≡ before (x ∷ []) more
control_alone x h more = rw (no_high x h, no_low x h, encode_ascii x (omega arith)) refl

control_joined : (x : ℕ) → x < 32 → (ps : List Piece) → joined (unit x ∷ ps) ≡ before (x ∷ []) (joined ps)
unfolding joined
control_joined x h [] = control_alone x h (Some [])
control_joined x h (byte y ∷ ps) = control_alone x h (joined (byte y ∷ ps))
control_joined x h (unit u ∷ ps) = rw (no_high x h, no_low x h, encode_ascii x (omega arith)) refl

byte_joined : (r : List ℕ) (x : ℕ) → joined (pieces a_piece (escape x ++ r))
    ≡ before (x ∷ []) (joined (pieces a_piece r))
unfolding escape short_letter pieces joined meaning
byte_joined r x =
    unless P 34 refl x (λ a. unless P 92 refl x (λ b. unless P 8 refl x
    (λ c. unless P 12 refl x (λ d. unless P 10 refl x (λ e. unless P 13 refl x (λ f. unless P 9 refl x (λ g.
    rw (ne_eqb x 34 a, ne_eqb x 92 b, ne_eqb x 8 c, ne_eqb x 12 d, ne_eqb x 10 e, ne_eqb x 13 f, ne_eqb x 9 g)
    (elim (cases_lt x 32) [
      | inl low ↦ rw (lt-ltb x 32 low) (ap (λ u. joined (unit u ∷ pieces a_piece r)) (control_unit x low)
          ∙ control_joined x low (pieces a_piece r))
      | inr high ↦ rw (le-ltb x 32 high, ne_eqb x 92 b) refl
    ]))))))))
  where
    P : ℕ → Type 0
    P y = joined (pieces a_piece (escape y ++ r)) ≡ before (y ∷ []) (joined (pieces a_piece r))

pub characters-escaped : (s : List ℕ) → characters (escaped s) ≡ Some s
unfolding pieces joined
characters-escaped [] = refl
characters-escaped (x ∷ xs) = byte_joined (escaped xs) x ∙ ap (before (x ∷ [])) (characters-escaped xs)

-- ---- how long it is

byte_length : (x : ℕ) → length (escape x) ≡ escape_length x
unfolding escape escape_length
byte_length x = by_letter (short_letter x)
  where
    by_test : (b : Bool) → length (cond b (92 ∷ 117 ∷ 48 ∷ 48 ∷ hex_digit (x / 16) ∷ hex_digit (x % 16) ∷ []) (x ∷ []))
        ≡ cond b 6 1
    by_test true = refl
    by_test false = refl

    by_letter : (o : Option ℕ) → length (escape_by x o) ≡ length_by x o
    by_letter None = by_test (nat_lt x 32)
    by_letter (Some letter) = refl

pub length-quoted : (s : List ℕ) → length (quoted s) ≡ quoted_length s
length-quoted s =
    let inside : length (escaped s) ≡ sum_by escape_length s =
    length-flat_map escape s ∙ (λ i. sum_by (λ x. byte_length x i) s) in
    omega (arith, length-append (escaped s) (34 ∷ []))
