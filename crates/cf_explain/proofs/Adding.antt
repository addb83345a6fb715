-- A remark more.
use Rattle.std.proofs.Common.{◌≡◌, ◌∙◌, ℕ, zero, suc, ◌^◌, ◌<◌, ◌≤◌, Bool, true, false, List, [], ◌∷◌, ◌++◌, length}
use Rattle.std.proofs.Common.{flat_map, refl, sym, ap, MatchBool, arith, rules, Some, None}
use Rattle.std.specs.Char.{is_ascii_digit}
use Rattle.std.specs.Fmt.{decimal}
use Rattle.std.specs.List.{list_all}
use Rattle.std.specs.Prelude.{codes}
use Rattle.std.specs.Str.Parse.{digits_value}
use Rattle.std.specs.Str.Pattern.{FindsChar}
use Rattle.std.proofs.lemmas.Bool.{and_parts, false≢true}
use Rattle.std.proofs.lemmas.Bool.Decides.{nat_tests}
use Rattle.std.proofs.lemmas.Fmt.{digits_decimal}
use Rattle.std.proofs.lemmas.Grind.{flat_map-append}
use Rattle.std.proofs.lemmas.List.{append-nil}
use Rattle.std.proofs.lemmas.Str.Parse.{IsNumeralModel, numerals_by_value}
use Rattle.std.proofs.lemmas.Str.Pattern.{contains_char}
use Rattle.cf_explain.specs.Remarks.{AreOneLine, AreRemarks, IsOneLine, heading, remark}

pub none_added : AreRemarks []
none_added = record { texts = []; one_line = tt; lines = refl }

one_more : (texts : List (List ℕ)) (text : List ℕ) → AreOneLine texts → IsOneLine text → AreOneLine (texts ++ text ∷ [])
one_more [] text all one = (one, tt)
one_more (t ∷ ts) text all one = (all.0, one_more ts text all.1 one)

pub remark_added : (bytes text : List ℕ) → AreRemarks bytes → IsOneLine text → AreRemarks (bytes ++ remark text)
remark_added bytes text h one = record {
  texts = h.texts ++ text ∷ [];
  one_line = one_more h.texts text h.one_line one;
  lines = ap (λ t. t ++ remark text) h.lines ∙ sym
      (flat_map-append remark h.texts (text ∷ []) ∙ ap (λ t. flat_map remark h.texts ++ t) (append-nil (remark text)));
}

-- no line feed was found in it
pub none_found : (text : List ℕ) (r : Bool) → MatchBool r
    ((i : ℕ) × (j : ℕ) × FindsChar 10 text (Some (i, j)) × (i ≤ j) × (j ≤ length text)) (FindsChar 10 text None)
    → r ≡ false → IsOneLine text
none_found text r cases h i low is = false≢true (sym h ∙ (contains_char 10 text r cases (omega arith)).1 i low is)

-- a line feed was found in it
pub some_found : (text : List ℕ) (r : Bool) → MatchBool r
    ((i : ℕ) × (j : ℕ) × FindsChar 10 text (Some (i, j)) × (i ≤ j) × (j ≤ length text)) (FindsChar 10 text None)
    → r ≡ true → IsOneLine text → ⊥
some_found text r cases h one = let at = (contains_char 10 text r cases (omega arith)).0 h in one at.0 at.1 at.2

-- ---- remarks behind others

all_more : (xs ys : List (List ℕ)) → AreOneLine xs → AreOneLine ys → AreOneLine (xs ++ ys)
all_more [] ys h k = k
all_more (x ∷ xs) ys h k = (h.0, all_more xs ys h.1 k)

pub remarks_joined : (old more : List ℕ) → AreRemarks old → AreRemarks more → AreRemarks (old ++ more)
remarks_joined old more h k = record {
  texts = h.texts ++ k.texts;
  one_line = all_more h.texts k.texts h.one_line k.one_line;
  lines = (λ i. h.lines i ++ k.lines i) ∙ sym (flat_map-append remark h.texts k.texts);
}

-- ---- an event's number and its line

line_joined : (xs ys : List ℕ) → IsOneLine xs → IsOneLine ys → IsOneLine (xs ++ ys)
line_joined [] ys h k i l = k i l
line_joined (x ∷ xs) ys h k zero l = h 0 (omega arith)
line_joined (x ∷ xs) ys h k (suc i) l = line_joined xs ys (λ j s. h (suc j) (omega arith)) k i (omega arith)

digits_line : (ds : List ℕ) → list_all is_ascii_digit ds ≡ true → IsOneLine ds
digits_line [] h i l = absurd (omega arith)
digits_line (d ∷ ds) h zero l = λ e. let digit = (and_parts (is_ascii_digit d) (list_all is_ascii_digit ds) h).0 in
    absurd (grind (arith, nat_tests, digit, e))
digits_line (d ∷ ds) h (suc i) l =
    digits_line ds (and_parts (is_ascii_digit d) (list_all is_ascii_digit ds) h).1 i (omega arith)

own : IsNumeralModel (λ ds. list_all is_ascii_digit ds ≡ true) (digits_value 10)
own = numerals_by_value (λ ds. list_all is_ascii_digit ds ≡ true) (search rules)

colon : IsOneLine (codes ": ")
colon zero l = λ e. absurd (cc)
colon (suc zero) l = λ e. absurd (cc)
colon (suc (suc i)) l = absurd (omega arith)

pub heading_line : (number : ℕ) (line : List ℕ) → number < 2 ^ 64 → IsOneLine line → IsOneLine (heading number line)
heading_line number line less one =
    line_joined (decimal number) (codes ": " ++ line) (digits_line (decimal number) (digits_decimal own number less))
    (line_joined (codes ": ") line colon one)
