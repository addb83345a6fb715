-- A datum of a line.
use Rattle.std.proofs.Common.{◌≡◌, ◌≢◌, ◌⊎◌, inl, inr, ℕ, ◌≤◌, true, false, List, [], ◌∷◌, ◌++◌, drop, refl, sym, ap}
use Rattle.std.proofs.Common.{◌∙◌, subst, arith}
use Rattle.std.specs.List.{AllByRecursion}
use Rattle.std.proofs.lemmas.Bool.{false≢true}
use Rattle.cf_json.specs.Bytes.{is_space, is_digit, is_exponent_mark}
use Rattle.cf_json.specs.Grammar.{Tree, null, boolean, number, text, array, object, IsNumber, Space, Value, Ends, Stops}
use Rattle.cf_json.specs.Grammar.{depth}
use Rattle.cf_json.specs.Spans.{Span, IsAt, Document, max_depth}
use Rattle.cf_json.specs.Compact.{compact_text}
use Rattle.cf_schedule.specs.ScheduleLine.{IsData}

space_ends : (x : ℕ) → is_space x ≡ true → (is_digit x ≡ false) × (x ≢ 46) × (is_exponent_mark x ≡ false)
unfolding is_space is_digit is_exponent_mark
space_ends x h = grind arith

ends_space : (s : List ℕ) → Space s [] → Ends s
ends_space s ([], all, e) = subst Ends (sym e) tt
ends_space s (x ∷ xs, all, e) = subst Ends (sym e) (space_ends x all.0)

stops_ends : (t : Tree) (r : List ℕ) → Ends r → Stops t r
stops_ends null r e = tt
stops_ends (boolean b) r e = tt
stops_ends (number n) r e = e
stops_ends (text c) r e = tt
stops_ends (array ps) r e = tt
stops_ends (object ps) r e = tt

-- the value of a text stands where it stands in it
pub document_is_at : (s : List ℕ) (t : Tree) (at : Span) → Document s t at → depth t ≤ max_depth → IsAt s t at
document_is_at s t at d deep =
    record {
      begins = d.begins;
      ends = d.ends;
      value = d.value;
      stops = stops_ends t _ (ends_space _ d.after);
      shallow = deep;
    }

-- ---- a text holds one value

abbrev pub OneValue : Type 0
OneValue = (t u : Tree) (s r q : List ℕ) → Value t s r → Stops t r → Value u s q → Stops u q → (t ≡ u) × (r ≡ q)

abbrev Begins : List ℕ → Type 0
Begins s = (x : ℕ) × (xs : List ℕ) × (s ≡ x ∷ xs) × (is_space x ≡ false)

digit_begins : (x : ℕ) → (x ≡ 45) ⊎ (is_digit x ≡ true) → is_space x ≡ false
unfolding is_space is_digit
digit_begins x h = grind arith

unspaced : (x : ℕ) → (x ≢ 32) × (x ≢ 9) × (x ≢ 10) × (x ≢ 13) → is_space x ≡ false
unfolding is_space
unspaced x h = grind arith

zero_digit : is_digit 48 ≡ true
unfolding is_digit
zero_digit = refl

number_begins : (n r : List ℕ) → IsNumber n → Begins (n ++ r)
number_begins n r h =
    let rest = h.1 ++ (h.2 ++ h.3) in
    elim h.5 [
      | inr e ↦ (45, rest ++ r, ap (λ t. t ++ r) (h.4 ∙ ap (λ t. t ++ rest) e), digit_begins 45 (inl refl))
      | inl e ↦ elim h.6 [
        | inl w ↦ (
          48,
          (h.2 ++ h.3) ++ r,
          ap (λ t. t ++ r)
              (h.4 ∙ ap (λ t. t ++ rest) e ∙ ap (λ t. t ++ (h.2 ++ h.3)) w),
          digit_begins 48 (inr zero_digit),
        )
        | inr w ↦ (
          w.0,
          (w.1 ++ (h.2 ++ h.3)) ++ r,
          ap (λ t. t ++ r)
              (h.4 ∙ ap (λ t. t ++ rest) e ∙ ap (λ t. t ++ (h.2 ++ h.3)) w.2),
          digit_begins w.0 (inr w.4.0),
        )
      ]
    ]

value_begins : (t : Tree) (s r : List ℕ) → Value t s r → Begins s
value_begins null s r h = (110, _, h, unspaced 110 (omega arith, omega arith, omega arith, omega arith))
value_begins (boolean true) s r h = (116, _, h, unspaced 116 (omega arith, omega arith, omega arith, omega arith))
value_begins (boolean false) s r h = (102, _, h, unspaced 102 (omega arith, omega arith, omega arith, omega arith))
value_begins (number n) s r h = subst Begins (sym h.1) (number_begins n r h.0)
value_begins (text c) s r h = (34, _, h.1, unspaced 34 (omega arith, omega arith, omega arith, omega arith))
value_begins (array ps) s r h = (91, h.0, h.2, unspaced 91 (omega arith, omega arith, omega arith, omega arith))
value_begins (object ps) s r h = (123, h.0, h.2, unspaced 123 (omega arith, omega arith, omega arith, omega arith))

-- behind white space
one_start : (w v r q : List ℕ) → AllByRecursion (λ x. is_space x ≡ true) w → AllByRecursion (λ x. is_space x ≡ true) v
    → Begins r → Begins q → w ++ r ≡ v ++ q → r ≡ q
one_start [] [] r q a b m n e = e
one_start [] (y ∷ v) r q a b m n e = let same : y ≡ m.0 = let f = sym e ∙ m.2 in cc in
    absurd (false≢true (sym m.3 ∙ ap is_space (sym same) ∙ b.0))
one_start (x ∷ w) [] r q a b m n e = let same : x ≡ n.0 = let f = e ∙ n.2 in cc in
    absurd (false≢true (sym n.3 ∙ ap is_space (sym same) ∙ a.0))
one_start (x ∷ w) (y ∷ v) r q a b m n e = let rest : w ++ r ≡ v ++ q = cc in one_start w v r q a.1 b.1 m n rest

one_tree : OneValue → (s : List ℕ) (t u : Tree) (a b : Span) → Document s t a → Document s u b → t ≡ u
one_tree one s t u a b d e =
    let start = one_start d.before.0 e.before.0 (drop a.from s) (drop b.from s) d.before.1 e.before.1
    (value_begins t _ _ d.value) (value_begins u _ _ e.value) (sym d.before.2 ∙ e.before.2) in
    let there : Value u (drop a.from s) (drop b.to s) =
    subst (λ (r : List ℕ). Value u r (drop b.to s)) (sym start) e.value in
    (one t u (drop a.from s) (drop a.to s) (drop b.to s) d.value (stops_ends t _ (ends_space _ d.after)) there
    (stops_ends u _ (ends_space _ e.after))).0

pub one_data : OneValue → (s a b : List ℕ) → IsData s a → IsData s b → a ≡ b
one_data one s a b h k = h.4 ∙ ap compact_text (one_tree one s h.0 k.0 h.1 k.1 h.2 k.2) ∙ sym k.4
