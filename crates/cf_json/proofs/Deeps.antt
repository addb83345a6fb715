-- Only an opening bracket stops a reading for its depth.
use Rattle.std.proofs.Common.{◌≡◌, ◌⊎◌, ℕ, zero, suc, List, [], ◌∷◌, length, Bool, true, false, cond, ◌==◌, nat_lt, Ok}
use Rattle.std.proofs.Common.{Err, refl, sym, ap, ◌∙◌, subst, inl, inr}
use Rattle.std.specs.Prelude.{codes}
use Rattle.std.proofs.lemmas.Bool.{eqb-true}
use Rattle.cf_json.specs.Bytes.{is_digit, is_hex, is_escape, is_exponent_mark}
use Rattle.cf_json.specs.Grammar.{Parts, no_parts, part, Space, Key}
use Rattle.cf_json.specs.declared.stop.Stop.{Stop}
use Rattle.cf_json.specs.declared.stop.Stop.TheVariants.{NotJson, TooDeep}
use Rattle.cf_json.specs.declared.token.Within.{Within}
use Rattle.cf_json.specs.declared.token.Within.TheVariants.{Plain, Escaped, Hex4, Hex3, Hex2, Hex1}
use Rattle.cf_json.specs.Reading.{Reading, ◌>>=◌, stopped, after_space, go_on, text_end, after_digits, digits_end}
use Rattle.cf_json.specs.Reading.{after_sign, exponent_end, fraction_end, whole_end, after_minus, number_end, word_end}
use Rattle.cf_json.specs.Reading.{colon_at, quoted_end, key_end, part_end, close, then_more, parts_end, unless_closed}
use Rattle.cf_json.specs.Reading.{inside_end, value_from, too_deep, value_end}
use Rattle.cf_json.proofs.Turns.{opened, value_end-nil, value_end-cons, inside_is}
use Rattle.cf_json.proofs.Tokens.{chosen, space_takes, space_then, no_space}
use Rattle.cf_json.proofs.Numbers.{ok_is, bind_ok}
use Rattle.cf_json.proofs.Takes.{value_takes, key_takes}
use Rattle.cf_json.proofs.Holes.{opening, Before, Hole, opened_next, opened_last}

-- ---- tokens never do

abbrev NotDeep : Reading → Type 0
NotDeep (Ok r) = Unit {0}
NotDeep (Err (NotJson n)) = Unit {0}
NotDeep (Err (TooDeep n)) = ⊥

not_deep : (r : Reading) (m : ℕ) → NotDeep r → r ≡ Err (TooDeep m) → ⊥
not_deep r m h e = subst NotDeep e h

cond_not : (b : Bool) (x y : Reading) → NotDeep x → NotDeep y → NotDeep (cond b x y)
cond_not true x y h g = h
cond_not false x y h g = g

bind_not : (a : Reading) (f : List ℕ → Reading) → NotDeep a → ((r : List ℕ) → NotDeep (f r)) → NotDeep (a >>= f)
bind_not (Ok r) f h g = g r
bind_not (Err (NotJson n)) f h g = tt
bind_not (Err (TooDeep n)) f h g = absurd h

go_on_not : (w : Within) (x : ℕ) (xs : List ℕ) (k : Within → Reading) → ((v : Within) → NotDeep (k v))
    → NotDeep (go_on w x xs k)
go_on_not Plain x xs k h =
    cond_not (x == 34) (Ok xs) (cond (x == 92) (k Escaped) (cond (nat_lt x 32) (stopped (x ∷ xs)) (k Plain))) tt
    (cond_not (x == 92) (k Escaped) (cond (nat_lt x 32) (stopped (x ∷ xs)) (k Plain)) (h Escaped)
    (cond_not (nat_lt x 32) (stopped (x ∷ xs)) (k Plain) tt (h Plain)))
go_on_not Escaped x xs k h =
    cond_not (x == 117) (k Hex4) (cond (is_escape x) (k Plain) (stopped (x ∷ xs))) (h Hex4)
    (cond_not (is_escape x) (k Plain) (stopped (x ∷ xs)) (h Plain) tt)
go_on_not Hex4 x xs k h = cond_not (is_hex x) (k Hex3) (stopped (x ∷ xs)) (h Hex3) tt
go_on_not Hex3 x xs k h = cond_not (is_hex x) (k Hex2) (stopped (x ∷ xs)) (h Hex2) tt
go_on_not Hex2 x xs k h = cond_not (is_hex x) (k Hex1) (stopped (x ∷ xs)) (h Hex1) tt
go_on_not Hex1 x xs k h = cond_not (is_hex x) (k Plain) (stopped (x ∷ xs)) (h Plain) tt

text_not : (s : List ℕ) (w : Within) → NotDeep (text_end w s)
unfolding text_end
text_not [] w = tt
text_not (x ∷ xs) w = go_on_not w x xs (λ v. text_end v xs) (λ v. text_not xs v)

digits_not : (s : List ℕ) → NotDeep (digits_end s)
unfolding digits_end
digits_not [] = tt
digits_not (x ∷ xs) = cond_not (is_digit x) (Ok (after_digits xs)) (stopped (x ∷ xs)) tt tt

exponent_not : (s : List ℕ) → NotDeep (exponent_end s)
unfolding exponent_end
exponent_not [] = tt
exponent_not (x ∷ xs) =
    cond_not (is_exponent_mark x) (digits_end (after_sign xs)) (Ok (x ∷ xs)) (digits_not (after_sign xs)) tt

fraction_not : (s : List ℕ) → NotDeep (fraction_end s)
unfolding fraction_end
fraction_not [] = tt
fraction_not (x ∷ xs) = cond_not (x == 46) (digits_end xs) (Ok (x ∷ xs)) (digits_not xs) tt

whole_not : (s : List ℕ) → NotDeep (whole_end s)
unfolding whole_end
whole_not [] = tt
whole_not (x ∷ xs) = cond_not (x == 48) (Ok xs) (digits_end (x ∷ xs)) tt (digits_not (x ∷ xs))

number_not : (s : List ℕ) → NotDeep (number_end s)
unfolding number_end
number_not s =
    bind_not (whole_end (after_minus s)) (λ r. fraction_end r >>= exponent_end) (whole_not (after_minus s))
    (λ r. bind_not (fraction_end r) exponent_end (fraction_not r) exponent_not)

word_not : (w s : List ℕ) → NotDeep (word_end w s)
unfolding word_end
word_not [] s = tt
word_not (c ∷ w) [] = tt
word_not (c ∷ w) (x ∷ xs) = cond_not (x == c) (word_end w xs) (stopped (x ∷ xs)) (word_not w xs) tt

colon_not : (s : List ℕ) → NotDeep (colon_at s)
colon_not [] = tt
colon_not (x ∷ xs) = cond_not (x == 58) (Ok (after_space xs)) (stopped (x ∷ xs)) tt tt

quoted_not : (s : List ℕ) → NotDeep (quoted_end s)
quoted_not [] = tt
quoted_not (x ∷ xs) = cond_not (x == 34) (text_end Plain xs) (stopped (x ∷ xs)) (text_not xs Plain) tt

key_not : (keyed : Bool) (s : List ℕ) → NotDeep (key_end keyed s)
unfolding key_end
key_not false s = tt
key_not true s = bind_not (quoted_end s) (λ r. colon_at (after_space r)) (quoted_not s) (λ r. colon_not (after_space r))

-- ---- the bracket

pub bind_err : (a : Reading) (f : List ℕ → Reading) (e : Stop) → (a >>= f) ≡ Err e → (a ≡ Err e)
    ⊎ ((m : List ℕ) × (a ≡ Ok m) × (f m ≡ Err e))
bind_err (Ok m) f e h = inr (m, refl, h)
bind_err (Err d) f e h = inl h

-- a way to a bracket one level too deep, with so many bytes left
abbrev pub Bars : ℕ → List ℕ → ℕ → Type 0
Bars d s m =
    (ks : List Bool) × (keyed : Bool) × (r : List ℕ) × (length ks ≡ d) × Hole ks s (opening keyed ∷ r)
    × (m ≡ suc (length r))

-- the same, from behind the bracket or comma before it
abbrev Ways : ℕ → Bool → List ℕ → ℕ → Type 0
Ways d keyed s m = (ps : Parts) × (k a c : List ℕ) × Before d keyed ps s a × Key keyed k a c × Bars d c m

wider_before : (ps : Parts) (n : ℕ) (keyed : Bool) (s t a : List ℕ) → Space s t → Before n keyed ps t a
    → Before n keyed ps s a
wider_before no_parts n keyed s t a space h = space_then s t a space h
wider_before (part l u ps) n keyed s t a space h =
    (h.0, h.1, h.2, h.3, h.4, space_then s t h.0 space h.5, h.6, h.7, h.8, h.9, h.10, h.11)

wider : (d : ℕ) (keyed : Bool) (s t : List ℕ) (m : ℕ) → Space s t → Ways d keyed t m → Ways d keyed s m
wider d keyed s t m space w = (w.0, w.1, w.2, w.3, wider_before w.0 d keyed s t w.2 space w.4, w.5, w.6)

abbrev bytes_left : Reading → ℕ
bytes_left (Ok r) = 0
bytes_left (Err (NotJson n)) = 0
bytes_left (Err (TooDeep n)) = n

too_deep_is : (keyed : Bool) (s : List ℕ) (m : ℕ) → too_deep keyed s ≡ Err (TooDeep m) → m ≡ suc (length s)
too_deep_is keyed s m e = sym (ap bytes_left e)

module _ (d : ℕ) (keyed : Bool) (bars : (s : List ℕ) (m : ℕ) → value_end d s ≡ Err (TooDeep m) → Bars d s m) where
  then_ways : (m : ℕ) (more : List ℕ → Reading) (s : List ℕ)
      → ((t : List ℕ) → more t ≡ Err (TooDeep m) → Ways d keyed t m) → then_more keyed more s ≡ Err (TooDeep m)
      → (t : List ℕ) × (s ≡ 44 ∷ t) × Ways d keyed t m
  then_ways m more [] later e = absurd (not_deep (stopped []) m tt e)
  then_ways m more (x ∷ xs) later e =
      elim (chosen (x == close keyed) _ _ _ e) [
        | inl h ↦ absurd (not_deep (Ok xs) m tt h.1)
        | inr h ↦ elim (chosen (x == 44) _ _ _ h.1) [
          | inl g ↦ (
            xs,
            ap (λ b. b ∷ xs) (eqb-true _ _ g.0),
            wider d keyed xs (after_space xs) m (space_takes xs) (later (after_space xs) g.1),
          )
          | inr g ↦ absurd (not_deep (stopped (x ∷ xs)) m tt g.1)
        ]
      ]

  run_ways : (n : ℕ) (s : List ℕ) (m : ℕ) → parts_end (value_end d) keyed n s ≡ Err (TooDeep m) → Ways d keyed s m
  unfolding parts_end part_end
  run_ways zero s m e = absurd (not_deep (stopped []) m tt e)
  run_ways (suc n) s m e =
      elim (bind_err (part_end (value_end d) keyed s) (then_more keyed (parts_end (value_end d) keyed n)) (TooDeep m) e) [
        | inl here ↦
            elim (bind_err (key_end keyed s) (λ v. value_end d v >>= λ q. Ok (after_space q)) (TooDeep m) here) [
              | inl k ↦ absurd (not_deep (key_end keyed s) m (key_not keyed s) k)
              | inr k ↦ elim (bind_err (value_end d k.0) (λ q. Ok (after_space q)) (TooDeep m) k.2) [
                | inl v ↦ let key = key_takes keyed s k.0 k.1 in
                    (no_parts, key.0, s, k.0, no_space s, key.1, bars k.0 m v)
                | inr v ↦ absurd (not_deep (Ok (after_space v.0)) m tt v.2)
              ]
            ]
        | inr on ↦
            let b = bind_ok (key_end keyed s) (λ v. value_end d v >>= λ q. Ok (after_space q)) on.0 on.1 in
            let c = bind_ok (value_end d b.0) (λ q. Ok (after_space q)) on.0 b.2 in
            let key = key_takes keyed s b.0 b.1 in
            let t = value_takes d b.0 c.0 c.1 in
            let w = then_ways m (parts_end (value_end d) keyed n) on.0 (λ u h. run_ways n u m h) on.2 in
            let l = w.2 in (
              part key.0 t.0 l.0,
              l.1,
              l.2,
              l.3,
              (
                s,
                b.0,
                c.0,
                on.0,
                w.0,
                no_space s,
                key.1,
                t.1,
                subst (Space c.0) (ok_is (after_space c.0) on.0 c.2) (space_takes c.0),
                w.1,
                t.2,
                l.4,
              ),
              l.5,
              l.6,
            )
      ]

  inside_ways : (s : List ℕ) (m : ℕ) → inside_end (value_end d) keyed s ≡ Err (TooDeep m) → Ways d keyed s m
  inside_ways s m e =
      wider d keyed s (after_space s) m (space_takes s)
      (unless_ways (after_space s) (sym (inside_is (value_end d) keyed s) ∙ e))
    where
      unless_ways : (a : List ℕ) → unless_closed keyed (λ t. parts_end (value_end d) keyed (suc (length t)) t) a
          ≡ Err (TooDeep m) → Ways d keyed a m
      unless_ways [] h = run_ways 1 [] m h
      unless_ways (x ∷ xs) h =
          elim (chosen (x == close keyed) _ _ _ h) [
            | inl g ↦ absurd (not_deep (Ok xs) m tt g.1)
            | inr g ↦ run_ways (suc (length (x ∷ xs))) (x ∷ xs) m g.1
          ]

abbrev Bar : ℕ → Type 0
Bar d = (keyed : Bool) (s1 : List ℕ) (m : ℕ) → opened d keyed s1 ≡ Err (TooDeep m) → (s : List ℕ)
    → s ≡ opening keyed ∷ s1 → Bars d s m

from_bars : (d : ℕ) → Bar d → (x : ℕ) (xs : List ℕ) (m : ℕ) → value_from (opened d) x xs ≡ Err (TooDeep m)
    → Bars d (x ∷ xs) m
from_bars d bar x xs m e =
    elim (chosen (x == 34) _ _ _ e) [
      | inl h ↦ absurd (not_deep (text_end Plain xs) m (text_not xs Plain) h.1)
      | inr h ↦ elim (chosen (x == 91) _ _ _ h.1) [
        | inl g ↦ bar false xs m g.1 (x ∷ xs) (ap (λ b. b ∷ xs) (eqb-true _ _ g.0))
        | inr g ↦ elim (chosen (x == 123) _ _ _ g.1) [
          | inl f ↦ bar true xs m f.1 (x ∷ xs) (ap (λ b. b ∷ xs) (eqb-true _ _ f.0))
          | inr f ↦ elim (chosen (x == 110) _ _ _ f.1) [
            | inl a ↦ absurd (not_deep (word_end (codes "null") (x ∷ xs)) m (word_not (codes "null") (x ∷ xs)) a.1)
            | inr a ↦ elim (chosen (x == 116) _ _ _ a.1) [
              | inl b ↦ absurd (not_deep (word_end (codes "true") (x ∷ xs)) m (word_not (codes "true") (x ∷ xs)) b.1)
              | inr b ↦ elim (chosen (x == 102) _ _ _ b.1) [
                | inl c ↦ absurd (not_deep (word_end (codes "false") (x ∷ xs)) m (word_not (codes "false") (x ∷ xs))
                    c.1)
                | inr c ↦ absurd (not_deep (number_end (x ∷ xs)) m (number_not (x ∷ xs)) c.1)
              ]
            ]
          ]
        ]
      ]
    ]

all_bars : (d : ℕ) → Bar d → (s : List ℕ) (m : ℕ) → value_end d s ≡ Err (TooDeep m) → Bars d s m
all_bars d bar [] m e = absurd (not_deep (stopped []) m tt (sym (value_end-nil d [] refl) ∙ e))
all_bars d bar (x ∷ xs) m e = from_bars d bar x xs m (sym (value_end-cons d (x ∷ xs) x xs refl) ∙ e)

bar_of : (d : ℕ) → Bar d
bar_of zero keyed s1 m e s at = ([], keyed, s1, refl, at, too_deep_is keyed s1 m (sym (opened_last keyed s1) ∙ e))
bar_of (suc d) keyed s1 m e s at =
    let w = inside_ways d keyed (λ t n h. all_bars d (bar_of d) t n h) s1 m (sym (opened_next d keyed s1) ∙ e) in
    let b = w.6 in (
      keyed ∷ b.0,
      b.1,
      b.2,
      ap suc b.3,
      (
        w.0,
        w.1,
        s1,
        w.2,
        w.3,
        at,
        subst (λ n. Before n keyed w.0 s1 w.2) (sym b.3) w.4,
        w.5,
        b.4,
      ),
      b.5,
    )

pub value_bars : (d : ℕ) (s : List ℕ) (m : ℕ) → value_end d s ≡ Err (TooDeep m) → Bars d s m
value_bars d s m e = all_bars d (bar_of d) s m e
