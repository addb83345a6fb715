-- The numbers and keys that are written are spelled by the grammar.
use Rattle.std.proofs.Common.{◌≡◌, ◌≢◌, ◌⊎◌, inl, inr, ℕ, zero, suc, ◌+◌, ◌/◌, ◌%◌, ◌^◌, ◌<◌, ◌≤◌, Bool, true, ◌&&◌}
use Rattle.std.proofs.Common.{not, List, [], ◌∷◌, ◌++◌, refl, sym, ap, arith, append-nil, leb-true}
use Rattle.std.specs.Prelude.{◌==◌, nat_le, decimal}
use Rattle.std.proofs.lemmas.Bool.{and_parts, not-true, eqb-false}
use Rattle.std.proofs.lemmas.Fmt.{decimal_by_steps}
use Rattle.std.specs.List.{list_all}
use Rattle.cf_json.specs.Bytes.{is_digit}
use Rattle.cf_protocol.specs.Writing.{is_plain as stands_for_itself}
use Rattle.cf_json.specs.Grammar.{IsText, plain, nothing, AllDigits, IsWhole, IsNumber}

-- ---- numbers

-- digits that begin with another one than a zero
abbrev pub Leading : List ℕ → Type 0
Leading s = (x : ℕ) × (xs : List ℕ) × (s ≡ x ∷ xs) × (x ≢ 48) × AllDigits (x ∷ xs)

abbrev Spells : ℕ → List ℕ → Type 0
Spells n s = ((n ≡ 0) × (s ≡ 48 ∷ [])) ⊎ Leading s

a_digit : (n : ℕ) → n < 10 → is_digit (48 + n) ≡ true
unfolding is_digit
a_digit n h = grind arith

one_digit : (n : ℕ) → n < 10 → Spells n ((48 + n) ∷ [])
one_digit zero h = inl (refl, refl)
one_digit (suc n) h = inr (48 + suc n, [], refl, λ e. omega arith, (a_digit (suc n) h, tt))

all_push : (xs : List ℕ) (x : ℕ) → AllDigits xs → is_digit x ≡ true → AllDigits (xs ++ x ∷ [])
all_push [] x a d = (d, tt)
all_push (y ∷ xs) x a d = (a.0, all_push xs x a.1 d)

more_digits : (n : ℕ) (ds : List ℕ) → 10 ≤ n → Spells (n / 10) ds → Spells n (ds ++ ((48 + n % 10) ∷ []))
more_digits n ds h (inl e) = absurd (omega (arith, e.0))
more_digits n ds h (inr l) =
    inr (
      l.0,
      l.1 ++ (48 + n % 10) ∷ [],
      ap (λ s. s ++ (48 + n % 10) ∷ []) l.2,
      l.3,
      (l.4.0, all_push l.1 (48 + n % 10) l.4.1 (a_digit (n % 10) (omega arith))),
    )

spells : (n : ℕ) → n < 2 ^ 64 → Spells n (decimal n)
spells = decimal_by_steps Spells one_digit more_digits

pub leading : (n : ℕ) → n < 2 ^ 64 → 1 ≤ n → Leading (decimal n)
leading n h low = elim (spells n h) [ inl e ↦ absurd (omega (arith, e.0)) | inr l ↦ l ]

is_whole : (n : ℕ) → n < 2 ^ 64 → IsWhole (decimal n)
is_whole n h = elim (spells n h) [ inl e ↦ inl e.1 | inr l ↦ inr l ]

pub is_number : (n : ℕ) → n < 2 ^ 64 → IsNumber (decimal n)
is_number n h = ([], decimal n, [], [], sym (append-nil (decimal n)), inl refl, is_whole n h, inl refl, inl refl)

pub is_negative_number : (n : ℕ) → n < 2 ^ 64 → IsNumber (45 ∷ decimal n)
is_negative_number n h = (
  45 ∷ [],
  decimal n,
  [],
  [],
  ap (λ s. 45 ∷ s) (sym (append-nil (decimal n))),
  inr refl,
  is_whole n h,
  inl refl,
  inl refl,
)

-- ---- keys

-- a text that is spelled as it stands
abbrev pub is_plain : List ℕ → Bool
is_plain s = list_all stands_for_itself s

pub plain_text : (s : List ℕ) → is_plain s ≡ true → IsText s
plain_text [] h = nothing
plain_text (x ∷ xs) h =
    let p = and_parts (stands_for_itself x) (is_plain xs) h in
    let q = and_parts (nat_le 32 x && not (x == 34)) (not (x == 92)) p.0 in
    let r = and_parts (nat_le 32 x) (not (x == 34)) q.0 in
    plain (leb-true 32 x r.0) (eqb-false x 34 (not-true (x == 34) r.1)) (eqb-false x 92 (not-true (x == 92) q.1))
    (plain_text xs p.1)
