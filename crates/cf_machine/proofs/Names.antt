-- Tests on names and ids, and tables with one value changed.
use Rattle.std.proofs.Common.{◌≡◌, ℕ, ◌<◌, ◌==◌, ◌&&◌, Bool, true, false, if◌then◌else◌, List, refl, sym, subst, arith}
use Rattle.std.proofs.Common.{◌≢◌, ◌⊎◌, inl, inr}
use Rattle.std.specs.Str.{bytes_eq}
use Rattle.std.proofs.lemmas.Slice.Eq.{bytes_eq-Decides}
use Rattle.std.proofs.lemmas.Bool.Decides.{nat_tests}
use Rattle.cf_protocol.specs.Names.{with}

-- which way a test of two names went
pub text_tells : (a b : List ℕ) → ((bytes_eq a b ≡ true) × (a ≡ b)) ⊎ ((bytes_eq a b ≡ false) × (a ≢ b))
text_tells a b = by_value (bytes_eq a b) (bytes_eq-Decides a b)
  where
    by_value : (v : Bool) → (v ≡ true → a ≡ b) × (a ≡ b → v ≡ true) → ((v ≡ true) × (a ≡ b)) ⊎ ((v ≡ false) × (a ≢ b))
    by_value true h = inl (refl, h.0 refl)
    by_value false h = inr (refl, λ e. let f = h.1 e in absurd (cc))

-- an answer to an older ask is not to this one
pub older : (d c : List ℕ) (k id : ℕ) → k < id → (bytes_eq d c && (k == id)) ≡ false
older d c k id h = grind (arith, nat_tests)

pub this_one : (d c : List ℕ) (k id : ℕ) → d ≡ c → k ≡ id → (bytes_eq d c && (k == id)) ≡ true
this_one d c k id e f = grind (arith, nat_tests, text_tells)

pub itself : (c : List ℕ) → bytes_eq c c ≡ true
itself c = grind (arith, text_tells)

pub not_this : (d c : List ℕ) → d ≢ c → bytes_eq d c ≡ false
not_this d c h = grind (arith, text_tells)

pub by_two : (d c : List ℕ) (i id : ℕ) → (((bytes_eq d c && (i == id)) ≡ true) × (d ≡ c) × (i ≡ id))
    ⊎ ((bytes_eq d c && (i == id)) ≡ false)
by_two d c i id = grind (arith, nat_tests, text_tells)

-- both branches of a test
pub by_test : {A : Type 0} (P : A → Type 0) (b : Bool) (x y : A) → (b ≡ true → P x) → (b ≡ false → P y)
    → P (if b then x else y)
by_test P true x y h k = h refl
by_test P false x y h k = k refl

pub both_test : {A B : Type 0} (P : A → B → Type 0) (b : Bool) (x x' : A) (y y' : B) → (b ≡ true → P x y)
    → (b ≡ false → P x' y') → P (if b then x else x') (if b then y else y')
both_test P true x x' y y' h k = h refl
both_test P false x x' y y' h k = k refl

-- one value changed
pub with-same : {A : Type 0} (f : List ℕ → A) (k : List ℕ) (v : A) → with f k v k ≡ v
with-same f k v = rw (itself k) refl

pub with-other : {A : Type 0} (f : List ℕ → A) (k : List ℕ) (v : A) (j : List ℕ) → j ≢ k → with f k v j ≡ f j
with-other f k v j h = rw (not_this j k h) refl

-- what holds of the new value, and of the others as they were, holds of all
pub with-all : {A : Type 0} (P : List ℕ → A → Type 0) (f : List ℕ → A) (k : List ℕ) (v : A)
    → P k v → ((j : List ℕ) → j ≢ k → P j (f j)) → (j : List ℕ) → P j (with f k v j)
with-all P f k v here there j =
    elim (text_tells j k) [
      | inl h ↦ subst (λ x. P x (with f k v x)) (sym h.1) (subst (λ x. P k x) (sym (with-same f k v)) here)
      | inr h ↦ subst (λ x. P j x) (sym (with-other f k v j h.1)) (there j h.1)
    ]

-- the same for two tables changed at one name
pub with-both : {A B : Type 0} (P : List ℕ → A → B → Type 0) (f : List ℕ → A) (g : List ℕ → B) (k : List ℕ) (v : A)
    (w : B)
    → P k v w → ((j : List ℕ) → j ≢ k → P j (f j) (g j)) → (j : List ℕ) → P j (with f k v j) (with g k w j)
with-both P f g k v w here there j =
    elim (text_tells j k) [
      | inl h ↦ rw h.0 (subst (λ x. P x v w) (sym h.1) here)
      | inr h ↦ rw h.0 (there j h.1)
    ]

-- and for a table of two names changed at one place
pub with-two : {A : Type 0} (P : List ℕ → List ℕ → A → Type 0) (table : List ℕ → List ℕ → A) (c e : List ℕ) (v : A)
    → P c e v → ((d i : List ℕ) → P d i (table d i))
    → (d i : List ℕ) → P d i (with table c (with (table c) e v) d i)
with-two P table c e v here there d i =
    with-all (λ j f. (i : List ℕ) → P j i (f i)) table c (with (table c) e v)
    (λ i. with-all (λ j x. P c j x) (table c) e v here (λ j ne. there c j) i)
    (λ j ne i. there j i) d i
