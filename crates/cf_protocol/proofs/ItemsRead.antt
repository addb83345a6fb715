-- A list that is read one item after another.
use Rattle.std.proofs.Common.{◌≡◌, ℕ, zero, suc, ◌+◌, ◌<◌, ◌≤◌, List, [], ◌∷◌, ◌++◌, drop, get_or, length, Option, Some}
use Rattle.std.proofs.Common.{None, option_map, refl, sym, ap, subst, ◌∙◌, arith, add-one}
use Rattle.std.specs.List.{AllZip}
use Rattle.cf_protocol.specs.Fields.{both, read_all}

-- the first i of the list were read, as xs
abbrev pub AreRead : {A B : Type 0} → (A → Option B) → List A → ℕ → List B → Type 0
AreRead f ts i xs = read_all f ts ≡ option_map (λ ys. xs ++ ys) (read_all f (drop i ts))

-- the list goes on with t at the i-th place
abbrev pub GoesOn : {A : Type 0} → List A → ℕ → A → Type 0
GoesOn ts i t = drop i ts ≡ t ∷ drop (suc i) ts

pub one_first : {B : Type 0} (xs : List B) (x : B) (o : Option (List B))
    → option_map (λ ys. xs ++ ys) (option_map (λ ys. x ∷ ys) o) ≡ option_map (λ ys. (xs ++ x ∷ []) ++ ys) o
one_first xs x None = refl
one_first xs x (Some ys) = ap Some (joins xs)
  where
    joins : (us : List _) → us ++ x ∷ ys ≡ (us ++ x ∷ []) ++ ys
    joins [] = refl
    joins (u ∷ us) = ap (λ s. u ∷ s) (joins us)

-- ---- a loop over the list

pub read_goes_on : {A B : Type 0} (f : A → Option B) (ts : List A) (i : ℕ) (xs : List B) (t : A) (x : B)
    → AreRead f ts i xs → GoesOn ts i t → f t ≡ Some x → AreRead f ts (i + 1) (xs ++ x ∷ [])
read_goes_on f ts i xs t x r g e =
    subst (λ n. AreRead f ts n (xs ++ x ∷ [])) (sym (add-one i)) (
    r ∙ ap (λ us. option_map (λ ys. xs ++ ys) (read_all f us)) g
    ∙ ap (λ o. option_map (λ ys. xs ++ ys) (both o (read_all f (drop (suc i) ts)))) e
    ∙ one_first xs x (read_all f (drop (suc i) ts)))

pub read_stops : {A B : Type 0} (f : A → Option B) (ts : List A) (i : ℕ) (xs : List B) (t : A) → AreRead f ts i xs
    → GoesOn ts i t → f t ≡ None → read_all f ts ≡ None
read_stops f ts i xs t r g e =
    r ∙ ap (λ us. option_map (λ ys. xs ++ ys) (read_all f us)) g
    ∙ ap (λ o. option_map (λ ys. xs ++ ys) (both o (read_all f (drop (suc i) ts)))) e

pub all_dropped : {A : Type 0} (ts : List A) (i : ℕ) → length ts ≤ i → drop i ts ≡ []
all_dropped [] zero h = refl
all_dropped [] (suc i) h = refl
all_dropped (t ∷ ts) zero h = absurd (omega arith)
all_dropped (t ∷ ts) (suc i) h = all_dropped ts i (omega arith)

pub nothing_last : {B : Type 0} (xs : List B) → xs ++ [] ≡ xs
nothing_last [] = refl
nothing_last (x ∷ xs) = ap (λ s. x ∷ s) (nothing_last xs)

pub read_ends : {A B : Type 0} (f : A → Option B) (ts : List A) (i : ℕ) (xs : List B) → AreRead f ts i xs
    → length ts ≤ i → read_all f ts ≡ Some xs
read_ends f ts i xs r h =
    r ∙ ap (λ us. option_map (λ ys. xs ++ ys) (read_all f us)) (all_dropped ts i h) ∙ ap Some (nothing_last xs)

-- ---- a list beside which another one stands

pub zip_length : {A B : Type 0} (R : A → B → Type 0) (ss : List A) (ts : List B) → AllZip R ss ts
    → length ts ≡ length ss
zip_length R [] [] z = refl
zip_length R [] (t ∷ ts) z = absurd z
zip_length R (s ∷ ss) [] z = absurd z
zip_length R (s ∷ ss) (t ∷ ts) z = ap suc (zip_length R ss ts z.1)

pub record Beside {A B : Type 0} (R : A → B → Type 0) (ts : List B) (i : ℕ) (s : A) : Type 0 where
  pub item : B
  pub is : R s item
  pub at : GoesOn ts i item

pub beside : {A B : Type 0} (R : A → B → Type 0) (ss : List A) (ts : List B) (i : ℕ) (s d : A) → AllZip R ss ts
    → i < length ss → s ≡ get_or ss i d → Beside R ts i s
beside R [] ts i s d z l e = absurd (omega (arith, l))
beside R (w ∷ ss) [] i s d z l e = absurd z
beside R (w ∷ ss) (t ∷ ts) zero s d z l e = record { item = t; is = subst (λ v. R v t) (sym e) z.0; at = refl }
beside R (w ∷ ss) (t ∷ ts) (suc i) s d z l e =
    let r = beside R ss ts i s d z.1 (omega (arith, l)) e in
    record { item = r.item; is = r.is; at = r.at }
