-- The run of a release is the greatest that is unbroken, and what arrives is a set.
use Rattle.std.proofs.Common.{◌≡◌, ℕ, zero, suc, ◌+◌, ◌-◌, ◌≤◌, ◌<◌, ◌==◌, ◌&&◌, ◌||◌, ◌↔◌, Bool, true, false, List, []}
use Rattle.std.proofs.Common.{◌∷◌, refl, subst, arith, ◌≢◌, ◌⊎◌, inl, inr, if◌then◌else◌, nat_le, not}
use Rattle.std.specs.Str.{bytes_eq}
use Rattle.std.proofs.lemmas.Slice.Eq.{bytes_eq-Decides}
use Rattle.std.proofs.lemmas.Bool.Decides.{nat_tests}
use Rattle.cf_protocol.specs.Position.{Position}
use Rattle.cf_protocol.specs.Note.{Reading}
use Rattle.cf_model.specs.Recovery.{has, arrives, overfull, highest, all_within, AreOnce}
use Rattle.cf_model.specs.Recovery.{all_arrived, greatest, run_length, falls_short, Reaches, LiesWithin}

-- which way a test of two names went
pub text_tells : (a b : List ℕ) → ((bytes_eq a b ≡ true) × (a ≡ b)) ⊎ ((bytes_eq a b ≡ false) × (a ≢ b))
text_tells a b = by_value (bytes_eq a b) (bytes_eq-Decides a b)
  where
    by_value : (v : Bool) → (v ≡ true → a ≡ b) × (a ≡ b → v ≡ true) → ((v ≡ true) × (a ≡ b)) ⊎ ((v ≡ false) × (a ≢ b))
    by_value true h = inl (refl, h.0 refl)
    by_value false h = inr (refl, λ e. let f = h.1 e in absurd (cc))

by_test : {A : Type 0} (P : A → Type 0) (b : Bool) (x y : A) → (b ≡ true → P x) → (b ≡ false → P y)
    → P (if b then x else y)
by_test P true x y h k = h refl
by_test P false x y h k = k refl

-- ---- a set

absorbed : (a b h : Bool) (q : Position) (e : List ℕ) (i : ℕ) → (a ≡ true → b ≡ true) → b ≡ (a || b)
absorbed true b h q e i k = k refl
absorbed false b h q e i k = refl

pub member : (q : Position) (arrived : List Position) (e : List ℕ) (i : ℕ)
    → has (arrives q arrived) e i ≡ ((bytes_eq q.epoch e && (q.offset == i)) || has arrived e i)
member q ps e i =
    by_test (λ (v : List Position). has v e i ≡ ((bytes_eq q.epoch e && (q.offset == i)) || has ps e i))
    (has ps q.epoch q.offset) _ _
    (λ h. absorbed (bytes_eq q.epoch e && (q.offset == i)) (has ps e i) true q e i (same h)) (λ h. refl)
  where
    both : (bytes_eq q.epoch e && (q.offset == i)) ≡ true → (q.epoch ≡ e) × (q.offset ≡ i)
    both h = grind (arith, nat_tests, text_tells)

    same : has ps q.epoch q.offset ≡ true → (bytes_eq q.epoch e && (q.offset == i)) ≡ true → has ps e i ≡ true
    same h k = let b = both k in subst (λ x. has ps e x ≡ true) b.1 (subst (λ x. has ps x q.offset ≡ true) b.0 h)

pub once : (q : Position) (arrived : List Position) → AreOnce arrived → AreOnce (arrives q arrived)
once q ps h = by_test AreOnce (has ps q.epoch q.offset) _ _ (λ k. h) (λ k. (k, h))

-- ---- the run

has-cases : (p : Position) (ps : List Position) (e : List ℕ) (o : ℕ) → has (p ∷ ps) e o ≡ true
    → ((p.epoch ≡ e) × (p.offset ≡ o)) ⊎ (has ps e o ≡ true)
has-cases p ps e o k = grind (arith, nat_tests, text_tells)

pub below-highest : (ps : List Position) (e : List ℕ) (o : ℕ) → has ps e o ≡ true → o ≤ highest ps
below-highest [] e o h = absurd (cc)
below-highest (p ∷ ps) e o h =
    elim (has-cases p ps e o h) [
      | inl i ↦ omega arith
      | inr i ↦ let j = below-highest ps e o i in omega arith
    ]

and-parts : (a b : Bool) → (a && b) ≡ true → (a ≡ true) × (b ≡ true)
and-parts a b h = grind arith

both : (a b : Bool) → a ≡ true → b ≡ true → (a && b) ≡ true
both a b h k = grind arith

parted : (k n : ℕ) → k < suc n → (k < n) ⊎ (k ≡ n)
parted k n h = grind (arith, nat_tests)

-- all n arrived exactly where each did
pub all_true : (ps : List Position) (e : List ℕ) (o n k : ℕ) → all_arrived ps e o n ≡ true → k < n
    → has ps e (o + 1 + k) ≡ true
all_true ps e o zero k h l = absurd (omega arith)
all_true ps e o (suc n) k h l =
    let a = and-parts (all_arrived ps e o n) (has ps e (o + suc n)) h in
    elim (parted k n l) [
      | inl i ↦ all_true ps e o n k a.0 i
      | inr i ↦ let z : o + 1 + k ≡ o + suc n = omega arith in rw z a.1
    ]

pub all_made : (ps : List Position) (e : List ℕ) (o n : ℕ) → ((k : ℕ) → k < n → has ps e (o + 1 + k) ≡ true)
    → all_arrived ps e o n ≡ true
all_made ps e o zero h = refl
all_made ps e o (suc n) h =
    both (all_arrived ps e o n) (has ps e (o + suc n)) (all_made ps e o n (λ k l. h k (omega arith)))
    (let z : o + 1 + n ≡ o + suc n = omega arith in subst (λ x. has ps e x ≡ true) z (h n (omega arith)))

-- the greatest passes, unless it is 0, and none that passes is above it
pub passes : (test : ℕ → Bool) (n : ℕ) → (greatest test n ≡ 0) ⊎ (test (greatest test n) ≡ true)
passes test zero = inl refl
passes test (suc n) = by_value (test (suc n)) refl (passes test n)
  where
    by_value : (b : Bool) → test (suc n) ≡ b → (greatest test n ≡ 0) ⊎ (test (greatest test n) ≡ true)
        → ((if b then suc n else greatest test n) ≡ 0) ⊎ (test (if b then suc n else greatest test n) ≡ true)
    by_value true e h = inr e
    by_value false e h = h

pub at_most : (test : ℕ → Bool) (n m : ℕ) → m ≤ n → test m ≡ true → m ≤ greatest test n
at_most test zero m l h = l
at_most test (suc n) m l h = by_value (test (suc n)) refl (λ i. at_most test n m i h)
  where
    false-true : (b : Bool) → b ≡ true → b ≡ false → ⊥
    false-true b x y = cc

    by_value : (b : Bool) → test (suc n) ≡ b → (m ≤ n → m ≤ greatest test n)
        → m ≤ (if b then suc n else greatest test n)
    by_value true e g = l
    by_value false e g =
        let less : m < suc (suc n) = omega arith in
        elim (parted m (suc n) less) [
          | inl i ↦ g (omega arith)
          | inr i ↦ absurd (false-true (test (suc n)) (subst (λ x. test x ≡ true) i h) e)
        ]

pub reached : (arrived : List Position) (r : Reading) → Reaches arrived r.epoch r.top (r.top + run_length arrived r)
reached ps r i h k =
    by_test (λ v. i ≤ r.top + v → has ps r.epoch i ≡ true) (overfull ps) _ _
    (λ x y. absurd (omega arith)) (λ x y. found y) k
  where
    found : i ≤ r.top + greatest (all_arrived ps r.epoch r.top) (highest ps) → has ps r.epoch i ≡ true
    found y =
        elim (passes (all_arrived ps r.epoch r.top) (highest ps)) [
          | inl none ↦ absurd (omega arith)
          | inr all ↦
              let less : i - (r.top + 1) < greatest (all_arrived ps r.epoch r.top) (highest ps) = omega arith in
              let at : r.top + 1 + (i - (r.top + 1)) ≡ i = omega arith in
              subst (λ x. has ps r.epoch x ≡ true) at (all_true ps r.epoch r.top _ (i - (r.top + 1)) all less)
        ]

pub furthest : (arrived : List Position) (r : Reading) (n : ℕ) → overfull arrived ≡ false
    → Reaches arrived r.epoch r.top n → n ≤ r.top + run_length arrived r
furthest ps r n h reaches =
    by_test (λ v. n ≤ r.top + v) (overfull ps) _ _ (λ x. absurd (cc)) (λ x. beyond (nat_le n r.top) refl)
  where
    beyond : (b : Bool) → nat_le n r.top ≡ b → n ≤ r.top + greatest (all_arrived ps r.epoch r.top) (highest ps)
    beyond true e = grind (arith, nat_tests)
    beyond false e =
        let above : r.top < n = grind (arith, nat_tests) in
        let high : n ≤ highest ps = below-highest ps r.epoch n (reaches n above (omega arith)) in
        let all : all_arrived ps r.epoch r.top (n - r.top) ≡ true =
        all_made ps r.epoch r.top (n - r.top) (λ k l. reaches (r.top + 1 + k) (omega arith) (omega arith)) in
        let far : n - r.top ≤ greatest (all_arrived ps r.epoch r.top) (highest ps) =
        at_most (all_arrived ps r.epoch r.top) (highest ps) (n - r.top) (omega arith) all in
        omega arith

pub none : (arrived : List Position) (r : Reading) → overfull arrived ≡ true → run_length arrived r ≡ 0
none ps r h = rw h refl

-- ---- what falls short

within-tail : (p : Position) (ps : List Position) (e : List ℕ) (high : ℕ) → all_within (p ∷ ps) e high ≡ true
    → (p.epoch ≡ e) × (p.offset ≤ high) × (all_within ps e high ≡ true)
within-tail p ps e high h = grind (arith, nat_tests, text_tells)

within-cons : (p : Position) (ps : List Position) (e : List ℕ) (high : ℕ) → p.epoch ≡ e → p.offset ≤ high
    → all_within ps e high ≡ true → all_within (p ∷ ps) e high ≡ true
within-cons p ps e high h i k = grind (arith, nat_tests, text_tells)

pub lies-within : (ps : List Position) (e : List ℕ) (high : ℕ) → all_within ps e high ≡ true → LiesWithin ps e high
lies-within [] e high h f i k = absurd (cc)
lies-within (p ∷ ps) e high h f i k =
    let w = within-tail p ps e high h in
    elim (has-cases p ps f i k) [
      | inl x ↦ (subst (λ y. y ≡ e) x.0 w.0, subst (λ y. y ≤ high) x.1 w.1)
      | inr x ↦ lies-within ps e high w.2 f i x
    ]

has-head : (p : Position) (ps : List Position) → has (p ∷ ps) p.epoch p.offset ≡ true
has-head p ps = grind (arith, nat_tests, text_tells)

has-tail : (p : Position) (ps : List Position) (e : List ℕ) (i : ℕ) → has ps e i ≡ true → has (p ∷ ps) e i ≡ true
has-tail p ps e i h = grind (arith, nat_tests, text_tells)

pub within-lies : (ps : List Position) (e : List ℕ) (high : ℕ) → LiesWithin ps e high → all_within ps e high ≡ true
within-lies [] e high h = refl
within-lies (p ∷ ps) e high h =
    let here = h p.epoch p.offset (has-head p ps) in
    within-cons p ps e high here.0 here.1 (within-lies ps e high (λ f i k. h f i (has-tail p ps f i k)))

or_not : (a b : Bool) → (a || not b) ≡ false → (a ≡ false) × (b ≡ true)
or_not a b h = grind arith

not_or : (a b : Bool) → a ≡ false → b ≡ true → (a || not b) ≡ false
not_or a b h k = grind arith

pub sufficient : (arrived : List Position) (r : Reading)
    → (falls_short arrived r ≡ false) ↔ ((overfull arrived ≡ false)
    × LiesWithin arrived r.epoch (r.top + run_length arrived r))
sufficient ps r = (
  (λ h. let x = or_not (overfull ps) (all_within ps r.epoch (r.top + run_length ps r))
      h in (x.0, lies-within ps r.epoch (r.top + run_length ps r) x.1)),
  (λ h. not_or (overfull ps) (all_within ps r.epoch (r.top + run_length ps r)) h.0
      (within-lies ps r.epoch (r.top + run_length ps r) h.1)),
)
