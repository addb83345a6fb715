-- Arrivals by their places in what is stored.
use Rattle.std.proofs.Common.{◌≡◌, ℕ, zero, suc, ◌+◌, ◌≤◌, ◌<◌, ◌==◌, ◌&&◌, Bool, true, false, List, [], ◌∷◌, None}
use Rattle.std.proofs.Common.{length, get_or, refl, sym, ap, subst, arith, ◌≢◌, ◌∙◌, nat_le}
use Rattle.std.specs.Str.{bytes_eq}
use Rattle.std.specs.List.{swap}
use Rattle.std.specs.List.Sorted.{IsPermutation}
use Rattle.std.proofs.Math.ListN.{set}
use Rattle.std.proofs.lemmas.Bool.Decides.{nat_tests}
use Rattle.std.proofs.lemmas.List.Edits.{Swapped, swapped_from_swap, length-swap}
use Rattle.std.proofs.lemmas.List.Sorted.{IsPermutation-swap, IsPermutation-trans}
use Rattle.cf_protocol.specs.Datum.{Placed}
use Rattle.cf_recovery.specs.ArrivalBuffer.{Arrival, arrival}
use Rattle.cf_recovery.specs.Stored.{stored, is_at}

-- the test of a place
abbrev pub is_of : Arrival → List ℕ → ℕ → Bool
is_of a e o = bytes_eq a.at.epoch e && (a.at.offset == o)

pub length-stored : (es : List (List ℕ)) (ps : List Placed) → length es ≡ length ps → length (stored es ps) ≡ length ps
length-stored [] [] h = refl
length-stored [] (p ∷ ps) h = absurd (omega arith)
length-stored (e ∷ es) [] h = absurd (omega arith)
length-stored (e ∷ es) (p ∷ ps) h = ap suc (length-stored es ps (omega arith))

pub is_at-read : (es : List (List ℕ)) (ps : List Placed) (e : List ℕ) (o i : ℕ) (f : List ℕ) (p : Placed)
    → i < length es → i < length ps → f ≡ get_or es i f → p ≡ get_or ps i p
    → is_at (stored es ps) e o i ≡ (bytes_eq f e && (p.offset == o))
is_at-read [] ps e o i f p h k x y = absurd (omega arith)
is_at-read (g ∷ es) [] e o i f p h k x y = absurd (omega arith)
is_at-read (g ∷ es) (q ∷ ps) e o zero f p h k x y =
    let a : f ≡ g = x in let b : p ≡ q = y in
    subst (λ z. (bytes_eq g e && (q.offset == o)) ≡ (bytes_eq z e && (p.offset == o))) (sym a)
    (subst (λ (z : Placed). (bytes_eq g e && (q.offset == o)) ≡ (bytes_eq g e && (z.offset == o))) (sym b) refl)
is_at-read (g ∷ es) (q ∷ ps) e o (suc i) f p h k x y = is_at-read es ps e o i f p (omega arith) (omega arith) x y

pub is_at-past : (xs : List Arrival) (e : List ℕ) (o i : ℕ) → length xs ≤ i → is_at xs e o i ≡ false
is_at-past [] e o i h = refl
is_at-past (x ∷ xs) e o zero h = absurd (omega arith)
is_at-past (x ∷ xs) e o (suc i) h = is_at-past xs e o i (omega arith)

pub is_at-get : (xs : List Arrival) (e : List ℕ) (o i : ℕ) (d : Arrival) → i < length xs
    → is_at xs e o i ≡ is_of (get_or xs i d) e o
is_at-get [] e o i d h = absurd (omega arith)
is_at-get (x ∷ xs) e o zero d h = refl
is_at-get (x ∷ xs) e o (suc i) d h = is_at-get xs e o i d (omega arith)

-- one that is of a place is of no other
pub is_at-other : (xs : List Arrival) (e : List ℕ) (o other i : ℕ) → is_at xs e o i ≡ true → o ≢ other
    → is_at xs e other i ≡ false
is_at-other [] e o other i h k = refl
is_at-other (x ∷ xs) e o other zero h k = one (bytes_eq x.at.epoch e) h
  where
    one : (b : Bool) → (b && (x.at.offset == o)) ≡ true → (b && (x.at.offset == other)) ≡ false
    one b h = grind (arith, nat_tests)
is_at-other (x ∷ xs) e o other (suc i) h k = is_at-other xs e o other i h k

-- ---- what a walk finds

pub none_more : (xs : List Arrival) (e : List ℕ) (o from i : ℕ) → ((j : ℕ) → from ≤ j → j < i → is_at xs e o j ≡ false)
    → is_at xs e o i ≡ false → (j : ℕ) → from ≤ j → j < i + 1 → is_at xs e o j ≡ false
none_more xs e o from i none here j h k = by_place (nat_le i j) refl
  where
    by_place : (b : Bool) → nat_le i j ≡ b → is_at xs e o j ≡ false
    by_place true t =
        let same : i ≡ j = grind (arith, nat_tests) in
        subst (λ k. is_at xs e o k ≡ false) same here
    by_place false t = none j h (grind (arith, nat_tests))

pub none_all : (xs : List Arrival) (e : List ℕ) (o from i : ℕ) → ((j : ℕ) → from ≤ j → j < i → is_at xs e o j ≡ false)
    → length xs ≤ i → (j : ℕ) → from ≤ j → is_at xs e o j ≡ false
none_all xs e o from i none past j h = by_place (nat_le i j) refl
  where
    by_place : (b : Bool) → nat_le i j ≡ b → is_at xs e o j ≡ false
    by_place true t =
        let above : i ≤ j = grind (arith, nat_tests) in
        is_at-past xs e o j (omega arith)
    by_place false t = none j h (grind (arith, nat_tests))

-- ---- a swap

stored-set : (es : List (List ℕ)) (ps : List Placed) (i : ℕ) (f : List ℕ) (p : Placed)
    → stored (set es i f) (set ps i p) ≡ set (stored es ps) i (arrival f p)
stored-set [] ps i f p = refl
stored-set (e ∷ es) [] zero f p = refl
stored-set (e ∷ es) [] (suc i) f p = refl
stored-set (e ∷ es) (q ∷ ps) zero f p = refl
stored-set (e ∷ es) (q ∷ ps) (suc i) f p = ap (λ v. arrival e q ∷ v) (stored-set es ps i f p)

stored-get : (es : List (List ℕ)) (ps : List Placed) (i : ℕ) (f : List ℕ) (p : Placed) → length es ≡ length ps
    → get_or (stored es ps) i (arrival f p) ≡ arrival (get_or es i f) (get_or ps i p)
stored-get [] [] i f p h = refl
stored-get [] (q ∷ ps) i f p h = absurd (omega arith)
stored-get (e ∷ es) [] i f p h = absurd (omega arith)
stored-get (e ∷ es) (q ∷ ps) zero f p h = refl
stored-get (e ∷ es) (q ∷ ps) (suc i) f p h = stored-get es ps i f p (omega arith)

pub stored-swap : (es : List (List ℕ)) (ps : List Placed) (i j : ℕ) → length es ≡ length ps
    → stored (swap es i j) (swap ps i j) ≡ swap (stored es ps) i j
stored-swap [] [] i j h = refl
stored-swap [] (p ∷ ps) i j h = absurd (omega arith)
stored-swap (e ∷ es) [] i j h = absurd (omega arith)
stored-swap (e ∷ es) (p ∷ ps) i j h =
    stored-set (set (e ∷ es) i (get_or (e ∷ es) j e)) (set (p ∷ ps) i (get_or (p ∷ ps) j p)) j (get_or (e ∷ es) i e)
    (get_or (p ∷ ps) i p)
    ∙ ap (λ v. set v j (arrival (get_or (e ∷ es) i e) (get_or (p ∷ ps) i p)))
    (stored-set (e ∷ es) (p ∷ ps) i (get_or (e ∷ es) j e) (get_or (p ∷ ps) j p))
    ∙ ap (λ v. set (set (stored (e ∷ es) (p ∷ ps)) i v) j (arrival (get_or (e ∷ es) i e) (get_or (p ∷ ps) i p)))
    (sym (stored-get (e ∷ es) (p ∷ ps) j e p h))
    ∙ ap (λ v. set (set (stored (e ∷ es) (p ∷ ps)) i (get_or (stored (e ∷ es) (p ∷ ps)) j (arrival e p))) j v)
    (sym (stored-get (e ∷ es) (p ∷ ps) i e p h))

-- ---- those that follow a position, brought to the front

-- the first `count` are those at the offsets after o, in order
pub record Gathered (old : List Arrival) (es : List (List ℕ)) (ps : List Placed) (e : List ℕ) (o count : ℕ) : Type
    0 where
  pub beside : length es ≡ length ps
  pub moved : IsPermutation old (stored es ps)
  pub counted : count ≤ length ps
  pub front : (k : ℕ) → k < count → is_at (stored es ps) e (o + 1 + k) k ≡ true

no_arrival : Arrival
no_arrival = arrival [] (record { offset = 0; datum = record { body = []; info = None } })

pub gathered_more : (old : List Arrival) (es : List (List ℕ)) (ps : List Placed) (e : List ℕ) (o count i : ℕ)
    → Gathered old es ps e o count → count ≤ i → i < length ps → is_at (stored es ps) e (o + (count + 1)) i ≡ true
    → Gathered old (swap es count i) (swap ps count i) e o (count + 1)
gathered_more old es ps e o n i g h k there =
    let many = length-stored es ps g.beside in
    let inside : n < length (stored es ps) = omega arith in
    let last : i < length (stored es ps) = omega arith in
    let sw = stored-swap es ps n i g.beside in
    let es_many = length-swap es n i in
    let ps_many = length-swap ps n i in
    let same_many : length (swap es n i) ≡ length (swap ps n i) = omega (arith, es_many, ps_many, g.beside) in
    record {
      beside = same_many;
      moved = IsPermutation-trans old (stored es ps) (stored (swap es n i) (swap ps n i)) g.moved
          (IsPermutation-swap (stored es ps) (stored (swap es n i) (swap ps n i)) n i inside last sw);
      counted = omega (arith, ps_many);
      front = λ j below. by_place j below (nat_le n j) refl;
    }
  where
    at_new : (j : ℕ) → j < length (stored es ps) → is_at (stored (swap es n i) (swap ps n i)) e (o + 1 + j) j
        ≡ is_of (get_or (stored (swap es n i) (swap ps n i)) j no_arrival) e (o + 1 + j)
    at_new j below =
        let es_many = length-swap es n i in
        let ps_many = length-swap ps n i in
        let same_many : length (swap es n i) ≡ length (swap ps n i) = omega (arith, es_many, ps_many, g.beside) in
        let new_many = length-stored (swap es n i) (swap ps n i) same_many in
        let many = length-stored es ps g.beside in
        is_at-get (stored (swap es n i) (swap ps n i)) e (o + 1 + j) j no_arrival (omega arith)

    moves : Swapped (λ k. get_or (stored es ps) k no_arrival)
        (λ k. get_or (stored (swap es n i) (swap ps n i)) k no_arrival) n i
    moves =
        let many = length-stored es ps g.beside in
        swapped_from_swap (stored es ps) (stored (swap es n i) (swap ps n i)) n i no_arrival (omega arith) (omega arith)
        (stored-swap es ps n i g.beside)

    before : (j : ℕ) → j < n → is_at (stored (swap es n i) (swap ps n i)) e (o + 1 + j) j ≡ true
    before j below =
        let many = length-stored es ps g.beside in
        let counted = g.counted in
        let same : get_or (stored (swap es n i) (swap ps n i)) j no_arrival ≡ get_or (stored es ps) j no_arrival =
        moves.2 j (λ x. omega arith) (λ x. omega arith) in
        at_new j (omega arith) ∙ ap (λ a. is_of a e (o + 1 + j)) same
        ∙ sym (is_at-get (stored es ps) e (o + 1 + j) j no_arrival (omega arith)) ∙ g.front j below

    here : is_at (stored (swap es n i) (swap ps n i)) e (o + 1 + n) n ≡ true
    here =
        let many = length-stored es ps g.beside in
        let sum : o + (n + 1) ≡ o + 1 + n = omega arith in
        at_new n (omega arith) ∙ ap (λ a. is_of a e (o + 1 + n)) moves.0
        ∙ sym (is_at-get (stored es ps) e (o + 1 + n) i no_arrival (omega arith))
        ∙ subst (λ s. is_at (stored es ps) e s i ≡ true) sum there

    by_place : (j : ℕ) → j < n + 1 → (b : Bool) → nat_le n j ≡ b
        → is_at (stored (swap es n i) (swap ps n i)) e (o + 1 + j) j ≡ true
    by_place j below true t =
        let same : n ≡ j = grind (arith, nat_tests) in
        subst (λ k. is_at (stored (swap es n i) (swap ps n i)) e (o + 1 + k) k ≡ true) same here
    by_place j below false t = before j (grind (arith, nat_tests))

-- where the next is nowhere from there on, it is nowhere
pub gathered_all : (old : List Arrival) (es : List (List ℕ)) (ps : List Placed) (e : List ℕ) (o count : ℕ)
    → Gathered old es ps e o count → ((i : ℕ) → count ≤ i → is_at (stored es ps) e (o + (count + 1)) i ≡ false)
    → (i : ℕ) → is_at (stored es ps) e (o + 1 + count) i ≡ false
gathered_all old es ps e o n g none i = by_place (nat_le n i) refl
  where
    by_place : (b : Bool) → nat_le n i ≡ b → is_at (stored es ps) e (o + 1 + n) i ≡ false
    by_place true t =
        let sum : o + (n + 1) ≡ o + 1 + n = omega arith in
        subst (λ s. is_at (stored es ps) e s i ≡ false) sum (none i (grind (arith, nat_tests)))
    by_place false t =
        let below : i < n = grind (arith, nat_tests) in
        is_at-other (stored es ps) e (o + 1 + i) (o + 1 + n) i (g.front i below) (λ x. omega arith)
