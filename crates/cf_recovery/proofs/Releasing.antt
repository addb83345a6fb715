-- What a release passes on, as it is gathered at the front of what is stored.
use Rattle.std.proofs.Common.{◌≡◌, ℕ, zero, suc, ◌+◌, ◌≤◌, ◌<◌, ◌==◌, ◌&&◌, ◌||◌, Bool, true, false, not, List, [], ◌∷◌}
use Rattle.std.proofs.Common.{length, map, reverse, take, length-take-le, nat_le, inl, inr, refl, sym, ap, subst, arith}
use Rattle.std.proofs.Common.{◌∙◌}
use Rattle.std.specs.Str.{bytes_eq}
use Rattle.std.specs.List.{All, Contains}
use Rattle.std.specs.List.Sorted.{IsPermutation}
use Rattle.std.proofs.lemmas.Bool.Decides.{nat_tests}
use Rattle.std.proofs.lemmas.List.Elements.{All-nil, All-cons, Contains-append_right}
use Rattle.std.proofs.lemmas.List.{length-reverse}
use Rattle.std.proofs.lemmas.List.Sorted.{length_permutation, Contains-permutation, IsPermutation-reverse}
use Rattle.std.proofs.lemmas.List.Sorted.{IsPermutation-sym}
use Rattle.cf_protocol.specs.Datum.{Placed, numbered}
use Rattle.cf_protocol.specs.Position.{Position}
use Rattle.cf_model.specs.Recovery.{has, highest, overfull, all_within}
use Rattle.cf_model.specs.Recovery.{all_arrived, greatest, run_length, falls_short}
use Rattle.cf_recovery.specs.ArrivalBuffer.{Arrival, arrival, places, ArrivalBuffer, IsWithin, IsRun, StandsFor}
use Rattle.cf_recovery.specs.ArrivalBuffer.{ended_at}
use Rattle.cf_recovery.specs.Stored.{stored, is_at}
use Rattle.cf_recovery.proofs.Keeping.{has-permutation, has-reverse, has-at, has-none}
use Rattle.cf_recovery.proofs.Storing.{length-stored}
use Rattle.cf_recovery.proofs.Runs.{below-highest, all_true, all_made, passes, at_most, lies-within, within-lies}
use Rattle.cf_recovery.proofs.Runs.{text_tells}

-- the same places are kept and stored
pub same_places : (old new : List Arrival) (e : List ℕ) (o : ℕ) → IsPermutation old new
    → has (places (reverse old)) e o ≡ has (places new) e o
same_places old new e o h = has-reverse old e o ∙ has-permutation old new e o h

-- ---- how many

-- the greatest is this number, where so many follow and the next does not
greatest-is : (ps : List Position) (e : List ℕ) (o n k : ℕ) → ((j : ℕ) → j < k → has ps e (o + 1 + j) ≡ true)
    → has ps e (o + 1 + k) ≡ false → k ≤ n → greatest (all_arrived ps e o) n ≡ k
greatest-is ps e o n k h g l =
    let low : k ≤ greatest (all_arrived ps e o) n = at_most (all_arrived ps e o) n k l (all_made ps e o k h) in
    let high : greatest (all_arrived ps e o) n ≤ k = elim (passes (all_arrived ps e o) n) [
      | inl none ↦ omega arith
      | inr all ↦ no_more (nat_le (greatest (all_arrived ps e o) n) k) refl all
    ] in
    omega arith
  where
    false-true : (b : Bool) → b ≡ true → b ≡ false → ⊥
    false-true b x y = cc

    no_more : (b : Bool) → nat_le (greatest (all_arrived ps e o) n) k ≡ b
        → all_arrived ps e o (greatest (all_arrived ps e o) n) ≡ true → greatest (all_arrived ps e o) n ≤ k
    no_more true x all = grind (arith, nat_tests)
    no_more false x all =
        let above : k < greatest (all_arrived ps e o) n = grind (arith, nat_tests) in
        absurd (false-true _ (all_true ps e o (greatest (all_arrived ps e o) n) k all above) g)

-- so many are not above the highest
few_enough : (ps : List Position) (e : List ℕ) (o k : ℕ) → ((j : ℕ) → j < k → has ps e (o + 1 + j) ≡ true)
    → k ≤ highest ps
few_enough ps e o zero h = omega arith
few_enough ps e o (suc k) h = let b = below-highest ps e (o + 1 + k) (h k (omega arith)) in omega arith

pub run_counted : (old new : List Arrival) (p : Position) (n : ℕ) → overfull (places (reverse old)) ≡ false
    → IsPermutation old new → ((k : ℕ) → k < n → is_at new p.epoch (p.offset + 1 + k) k ≡ true)
    → ((i : ℕ) → is_at new p.epoch (p.offset + 1 + n) i ≡ false) → run_length (places (reverse old)) (ended_at p) ≡ n
run_counted old new p n few moved front gap =
    rw few (greatest-is (places (reverse old)) p.epoch p.offset (highest (places (reverse old))) n reached
    (same_places old new p.epoch (p.offset + 1 + n) moved ∙ has-none new p.epoch (p.offset + 1 + n) gap)
    (few_enough (places (reverse old)) p.epoch p.offset n reached))
  where
    reached : (j : ℕ) → j < n → has (places (reverse old)) p.epoch (p.offset + 1 + j) ≡ true
    reached j h =
        same_places old new p.epoch (p.offset + 1 + j) moved ∙ has-at new p.epoch (p.offset + 1 + j) j (front j h)

-- ---- whether anything is left

same_test : (a b : Bool) → (a ≡ true → b ≡ true) → (b ≡ true → a ≡ true) → a ≡ b
same_test true b h k = sym (h refl)
same_test false true h k = k refl
same_test false false h k = refl

all_within-same : (ps qs : List Position) (e : List ℕ) (high : ℕ) → ((f : List ℕ) (i : ℕ) → has ps f i ≡ has qs f i)
    → all_within ps e high ≡ all_within qs e high
all_within-same ps qs e high same =
    same_test (all_within ps e high) (all_within qs e high)
    (λ h. within-lies qs e high (λ f i k. lies-within ps e high h f i (same f i ∙ k)))
    (λ h. within-lies ps e high (λ f i k. lies-within qs e high h f i (sym (same f i) ∙ k)))

pub left_over : (old new : List Arrival) (p : Position) (n : ℕ) → overfull (places (reverse old)) ≡ false
    → IsPermutation old new → run_length (places (reverse old)) (ended_at p) ≡ n
    → not (all_within (places new) p.epoch (p.offset + n)) ≡ falls_short (places (reverse old)) (ended_at p)
left_over old new p n few moved counted =
    sym (subst (λ v. falls_short (places (reverse old)) (ended_at p)
    ≡ not (all_within (places (reverse old)) p.epoch (p.offset + v))) counted
    (short (overfull (places (reverse old))) few _)
    ∙ ap (λ v. not v) (all_within-same (places (reverse old)) (places new) p.epoch (p.offset + n)
    (λ f i. same_places old new f i moved)))
  where
    short : (a : Bool) → a ≡ false → (b : Bool) → (a || b) ≡ b
    short true h b = absurd (cc)
    short false h b = refl

pub either_way : (a b i : Bool) → a ≡ true → i ≡ true → i ≡ (a || b)
either_way a b i h k = rw h k

pub by_the_rest : (a b i : Bool) → a ≡ false → i ≡ b → i ≡ (a || b)
by_the_rest a b i h k = rw h k

-- ---- which

front_numbered : (es : List (List ℕ)) (ps : List Placed) (e : List ℕ) (o n : ℕ)
    → ((k : ℕ) → k < n → is_at (stored es ps) e (o + 1 + k) k ≡ true)
    → take n ps ≡ numbered o (map (λ x. x.datum) (take n ps))
front_numbered es ps e o zero h = refl
front_numbered [] ps e o (suc n) h = absurd (let f : false ≡ true = h 0 (omega arith) in cc)
front_numbered (f ∷ es) [] e o (suc n) h = refl
front_numbered (f ∷ es) (q ∷ ps) e o (suc n) h =
    let rest = front_numbered es ps e (o + 1) n (λ k l. let at : o + 1 + suc k ≡ o + 1 + 1
    + k = omega arith in subst (λ x. is_at (stored es ps) e x k ≡ true) at (h (suc k) (omega arith))) in
    let here : q.offset ≡ o + 1 = offset_of (bytes_eq f e) (h 0 (omega arith)) in
    subst (λ v. q ∷ take n ps ≡ record { offset = v; datum = q.datum }
    ∷ numbered (o + 1) (map (λ x. x.datum) (take n ps))) here (ap (λ v. q ∷ v) rest)
  where
    offset_of : (b : Bool) → (b && (q.offset == o + 1 + 0)) ≡ true → q.offset ≡ o + 1
    offset_of b k = grind (arith, nat_tests)

front_in : (es : List (List ℕ)) (ps : List Placed) (e : List ℕ) (o n : ℕ) (whole : List Arrival)
    → ((a : Arrival) → Contains (stored es ps) a → Contains whole a)
    → ((k : ℕ) → k < n → is_at (stored es ps) e (o + 1 + k) k ≡ true)
    → All (λ x. Contains whole (arrival e x)) (take n ps)
front_in es ps e o zero whole inside h = All-nil (λ x. Contains whole (arrival e x))
front_in [] ps e o (suc n) whole inside h = absurd (let f : false ≡ true = h 0 (omega arith) in cc)
front_in (f ∷ es) [] e o (suc n) whole inside h = All-nil (λ x. Contains whole (arrival e x))
front_in (f ∷ es) (q ∷ ps) e o (suc n) whole inside h =
    All-cons (λ x. Contains whole (arrival e x)) q (take n ps)
    (subst (λ g. Contains whole (arrival g q)) same (inside (arrival f q) (0, omega arith, refl)))
    (front_in es ps e (o + 1) n whole (λ a k. inside a (Contains-append_right (arrival f q ∷ []) (stored es ps) a k))
    (λ k l. let at : o + 1 + suc k ≡ o + 1 + 1 + k = omega arith in subst (λ x. is_at (stored es ps) e x k ≡ true)
    at (h (suc k) (omega arith))))
  where
    here : (bytes_eq f e && (q.offset == o + 1 + 0)) ≡ true
    here = h 0 (omega arith)

    same : f ≡ e
    same = grind (arith, nat_tests, text_tells, here)

pub run_is : (old : List Arrival) (overflow short : Bool) (es : List (List ℕ)) (ps : List Placed) (p : Position) (n : ℕ)
    → run_length (places (reverse old)) (ended_at p) ≡ n → IsPermutation old (stored es ps) → n ≤ length ps
    → ((k : ℕ) → k < n → is_at (stored es ps) p.epoch (p.offset + 1 + k) k ≡ true)
    → IsRun (record { arrived = reverse old; overflow = overflow; short = short }) p (take n ps)
run_is old overflow short es ps p n counted moved within front =
    record {
      counted = length-take-le n ps within ∙ sym counted;
      at_offsets = front_numbered es ps p.epoch p.offset n front;
      kept = front_in es ps p.epoch p.offset n (reverse old)
          (λ a h. Contains-permutation old (reverse old) a (IsPermutation-reverse old)
          (Contains-permutation (stored es ps) old a (IsPermutation-sym old (stored es ps) moved) h)) front;
    }

-- what is passed on was kept
pub run_few : (es fs : List (List ℕ)) (ps qs : List Placed) (n : ℕ) → length fs ≡ length qs
    → IsPermutation (stored es ps) (stored fs qs) → n ≤ length qs → length (take n qs) ≤ length (reverse (stored es ps))
run_few es fs ps qs n beside moved within =
    omega (
      arith,
      length-take-le n qs within,
      length-reverse (stored es ps),
      length_permutation (stored es ps) (stored fs qs) moved,
      length-stored fs qs beside,
    )

pub none_kept : {X Y : Type 0} (run : List X) (kept : List Y) → kept ≡ [] → length run ≤ length kept → run ≡ []
none_kept [] kept h few = refl
none_kept (x ∷ run) kept h few = let none = ap (λ ys. length ys) h in absurd (omega arith)

-- ---- of all that arrived

pub stands_released : (k : ArrivalBuffer) (p : Position) (arrived : List Position) (count : ℕ) (insufficient : Bool)
    → IsWithin k → StandsFor k arrived → k.short ≡ false → count ≡ run_length (places k.arrived) (ended_at p)
    → insufficient ≡ (k.overflow || falls_short (places k.arrived) (ended_at p))
    → (count ≡ run_length arrived (ended_at p)) × (insufficient ≡ falls_short arrived (ended_at p))
stands_released k p arrived count insufficient w s whole h i = by_overflow k.overflow refl
  where
    by_overflow : (b : Bool) → k.overflow ≡ b → (count ≡ run_length arrived (ended_at p))
        × (insufficient ≡ falls_short arrived (ended_at p))
    by_overflow true t =
        let more = s.more t whole in
        let gone = w.nothing t in
        let nothing : run_length (places k.arrived) (ended_at p) ≡ 0 = rw gone refl in
        let none : run_length arrived (ended_at p) ≡ 0 = rw more refl in
        let over : falls_short arrived (ended_at p) ≡ true = rw more refl in
        let given : (k.overflow || falls_short (places k.arrived) (ended_at p)) ≡ true = rw t refl in
        (h ∙ nothing ∙ sym none, i ∙ given ∙ sym over)
    by_overflow false t =
        let all = s.all t in
        let given : (k.overflow || falls_short (places k.arrived) (ended_at p))
        ≡ falls_short (places k.arrived) (ended_at p) = rw t refl in (
          subst (λ v. count ≡ run_length v (ended_at p)) all h,
          subst (λ v. insufficient ≡ falls_short v (ended_at p)) all (i ∙ given),
        )
