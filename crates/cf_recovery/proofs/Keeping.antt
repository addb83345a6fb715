-- What is kept, as it is stored.
use Rattle.std.proofs.Common.{◌≡◌, ℕ, zero, suc, ◌+◌, ◌≤◌, ◌<◌, ◌||◌, ◌++◌, Bool, true, false, List, [], ◌∷◌, Option}
use Rattle.std.proofs.Common.{Some, None, IfSome, IfNone, is_some, Result, Ok, Err, is_err, OnOk, length, reverse, refl}
use Rattle.std.proofs.Common.{sym, ap, subst, arith, ◌∙◌, nat_le, nat_lt, max, if◌then◌else◌}
use Rattle.std.specs.List.{list_any}
use Rattle.std.specs.List.Sorted.{IsPermutation}
use Rattle.std.proofs.lemmas.Bool.Decides.{nat_tests}
use Rattle.std.proofs.lemmas.List.{reverse-append, length-reverse, length-map, length-append}
use Rattle.std.proofs.lemmas.List.Sorted.{list_any-IsPermutation, IsPermutation-reverse}
use Rattle.cf_protocol.specs.Datum.{Placed}
use Rattle.cf_protocol.specs.Position.{Position}
use Rattle.cf_model.specs.Recovery.{has, highest, arrives, overfull, most_kept}
use Rattle.cf_recovery.specs.ArrivalBuffer.{Arrival, arrival, places, ArrivalBuffer, TakesRoom, IsWithin, StandsFor}
use Rattle.cf_recovery.specs.ArrivalBuffer.{with_arrival, given_up}
use Rattle.cf_recovery.specs.Stored.{stored, is_at, kept_of, IsStored}
use Rattle.cf_recovery.proofs.Runs.{below-highest}
use Rattle.cf_recovery.proofs.Storing.{is_of, length-stored}

-- ---- the places that are there

has-any : (xs : List Arrival) (e : List ℕ) (o : ℕ) → has (places xs) e o ≡ list_any (λ a. is_of a e o) xs
has-any [] e o = refl
has-any (x ∷ xs) e o = ap (λ b. is_of x e o || b) (has-any xs e o)

-- the order doesn't count
pub has-permutation : (xs ys : List Arrival) (e : List ℕ) (o : ℕ) → IsPermutation xs ys
    → has (places xs) e o ≡ has (places ys) e o
has-permutation xs ys e o h = has-any xs e o ∙ list_any-IsPermutation (λ a. is_of a e o) xs ys h ∙ sym (has-any ys e o)

pub has-reverse : (xs : List Arrival) (e : List ℕ) (o : ℕ) → has (places (reverse xs)) e o ≡ has (places xs) e o
has-reverse xs e o = sym (has-permutation xs (reverse xs) e o (IsPermutation-reverse xs))

pub has-at : (xs : List Arrival) (e : List ℕ) (o i : ℕ) → is_at xs e o i ≡ true → has (places xs) e o ≡ true
has-at [] e o i h = h
has-at (x ∷ xs) e o zero h = grind (arith, h)
has-at (x ∷ xs) e o (suc i) h = let k = has-at xs e o i h in grind (arith, k)

pub has-none : (xs : List Arrival) (e : List ℕ) (o : ℕ) → ((i : ℕ) → is_at xs e o i ≡ false)
    → has (places xs) e o ≡ false
has-none [] e o h = refl
has-none (x ∷ xs) e o h =
    let here : is_of x e o ≡ false = h 0 in
    let k = has-none xs e o (λ i. h (suc i)) in grind (arith, here, k)

-- what a search says of a place
pub has-found : (xs : List Arrival) (e : List ℕ) (o n : ℕ) (r : Option ℕ)
    → IfSome r (λ i. (0 ≤ i) × (i < n) × (is_at xs e (o + 0) i ≡ true))
    → IfNone r ((i : ℕ) → 0 ≤ i → is_at xs e (o + 0) i ≡ false) → is_some r ≡ has (places (reverse xs)) e o
has-found xs e o n None h k =
    let zero_more : o + 0 ≡ o = omega arith in
    sym (has-reverse xs e o ∙ has-none xs e o (λ i. subst (λ p. is_at xs e p i ≡ false) zero_more (k i (omega arith))))
has-found xs e o n (Some i) h k =
    let zero_more : o + 0 ≡ o = omega arith in
    sym (has-reverse xs e o ∙ has-at xs e o i (subst (λ p. is_at xs e p i ≡ true) zero_more h.2))

-- what is above the highest isn't there
pub has-above : (xs : List Arrival) (e : List ℕ) (o : ℕ) → highest (places xs) < o → false ≡ has (places xs) e o
has-above xs e o h = by_value (has (places xs) e o) refl
  where
    by_value : (b : Bool) → has (places xs) e o ≡ b → false ≡ b
    by_value true t = let below = below-highest (places xs) e o t in absurd (omega arith)
    by_value false t = refl

-- ---- one more

stored-push : (es : List (List ℕ)) (ps : List Placed) (e : List ℕ) (p : Placed) → length es ≡ length ps
    → stored (es ++ e ∷ []) (ps ++ p ∷ []) ≡ stored es ps ++ arrival e p ∷ []
stored-push [] [] e p h = refl
stored-push [] (q ∷ ps) e p h = absurd (omega arith)
stored-push (f ∷ es) [] e p h = absurd (omega arith)
stored-push (f ∷ es) (q ∷ ps) e p h = ap (λ v. arrival f q ∷ v) (stored-push es ps e p (omega arith))

pub newest-push : (es : List (List ℕ)) (ps : List Placed) (e : List ℕ) (p : Placed) → length es ≡ length ps
    → reverse (stored (es ++ e ∷ []) (ps ++ p ∷ [])) ≡ arrival e p ∷ reverse (stored es ps)
newest-push es ps e p h =
    ap (λ v. reverse v) (stored-push es ps e p h) ∙ reverse-append (stored es ps) (arrival e p ∷ [])

pub kept-push : (es : List (List ℕ)) (ps : List Placed) (top : ℕ) (overflow short : Bool) (e : List ℕ) (p : Placed)
    → IsStored es ps top overflow short → kept_of (es ++ e ∷ []) (ps ++ p ∷ []) overflow short
    ≡ record (kept_of es ps overflow short) { arrived = arrival e p ∷ reverse (stored es ps) }
kept-push es ps top overflow short e p h = let n = newest-push es ps e p h.beside in cc

both_false : (a b : Bool) → (a || b) ≡ false → (a ≡ false) × (b ≡ false)
both_false a b h = grind arith

pub within-push : (a : Arrival) (k : ArrivalBuffer) → TakesRoom a k → IsWithin k
    → IsWithin (record k { arrived = a ∷ k.arrived })
within-push a k r w =
    record {
      once = (r.first, w.once);
      few = r.fits;
      nothing = λ h. let whole = r.whole in absurd (cc);
      cause = w.cause;
    }

pub stored_more : (es : List (List ℕ)) (ps : List Placed) (top more : ℕ) (overflow short : Bool) (e : List ℕ)
    (p : Placed) → TakesRoom (arrival e p) (kept_of es ps overflow short) → IsStored es ps top overflow short
    → more ≡ max p.offset top → IsStored (es ++ e ∷ []) (ps ++ p ∷ []) more overflow short
stored_more es ps top more overflow short e p r h is =
    let beside = h.beside in
    let a = length-append es (e ∷ []) in
    let b = length-append ps (p ∷ []) in
    record {
      beside = omega arith;
      highest_is =
          is ∙ ap (max p.offset) h.highest_is ∙ sym (ap (λ xs. highest (places xs)) (newest-push es ps e p h.beside));
      within = rw (kept-push es ps top overflow short e p h)
          (within-push (arrival e p) (kept_of es ps overflow short) r h.within);
    }

-- however it is with the place
pub within-arrival : (a : Arrival) (k : ArrivalBuffer) → IsWithin k → IsWithin (with_arrival a k)
within-arrival a k w =
    by_test (k.overflow || has (places k.arrived) a.at.epoch a.at.offset) (overfull (a.at ∷ places k.arrived)) refl refl
  where
    by_test : (known many : Bool) → (k.overflow || has (places k.arrived) a.at.epoch a.at.offset) ≡ known
        → overfull (a.at ∷ places k.arrived) ≡ many
        → IsWithin (if known then k else if many then given_up k.short else record k { arrived = a ∷ k.arrived })
    by_test true many h m = w
    by_test false true h m = record { once = tt; few = refl; nothing = λ e. refl; cause = λ e. refl }
    by_test false false h m =
        let two = both_false k.overflow (has (places k.arrived) a.at.epoch a.at.offset) h in
        within-push a k (record { whole = two.0; first = two.1; fits = m }) w

-- the same length, in whatever order
pub length-kept : (es : List (List ℕ)) (ps : List Placed) → length es ≡ length ps
    → length (places (reverse (stored es ps))) ≡ length ps
length-kept es ps h =
    length-map (reverse (stored es ps)) (λ (a : Arrival). a.at) ∙ length-reverse (stored es ps) ∙ length-stored es ps h

one_below : (n : ℕ) → nat_le 1000 n ≡ nat_lt 1000 (suc n)
one_below n = grind (arith, nat_tests)

-- one more is too many where as many are kept as may be
pub full-test : (es : List (List ℕ)) (ps : List Placed) (n : ℕ) → length es ≡ length ps → n ≡ length ps → (q : Position)
    → nat_le 1000 n ≡ overfull (q ∷ places (reverse (stored es ps)))
full-test es ps n h k q = one_below n ∙ ap (λ m. nat_lt 1000 (suc m)) (k ∙ sym (length-kept es ps h))

-- ---- what a call makes of it

pub neither : (a b : Bool) → a ≡ false → b ≡ false → (a || b) ≡ false
neither a b h k = grind arith

right : (a b : Bool) → (a || b) ≡ true → a ≡ false → b ≡ true
right a b h k = grind arith

pub with_arrival-full : (a : Arrival) (k : ArrivalBuffer)
    → (k.overflow || has (places k.arrived) a.at.epoch a.at.offset) ≡ false → overfull (a.at ∷ places k.arrived) ≡ true
    → with_arrival a k ≡ given_up k.short
with_arrival-full a k h i = rw (h, i) refl

pub with_arrival-kept : (a : Arrival) (k : ArrivalBuffer) → TakesRoom a k
    → with_arrival a k ≡ record k { arrived = a ∷ k.arrived }
with_arrival-kept a k r =
    let whole = r.whole in let first = r.first in let fits = r.fits in
    let h : (k.overflow || has (places k.arrived) a.at.epoch a.at.offset) ≡ false = grind arith in
    rw (h, fits) refl

arrives-known : (q : Position) (ps : List Position) → has ps q.epoch q.offset ≡ true → arrives q ps ≡ ps
arrives-known q ps h = rw h refl

arrives-new : (q : Position) (ps : List Position) → has ps q.epoch q.offset ≡ false → arrives q ps ≡ q ∷ ps
arrives-new q ps h = rw h refl

chosen : {A : Type 0} (P : A → Type 0) (b : Bool) (x y : A) → (b ≡ true → P x) → (b ≡ false → P y)
    → P (if b then x else y)
chosen P true x y h k = h refl
chosen P false x y h k = k refl

one_above : (m n : ℕ) → nat_lt m n ≡ true → nat_lt m (suc n) ≡ true
one_above m n h = grind (arith, nat_tests)

-- more than are kept stays more
overfull-more : (q : Position) (ps : List Position) → overfull ps ≡ true → overfull (arrives q ps) ≡ true
overfull-more q ps h =
    chosen (λ v. overfull v ≡ true) (has ps q.epoch q.offset) ps (q ∷ ps) (λ x. h)
    (λ x. one_above most_kept (length ps) h)

-- what is kept goes on standing for what arrived
pub stands_more : (a : Arrival) (k : ArrivalBuffer) (arrived : List Position) → StandsFor k arrived
    → StandsFor (with_arrival a k) (arrives a.at arrived)
stands_more a k arrived s =
    chosen (λ v. StandsFor v (arrives a.at arrived)) (k.overflow || has (places k.arrived) a.at.epoch a.at.offset) k
    _ known
    (λ h. chosen (λ v. StandsFor v (arrives a.at arrived)) (overfull (a.at ∷ places k.arrived)) (given_up k.short)
    (record k { arrived = a ∷ k.arrived }) (full h) (more h))
  where
    known : (k.overflow || has (places k.arrived) a.at.epoch a.at.offset) ≡ true → StandsFor k (arrives a.at arrived)
    known t =
        record {
          all = λ h. let there = right k.overflow (has (places k.arrived) a.at.epoch a.at.offset) t h in
              subst (λ v. places k.arrived ≡ arrives a.at v) (s.all h)
              (sym (arrives-known a.at (places k.arrived) there));
          more = λ h i. overfull-more a.at arrived (s.more h i);
        }

    grown : (k.overflow || has (places k.arrived) a.at.epoch a.at.offset) ≡ false
        → a.at ∷ places k.arrived ≡ arrives a.at arrived
    grown f =
        let e = both_false k.overflow (has (places k.arrived) a.at.epoch a.at.offset) f in
        subst (λ v. a.at ∷ places k.arrived ≡ arrives a.at v) (s.all e.0)
        (sym (arrives-new a.at (places k.arrived) e.1))

    full : (k.overflow || has (places k.arrived) a.at.epoch a.at.offset) ≡ false
        → overfull (a.at ∷ places k.arrived) ≡ true → StandsFor (given_up k.short) (arrives a.at arrived)
    full f o = record { all = λ h. absurd (cc); more = λ h i. subst (λ v. overfull v ≡ true) (grown f) o }

    more : (k.overflow || has (places k.arrived) a.at.epoch a.at.offset) ≡ false
        → overfull (a.at ∷ places k.arrived) ≡ false → StandsFor (record k { arrived = a ∷ k.arrived })
        (arrives a.at arrived)
    more f o =
        let e = both_false k.overflow (has (places k.arrived) a.at.epoch a.at.offset) f in
        let whole = e.0 in
        record { all = λ h. grown f; more = λ h i. absurd (cc) }

-- what a call that went well ensures
pub on_ok : {T E P : Type 0} (r : Result T E) → is_err r ≡ false → OnOk r P → P
on_ok (Ok x) h p = p
on_ok (Err e) h p = absurd (cc)
