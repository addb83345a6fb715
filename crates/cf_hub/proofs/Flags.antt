-- Turns are kept: what one more and one less make of numbers and flags.
use Rattle.std.proofs.Common.{◌≡◌, ◌≤◌, ◌<◌, ◌+◌, ◌==◌, ◌||◌, ℕ, zero, suc, Bool, true, false, List, [], ◌∷◌, ◌++◌}
use Rattle.std.proofs.Common.{length, arith, refl, sym, ap, ◌∙◌, subst, slice_set, nat_lt}
use Rattle.std.proofs.lemmas.Bool.Decides.{Decides-eqb, nat_tests}
use Rattle.std.proofs.lemmas.List.{length-append, length-set, get_or-set_same, get_or-set_other}
use Rattle.std.proofs.lemmas.List.Folds.{list_any-append}
use Rattle.cf_hub.specs.Counts.{AreNumbersOnce}
use Rattle.cf_hub.specs.Flags.{AreFlagged, is_flagged, flags_count}
use Rattle.cf_hub.specs.Turns.{is_in}

-- ---- counting flags

flags_few : (ms : List Bool) → flags_count ms ≤ length ms
flags_few [] = omega arith
flags_few (true ∷ ms) = omega (arith, flags_few ms)
flags_few (false ∷ ms) = omega (arith, flags_few ms)

pub flags_fewer : (ms : List Bool) (k : ℕ) → k < length ms → is_flagged ms k ≡ false → flags_count ms < length ms
flags_fewer [] k l e = absurd (omega (arith, l))
flags_fewer (true ∷ ms) zero l e = absurd (cc)
flags_fewer (false ∷ ms) zero l e = omega (arith, flags_few ms)
flags_fewer (true ∷ ms) (suc k) l e = omega (arith, flags_fewer ms k (omega (arith, l)) e)
flags_fewer (false ∷ ms) (suc k) l e = omega (arith, flags_fewer ms k (omega (arith, l)) e)

one_flagged : (ms : List Bool) (k : ℕ) → k < length ms → is_flagged ms k ≡ false
    → flags_count (slice_set ms k true) ≡ flags_count ms + 1
one_flagged [] k l e = absurd (omega (arith, l))
one_flagged (true ∷ ms) zero l e = absurd (cc)
one_flagged (false ∷ ms) zero l e = omega arith
one_flagged (true ∷ ms) (suc k) l e = omega (arith, one_flagged ms k (omega (arith, l)) e)
one_flagged (false ∷ ms) (suc k) l e = omega (arith, one_flagged ms k (omega (arith, l)) e)

one_unflagged : (ms : List Bool) (k : ℕ) → is_flagged ms k ≡ true
    → flags_count (slice_set ms k false) + 1 ≡ flags_count ms
one_unflagged [] k e = absurd (cc)
one_unflagged (true ∷ ms) zero e = omega arith
one_unflagged (false ∷ ms) zero e = absurd (cc)
one_unflagged (true ∷ ms) (suc k) e = omega (arith, one_unflagged ms k e)
one_unflagged (false ∷ ms) (suc k) e = omega (arith, one_unflagged ms k e)

in_range : (ms : List Bool) (k : ℕ) → is_flagged ms k ≡ true → k < length ms
in_range [] k e = absurd (cc)
in_range (m ∷ ms) zero e = omega arith
in_range (m ∷ ms) (suc k) e = omega (arith, in_range ms k e)

same_count : (ms ns : List Bool) → ((k : ℕ) → is_flagged ns k ≡ is_flagged ms k) → flags_count ns ≡ flags_count ms
same_count [] [] h = refl
same_count [] (false ∷ ns) h = same_count [] ns (λ k. h (suc k))
same_count [] (true ∷ ns) h = absurd (let e = h 0 in cc)
same_count (false ∷ ms) [] h = same_count ms [] (λ k. h (suc k))
same_count (true ∷ ms) [] h = absurd (let e = h 0 in cc)
same_count (true ∷ ms) (true ∷ ns) h = ap suc (same_count ms ns (λ k. h (suc k)))
same_count (false ∷ ms) (false ∷ ns) h = same_count ms ns (λ k. h (suc k))
same_count (true ∷ ms) (false ∷ ns) h = absurd (let e = h 0 in cc)
same_count (false ∷ ms) (true ∷ ns) h = absurd (let e = h 0 in cc)

-- ---- numbers

pub is_last : (k j : ℕ) (ks : List ℕ) → is_in k (ks ++ j ∷ []) ≡ (is_in k ks || (j == k))
is_last k j ks = let e = list_any-append (λ i. i == k) ks (j ∷ []) in grind (arith, e)

once_more : (k : ℕ) (ks : List ℕ) → is_in k ks ≡ false → AreNumbersOnce ks → AreNumbersOnce (ks ++ k ∷ [])
once_more k [] h o = (refl, tt)
once_more k (x ∷ xs) h o =
    let last = is_last x k xs in
    let apart : is_in x (xs ++ k ∷ []) ≡ false = grind (arith, nat_tests, last, h, o.0) in
    let rest : is_in k xs ≡ false = grind (arith, nat_tests, h) in
    (apart, once_more k xs rest o.1)

-- ---- one more, one less, and more room

pub added : (ns : List ℕ) (ms : List Bool) (room k : ℕ) → AreFlagged ns ms room → k < length ms
    → is_flagged ms k ≡ false
    → AreFlagged (ns ++ k ∷ []) (slice_set ms k true) room
added ns ms room k a l e =
    record {
      flagged = λ j. by_value j (j == k) (Decides-eqb j k).0 (λ h. (Decides-eqb j k).1 h);
      once = once_more k ns (a.flagged k ∙ e) a.once;
      count = omega (arith, length-append ns (k ∷ []), one_flagged ms k l e, a.count);
      room = omega (arith, length-set ms k true, a.room);
    }
  where
    or_true : (b : Bool) → (b || true) ≡ true
    or_true true = refl
    or_true false = refl

    or_false : (b : Bool) → (b || false) ≡ b
    or_false true = refl
    or_false false = refl

    here : is_in k (ns ++ k ∷ []) ≡ is_flagged (slice_set ms k true) k
    here = is_last k k ns ∙ ap (λ t. is_in k ns || t) ((Decides-eqb k k).1 refl) ∙ or_true (is_in k ns)
        ∙ sym (get_or-set_same ms k true false l)

    by_value : (j : ℕ) (t : Bool) → (t ≡ true → j ≡ k) → (j ≡ k → t ≡ true)
        → is_in j (ns ++ k ∷ []) ≡ is_flagged (slice_set ms k true) j
    by_value j true f g = subst (λ i. is_in i (ns ++ k ∷ []) ≡ is_flagged (slice_set ms k true) i) (sym (f refl)) here
    by_value j false f g =
        let apart : (k == j) ≡ false = other (k == j) (λ h. sym ((Decides-eqb k j).0 h)) in
        is_last j k ns ∙ ap (λ t. is_in j ns || t) apart ∙ or_false (is_in j ns) ∙ a.flagged j
        ∙ sym (get_or-set_other ms k j true false (λ h. absurd (let c = g h in cc)))
      where
        other : (u : Bool) → (u ≡ true → j ≡ k) → u ≡ false
        other true h = absurd (let c = g (h refl) in cc)
        other false h = refl

pub within : (k : ℕ) (ns : List ℕ) (ms : List Bool) (room : ℕ) → AreFlagged (k ∷ ns) ms room → is_flagged ms k ≡ true
within k ns ms room a = sym (a.flagged k) ∙ first
  where
    first : is_in k (k ∷ ns) ≡ true
    first = grind (arith, nat_tests)

pub in_flags : (k : ℕ) (ns : List ℕ) (ms : List Bool) (room : ℕ) → AreFlagged (k ∷ ns) ms room → k < length ms
in_flags k ns ms room a = in_range ms k (within k ns ms room a)

pub taken : (k : ℕ) (ns : List ℕ) (ms : List Bool) (room : ℕ) → AreFlagged (k ∷ ns) ms room
    → AreFlagged ns (slice_set ms k false) room
taken k ns ms room a =
    record {
      flagged = λ j. by_value j (j == k) (Decides-eqb j k).0 (λ h. (Decides-eqb j k).1 h);
      once = a.once.1;
      count = omega (arith, one_unflagged ms k (within k ns ms room a), a.count);
      room = omega (arith, length-set ms k false, a.room);
    }
  where
    by_value : (j : ℕ) (t : Bool) → (t ≡ true → j ≡ k) → (j ≡ k → t ≡ true)
        → is_in j ns ≡ is_flagged (slice_set ms k false) j
    by_value j true f g =
        subst (λ i. is_in i ns ≡ is_flagged (slice_set ms k false) i) (sym (f refl))
        (a.once.0 ∙ sym (get_or-set_same ms k false false (in_flags k ns ms room a)))
    by_value j false f g =
        sym (passed (k == j) (λ h. sym ((Decides-eqb k j).0 h)) refl) ∙ a.flagged j
        ∙ sym (get_or-set_other ms k j false false (λ h. absurd (let c = g h in cc)))
      where
        passed : (u : Bool) → (u ≡ true → j ≡ k) → (k == j) ≡ u → is_in j (k ∷ ns) ≡ is_in j ns
        passed true h is = absurd (let c = g (h refl) in cc)
        passed false h is = grind (arith, is)

pub widened : (ns : List ℕ) (ms new : List Bool) (room more : ℕ) → AreFlagged ns ms room
    → ((k : ℕ) → is_flagged new k ≡ is_flagged ms k) → length new ≤ more → AreFlagged ns new more
widened ns ms new room more a h l =
    record {
      flagged = λ k. a.flagged k ∙ sym (h k);
      once = a.once;
      count = a.count ∙ sym (same_count ms new h);
      room = l;
    }

past : (ms : List Bool) (k : ℕ) → length ms ≤ k → is_flagged ms k ≡ false
past [] k l = refl
past (m ∷ ms) zero l = absurd (omega (arith, l))
past (m ∷ ms) (suc k) l = past ms k (omega (arith, l))

-- more flags, none of them set
pub grown : (ms new : List Bool) (n : ℕ) → length ms < n → length new ≡ n
    → ((k : ℕ) → k < length ms → is_flagged new k ≡ is_flagged ms k)
    → ((k : ℕ) → length ms ≤ k → k < n → is_flagged new k ≡ false)
    → (k : ℕ) → is_flagged new k ≡ is_flagged ms k
grown ms new n l e same fresh k = by_value (nat_lt k (length ms)) refl (nat_lt k n) refl
  where
    by_value : (t : Bool) → nat_lt k (length ms) ≡ t → (u : Bool) → nat_lt k n ≡ u → is_flagged new k ≡ is_flagged ms k
    by_value true h u g = same k (grind (arith, nat_tests, h))
    by_value false h true g =
        let behind : length ms ≤ k = grind (arith, nat_tests, h) in
        let within : k < n = grind (arith, nat_tests, g) in
        fresh k behind within ∙ sym (past ms k behind)
    by_value false h false g =
        let behind : length ms ≤ k = grind (arith, nat_tests, h) in
        let beyond : length new ≤ k = grind (arith, nat_tests, g, e) in
        past new k beyond ∙ sym (past ms k behind)
