-- What a walk along the pointers of a number's list has left.
use Rattle.std.proofs.Common.{◌≡◌, ℕ, ◌==◌, true, false, cond, List, [], ◌∷◌, ◌++◌, Option, Some, None, refl, sym, ap}
use Rattle.std.proofs.Common.{◌∙◌, subst, append_assoc}
use Rattle.std.specs.Prelude.{IsSome}
use Rattle.std.specs.List.{AllByRecursion, IsDistinct}
use denote.RawPtr.{Ptr}
use Rattle.lru.specs.Linked.{IsApart}
use Rattle.lru.proofs.Apart.{IsFresh, same_ptr_refl}
use Rattle.lru.proofs.Splits.{all_right}
use Rattle.cf_subs.specs.declared.blocks.At.{At}
use Rattle.cf_subs.specs.declared.linked_row.LinkedRow.{LinkedRow}
use Rattle.cf_subs.specs.Held.{Held, held, places, found}
use Rattle.cf_subs.specs.Threads.{AreThreaded, at, leads_to, nowhere, first_of}
use Rattle.cf_subs.specs.RowBlocks.{StandsIn, of_number, onward}
use Rattle.cf_subs.proofs.Places.{cut_at}
use Rattle.cf_subs.proofs.Threads.{first_past, th_right, apart_right, left_fresh, some_eq, same_refl, same_number}

abbrev H : Type 0
H = Held LinkedRow

abbrev Past : Option At → List H → Type 0
Past o = AllByRecursion (λ (h : H). leads_to o h.at ≡ false)

onward_past : (o : Option At) (xs ys : List H) → Past o xs → onward (xs ++ ys) o ≡ onward ys o
onward_past o [] ys d = refl
onward_past o (x ∷ xs) ys d = ap (λ y. cond y (x ∷ xs ++ ys) (onward (xs ++ ys) o)) d.0 ∙ onward_past o xs ys d.1

pub onward_none : (hs : List H) → onward hs None ≡ []
onward_none [] = refl
onward_none (h ∷ hs) = onward_none hs

found_past : (h : H) (hs us : List H) → IsFresh h.at (places us)
    → AllByRecursion (λ (u : H). found hs u.at ≡ Some u.value) us
    → AllByRecursion (λ (u : H). found (h ∷ hs) u.at ≡ Some u.value) us
found_past h hs [] d e = tt
found_past h hs (u ∷ us) d e = (ap (λ y. cond y (Some h.value) (found hs u.at)) d.0 ∙ e.0, found_past h hs us d.1 e.1)

-- each block is found at its place
pub found_here : (hs : List H) → IsApart (places hs) → AllByRecursion (λ (u : H). found hs u.at ≡ Some u.value) hs
unfolding IsDistinct
found_here [] d = tt
found_here (h ∷ hs) d =
    (ap (λ y. cond y (Some h.value) (found hs h.at)) (same_ptr_refl h.at), found_past h hs hs d.0 (found_here hs d.1))

module _ (key : LinkedRow → ℕ) where
  -- what is left from the first block of the number on
  onward_first : (k : ℕ) (hs : List H) → IsApart (places hs)
      → of_number key k (onward hs (first_of key k hs)) ≡ of_number key k hs
  unfolding IsDistinct
  onward_first k [] d = refl
  onward_first k (h ∷ hs) d =
      (elim (key h.value == k) as (λ y. (key h.value == k) ≡ y
      → of_number key k (onward (h ∷ hs) (cond y (Some (at h.at)) (first_of key k hs))) ≡ of_number key k (h ∷ hs)) [
        | true ↦ λ _. ap (λ y. of_number key k (cond y (h ∷ hs) (onward hs (Some (at h.at))))) (same_ptr_refl h.at)
        | false ↦ λ other. let B = first_of key k hs in
            ap (λ y. of_number key k (cond y (h ∷ hs) (onward hs B))) (first_past key k h.at hs d.0)
            ∙ onward_first k hs d.1
            ∙ sym (ap (λ y. cond y (h ∷ of_number key k hs) (of_number key k hs)) other)
      ]) refl

  first_stands : (k : ℕ) (ws hs : List H) → AllByRecursion (λ (u : H). found ws u.at ≡ Some u.value) hs
      → StandsIn key ws k (first_of key k hs)
  first_stands k ws [] e = tt
  first_stands k ws (h ∷ hs) e =
      (elim (key h.value == k) as (λ y. (key h.value == k) ≡ y
      → StandsIn key ws k (cond y (Some (at h.at)) (first_of key k hs))) [
        | true ↦ λ is. (h.value, e.0, same_number (key h.value) k is)
        | false ↦ λ _. first_stands k ws hs e.1
      ]) refl

  -- a pointer to a number's first block has all of its list left
  pub stands_first : (k : ℕ) (hs : List H) (o : Option At) → IsApart (places hs) → o ≡ first_of key k hs
      → StandsIn key hs k o
  stands_first k hs o d e = subst (StandsIn key hs k) (sym e) (first_stands k hs hs (found_here hs d))

  pub walk_starts : (k : ℕ) (hs : List H) (o : Option At) → IsApart (places hs) → o ≡ first_of key k hs
      → of_number key k (onward hs o) ≡ of_number key k hs
  walk_starts k hs o d e = ap (λ p. of_number key k (onward hs p)) e ∙ onward_first k hs d

  pub walk_ends : (k : ℕ) (hs : List H) (o : Option At) → o ≡ None → of_number key k (onward hs o) ≡ []
  walk_ends k hs o e = ap (λ p. of_number key k (onward hs p)) e ∙ ap (of_number key k) (onward_none hs)

  module _ (before after : LinkedRow → Option At) where
    -- the block to which a walk's pointer leads is the first that is left, and its own pointer leads to the rest
    pub record Step (hs : List H) (k : ℕ) (a : At) (s : LinkedRow) : Type 0 where
      pub left : of_number key k (onward hs (Some a)) ≡ held a.ptr s ∷ of_number key k (onward hs (after s))
      pub stands : StandsIn key hs k (after s)

    module _ (k : ℕ) (xs : List H) (n : H) (ys : List H) (linked : AreThreaded key before after nowhere (xs ++ n ∷ ys))
        (d : IsApart (places (xs ++ n ∷ ys))) (in_it : key n.value ≡ k) where
      abbrev ws : List H
      ws = xs ++ n ∷ ys

      next_is : after n.value ≡ first_of key k ys
      next_is = (th_right key before after nowhere xs (n ∷ ys) linked).1 ∙ ap (λ c. first_of key c ys) in_it

      tail : IsApart (places (n ∷ ys))
      tail = apart_right xs (n ∷ ys) d

      past_here : (us : List H) → AllByRecursion (λ (x : H). IsFresh x.at (places (n ∷ ys))) us
          → Past (Some (at n.at)) us
      past_here [] e = tt
      past_here (u ∷ us) e = (e.0.0, past_here us e.1)

      past_next : (us : List H) → AllByRecursion (λ (x : H). IsFresh x.at (places (n ∷ ys))) us
          → Past (first_of key k ys) us
      past_next [] e = tt
      past_next (u ∷ us) e = (first_past key k u.at ys e.0.1, past_next us e.1)

      pub from_here : onward ws (Some (at n.at)) ≡ n ∷ ys
      from_here = onward_past (Some (at n.at)) xs (n ∷ ys) (past_here xs (left_fresh xs (n ∷ ys) d))
          ∙ ap (λ y. cond y (n ∷ ys) (onward ys (Some (at n.at)))) (same_ptr_refl n.at)

      from_next : onward ws (first_of key k ys) ≡ onward ys (first_of key k ys)
      unfolding IsDistinct
      from_next = onward_past (first_of key k ys) xs (n ∷ ys) (past_next xs (left_fresh xs (n ∷ ys) d))
          ∙ ap (λ y. cond y (n ∷ ys) (onward ys (first_of key k ys))) (first_past key k n.at ys tail.0)

      tested : (key n.value == k) ≡ true
      tested = ap (λ c. c == k) in_it ∙ same_refl k

      step : Step ws k (at n.at) n.value
      unfolding IsDistinct
      step = record {
        left = ap (of_number key k) from_here ∙ ap (λ y. cond y (n ∷ of_number key k ys) (of_number key k ys)) tested
            ∙ ap (λ l. n ∷ l) (sym (ap (λ o. of_number key k (onward ws o)) next_is ∙ ap (of_number key k) from_next
            ∙ onward_first k ys tail.1));
        stands = subst (StandsIn key ws k) (sym next_is)
            (first_stands k ws ys (all_right (λ (u : H). found ws u.at ≡ Some u.value) (xs ++ n ∷ []) ys
            (subst (AllByRecursion (λ (u : H). found ws u.at ≡ Some u.value)) (sym (append_assoc xs (n ∷ []) ys))
            (found_here ws d))));
      }

    pub walk_step : (hs : List H) (k : ℕ) (a : At) (s : LinkedRow) → AreThreaded key before after nowhere hs
        → StandsIn key hs k (Some a) → IsApart (places hs) → Some s ≡ found hs a.ptr → Step hs k a s
    walk_step hs k a s linked stands d e =
        let cut = cut_at hs a.ptr (subst (λ o. IsSome o) e refl) in let n = cut.here in
        let same : s ≡ n.value = some_eq s n.value (e ∙ cut.value) in
        let mine : key n.value ≡ k = ap key (sym same ∙ some_eq s stands.0 (e ∙ stands.1)) ∙ stands.2 in
        subst (λ (z : List H × Ptr × LinkedRow). Step z.0 k (at z.1) z.2)
        (λ i. (sym cut.cut i, cut.place i, sym same i))
        (step k cut.before n cut.after (subst (AreThreaded key before after nowhere) cut.cut linked)
        (subst (λ l. IsApart (places l)) cut.cut d) mine)
