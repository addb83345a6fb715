-- A block is linked in behind all others, or unlinked, and the lists stay what the keys say.
use Rattle.std.proofs.Common.{◌≡◌, ℕ, ◌==◌, Bool, true, false, cond, List, [], ◌∷◌, ◌++◌, Option, Some, None, refl, sym}
use Rattle.std.proofs.Common.{ap, ◌∙◌, subst, append-nil, eqb→eq, T}
use lib.Dec.{eqb_refl}
use Rattle.std.specs.List.{AllByRecursion, IsDistinct}
use denote.RawPtr.{Ptr}
use Rattle.lru.specs.Linked.{same_ptr, IsApart}
use Rattle.lru.proofs.Apart.{IsFresh, same_ptr_refl, same_ptr_symm, same_ptr_eq}
use Rattle.cf_subs.specs.declared.blocks.At.{At}
use Rattle.std.specs.Prelude.{IsSome}
use Rattle.cf_subs.specs.Held.{Held, held, places, found, put_at}
use Rattle.cf_subs.specs.Threads.{at, leads_to, nowhere, IsHeld, changed, first_of, latest, last_of, AreThreaded}

pub same_number : (m k : ℕ) → (m == k) ≡ true → m ≡ k
same_number m k e = eqb→eq m k (subst T (sym e) tt)

pub same_refl : (k : ℕ) → (k == k) ≡ true
same_refl k = true_of (k == k) (eqb_refl k)
  where
    true_of : (b : Bool) → T b → b ≡ true
    true_of true t = refl
    true_of false t = absurd t

other_way : (m k : ℕ) → (m == k) ≡ false → (k == m) ≡ false
other_way m k e = (elim (k == m) as (λ y. (k == m) ≡ y → y ≡ false) [
  | true ↦ λ is. sym (subst (λ n. (n == k) ≡ true) (same_number k m is) (same_refl k)) ∙ e
  | false ↦ λ _. refl
]) refl

module _ {X : Type 0} (key : X → ℕ) where
  abbrev O : Type 0
  O = Option At

  abbrev H : Type 0
  H = Held X

  -- p isn't where o leads
  abbrev Past : O → Ptr → Type 0
  Past o p = leads_to o p ≡ false

  -- f leads to none of the blocks
  abbrev pub AllPast : O → List H → Type 0
  AllPast o = AllByRecursion (λ h. Past o h.at)

  latest_at : (f : ℕ → O) (h : H) (k : ℕ) → (key h.value == k) ≡ true → latest key f h k ≡ Some (at h.at)
  latest_at f h k e = ap (λ y. cond y (Some (at h.at)) (f k)) e

  latest_else : (f : ℕ → O) (h : H) (k : ℕ) → (key h.value == k) ≡ false → latest key f h k ≡ f k
  latest_else f h k e = ap (λ y. cond y (Some (at h.at)) (f k)) e

  pub last_past : (k : ℕ) (f : ℕ → O) (p : Ptr) (hs : List H) → IsFresh p (places hs) → Past (f k) p
      → Past (last_of key f hs k) p
  last_past k f p [] d e = e
  last_past k f p (h ∷ hs) d e =
      last_past k (latest key f h) p hs d.1 ((elim (key h.value == k) as (λ y. Past (cond y (Some (at h.at)) (f k)) p)
      [ true ↦ d.0 | false ↦ e ]))

  last_none : (k : ℕ) (f : ℕ → O) (hs : List H) → first_of key k hs ≡ None → last_of key f hs k ≡ f k
  last_none k f [] e = refl
  last_none k f (h ∷ hs) e =
      (elim (key h.value == k) as (λ y. (key h.value == k) ≡ y → cond y (Some (at h.at)) (first_of key k hs) ≡ None
      → last_of key (latest key f h) hs k ≡ f k) [
        | true ↦ λ _ bad. cc
        | false ↦ λ is e'. last_none k (latest key f h) hs e' ∙ latest_else f h k is
      ]) refl e

  last_some : (k : ℕ) (f : ℕ → O) (p : Ptr) (a : At) (hs : List H) → first_of key k hs ≡ Some a → IsFresh p (places hs)
      → Past (last_of key f hs k) p
  last_some k f p a [] e d = cc
  last_some k f p a (h ∷ hs) e d =
      (elim (key h.value == k) as (λ y. (key h.value == k) ≡ y → cond y (Some (at h.at)) (first_of key k hs) ≡ Some a
      → Past (last_of key (latest key f h) hs k) p) [
        | true ↦ λ is _. last_past k (latest key f h) p hs d.1 (ap (λ o. leads_to o p) (latest_at f h k is) ∙ d.0)
        | false ↦ λ is e'. last_some k (latest key f h) p a hs e' d.1
      ]) refl e

  pub first_past : (k : ℕ) (p : Ptr) (hs : List H) → IsFresh p (places hs) → Past (first_of key k hs) p
  first_past k p [] d = refl
  first_past k p (h ∷ hs) d =
      (elim (key h.value == k) as (λ y. Past (cond y (Some (at h.at)) (first_of key k hs)) p)
      [ true ↦ d.0 | false ↦ first_past k p hs d.1 ])

  pub first_none : (k : ℕ) (hs r : List H) → first_of key k hs ≡ None → first_of key k (hs ++ r) ≡ first_of key k r
  first_none k [] r e = refl
  first_none k (h ∷ hs) r e =
      (elim (key h.value == k) as (λ y. cond y (Some (at h.at)) (first_of key k hs) ≡ None
      → cond y (Some (at h.at)) (first_of key k (hs ++ r)) ≡ first_of key k r) [
        | true ↦ λ bad. cc
        | false ↦ λ e'. first_none k hs r e'
      ]) e

  first_some : (k : ℕ) (a : At) (hs r : List H) → first_of key k hs ≡ Some a → first_of key k (hs ++ r) ≡ Some a
  first_some k a [] r e = cc
  first_some k a (h ∷ hs) r e =
      (elim (key h.value == k) as (λ y. cond y (Some (at h.at)) (first_of key k hs) ≡ Some a
      → cond y (Some (at h.at)) (first_of key k (hs ++ r)) ≡ Some a) [
        | true ↦ λ e'. e'
        | false ↦ λ e'. first_some k a hs r e'
      ]) e

  first_same : (k : ℕ) (hs r s : List H) → first_of key k r ≡ first_of key k s
      → first_of key k (hs ++ r) ≡ first_of key k (hs ++ s)
  first_same k [] r s e = e
  first_same k (h ∷ hs) r s e = ap (λ o. cond (key h.value == k) (Some (at h.at)) o) (first_same k hs r s e)

  latest_out : (k : ℕ) (f : ℕ → O) (h : H) (us : List H) → AllPast (f k) us → IsFresh h.at (places us)
      → AllPast (latest key f h k) us
  latest_out k f h [] o g = tt
  latest_out k f h (u ∷ us) o g = (
    (elim (key h.value == k) as (λ y. Past (cond y (Some (at h.at)) (f k)) u.at)
        [ true ↦ same_ptr_symm u.at h.at ∙ g.0 | false ↦ o.0 ]),
    latest_out k f h us o.1 g.1,
  )

  module _ (change : X → X) (keeps : (x : X) → key (change x) ≡ key x) where
    pub key_changed : (y : Bool) (x : X) → key (cond y (change x) x) ≡ key x
    key_changed true x = keeps x
    key_changed false x = refl

    pub first_changed : (k : ℕ) (o : O) (hs : List H) → first_of key k (changed change o hs) ≡ first_of key k hs
    first_changed k o [] = refl
    first_changed k o (h ∷ hs) =
        λ i. cond (key_changed (leads_to o h.at) h.value i == k) (Some (at h.at)) (first_changed k o hs i)

    first_changed_append : (k : ℕ) (o : O) (hs r : List H)
        → first_of key k (changed change o hs ++ r) ≡ first_of key k (hs ++ r)
    first_changed_append k o [] r = refl
    first_changed_append k o (h ∷ hs) r =
        λ i. cond (key_changed (leads_to o h.at) h.value i == k) (Some (at h.at)) (first_changed_append k o hs r i)

  all_past : (p : Ptr) (hs : List H) → IsFresh p (places hs) → AllPast (Some (at p)) hs
  all_past p [] d = tt
  all_past p (h ∷ hs) d = (same_ptr_symm h.at p ∙ d.0, all_past p hs d.1)

  changed_past : (change : X → X) (o : O) (hs : List H) → AllPast o hs → changed change o hs ≡ hs
  changed_past change o [] d = refl
  changed_past change o (h ∷ hs) d =
      λ i. held h.at (cond (d.0 i) (change h.value) h.value) ∷ changed_past change o hs d.1 i

  module _ (before after : X → O) where
    abbrev Th : (ℕ → O) → List H → Type 0
    Th = AreThreaded key before after

    th_same : (f g : ℕ → O) → ((k : ℕ) → f k ≡ g k) → (hs : List H) → Th f hs → Th g hs
    th_same f g e [] t = tt
    th_same f g e (h ∷ hs) t = (
      t.0 ∙ e (key h.value),
      t.1,
      th_same (latest key f h) (latest key g h)
          (λ k. ap (λ o. cond (key h.value == k) (Some (at h.at)) o) (e k)) hs t.2,
    )

    pub th_right : (f : ℕ → O) (hs r : List H) → Th f (hs ++ r) → Th (last_of key f hs) r
    th_right f [] r t = t
    th_right f (h ∷ hs) r t = th_right (latest key f h) hs r t.2

    -- what comes after the blocks hs is r in the place of s: the last of the number k leads to a
    module _ (change : X → X) (a : O) (keeps : (x : X) → key (change x) ≡ key x)
        (still : (x : X) → before (change x) ≡ before x) (sets : (x : X) → after (change x) ≡ a) (k : ℕ) (r s : List H)
        (is_first : a ≡ first_of key k r) (others : (c : ℕ) → (c == k) ≡ false
        → first_of key c s ≡ first_of key c r) where
      before_changed : (y : Bool) (x : X) → before (cond y (change x) x) ≡ before x
      before_changed true x = still x
      before_changed false x = refl

      head_after : (f : ℕ → O) (h : H) (hs : List H) → Past (f k) h.at → IsFresh h.at (places hs)
          → after h.value ≡ first_of key (key h.value) (hs ++ s)
          → after (cond (leads_to (last_of key (latest key f h) hs k) h.at) (change h.value) h.value)
          ≡ first_of key (key h.value) (hs ++ r)
      head_after f h hs out fresh is =
          let B : O = last_of key (latest key f h) hs k in
          (elim (key h.value == k) as (λ y. (key h.value == k) ≡ y
          → after (cond (leads_to B h.at) (change h.value) h.value) ≡ first_of key (key h.value) (hs ++ r)) [
            | true ↦ λ e. let m = same_number (key h.value) k e in
                (elim (first_of key k hs) as (λ o. first_of key k hs ≡ o
                → after (cond (leads_to B h.at) (change h.value) h.value) ≡ first_of key (key h.value) (hs ++ r)) [
                  | None ↦ λ none. let at_h : B ≡ Some (at h.at) =
                      last_none k (latest key f h) hs none ∙ latest_at f h k e in
                      ap (λ y. after (cond y (change h.value) h.value))
                      (ap (λ o. leads_to o h.at) at_h ∙ same_ptr_refl h.at) ∙ sets h.value ∙ is_first
                      ∙ sym (first_none k hs r none) ∙ ap (λ c. first_of key c (hs ++ r)) (sym m)
                  | Some q ↦ λ some. ap (λ y. after (cond y (change h.value) h.value))
                      (last_some k (latest key f h) h.at q hs some fresh) ∙ is ∙ ap (λ c. first_of key c (hs ++ s)) m
                      ∙ first_some k q hs s some ∙ sym (first_some k q hs r some)
                      ∙ ap (λ c. first_of key c (hs ++ r)) (sym m)
                ]) refl
            | false ↦ λ e. ap (λ y. after (cond y (change h.value) h.value))
                (last_past k (latest key f h) h.at hs fresh (ap (λ o. leads_to o h.at) (latest_else f h k e) ∙ out))
                ∙ is
                ∙ first_same (key h.value) hs s r (others (key h.value) e)
          ]) refl

      pub th_left : (f : ℕ → O) (hs : List H) → AllPast (f k) hs → IsApart (places hs) → Th f (hs ++ s)
          → Th (last_of key f hs) r → Th f (changed change (last_of key f hs k) hs ++ r)
      unfolding IsDistinct
      th_left f [] out d t u = u
      th_left f (h ∷ hs) out d t u =
          let B : O = last_of key (latest key f h) hs k in let y : Bool = leads_to B h.at in let h' : H =
          held h.at (cond y (change h.value) h.value) in
          let same : key h'.value ≡ key h.value = key_changed change keeps y h.value in (
            before_changed y h.value ∙ t.0 ∙ ap f (sym same),
            head_after f h hs out.0 d.0 t.1 ∙ ap (λ c. first_of key c (hs ++ r)) (sym same)
                ∙ sym (first_changed_append change keeps (key h'.value) B hs r),
            th_same (latest key f h) (latest key f h') (λ c. ap (λ m. cond (m == c) (Some (at h.at)) (f c)) (sym same))
                (changed change B hs ++ r) (th_left (latest key f h) hs (latest_out k f h hs out.1 d.0) d.1 t.2 u),
          )

    -- the first block of the number k, of which another one lay before, leads to b
    module _ (change : X → X) (b : O) (keeps : (x : X) → key (change x) ≡ key x)
        (still : (x : X) → after (change x) ≡ after x) (sets : (x : X) → before (change x) ≡ b) (k : ℕ) where
      pub th_first : (f g : ℕ → O) (hs : List H) → b ≡ f k → ((c : ℕ) → (k == c) ≡ false → g c ≡ f c)
          → IsApart (places hs) → Th g hs → Th f (changed change (first_of key k hs) hs)
      unfolding IsDistinct
      th_first f g [] is e d t = tt
      th_first f g (h ∷ hs) is e d t =
          (elim (key h.value == k) as (λ y. (key h.value == k) ≡ y
          → Th f (changed change (cond y (Some (at h.at)) (first_of key k hs)) (h ∷ hs))) [
            | true ↦ λ here. let m = same_number (key h.value) k here in let B : O = Some (at h.at) in
                let turned : leads_to B h.at ≡ true = same_ptr_refl h.at in let h' : H =
                held h.at (cond (leads_to B h.at) (change h.value) h.value) in
                let same : key h'.value ≡ key h.value = key_changed change keeps (leads_to B h.at) h.value in
                let rest : changed change B hs ≡ hs = changed_past change B hs (all_past h.at hs d.0) in (
                  ap (λ y. before (cond y (change h.value) h.value)) turned ∙ sets h.value ∙ is
                      ∙ ap f (sym m ∙ sym same),
                  ap (λ y. after (cond y (change h.value) h.value)) turned ∙ still h.value ∙ t.1
                      ∙ ap (λ c. first_of key c hs) (sym same) ∙ ap (λ l. first_of key (key h'.value) l) (sym rest),
                  subst (Th (latest key f h')) (sym rest) (th_same (latest key g h) (latest key f h')
                      (λ c. (elim (key h.value == c) as (λ y. (key h.value == c) ≡ y
                      → cond y (Some (at h.at)) (g c) ≡ cond y (Some (at h.at)) (f c)) [
                        | true ↦ λ _. refl
                        | false ↦ λ not_c. e c (subst (λ j. (j == c) ≡ false) m not_c)
                      ]) refl ∙ ap (λ j. cond (j == c) (Some (at h.at)) (f c)) (sym same)) hs t.2),
                )
            | false ↦ λ other. let B : O = first_of key k hs in let stays : leads_to B h.at ≡ false =
                first_past k h.at hs d.0 in
                let h' : H = held h.at (cond (leads_to B h.at) (change h.value) h.value) in let same : h' ≡ h =
                ap (λ y. held h.at (cond y (change h.value) h.value)) stays in
                subst (λ u. Th f (u ∷ changed change B hs)) (sym same) (
                  t.0 ∙ e (key h.value) (other_way (key h.value) k other),
                  t.1 ∙ sym (first_changed change keeps (key h.value) B hs),
                  th_first (latest key f h) (latest key g h) hs (is ∙ sym (latest_else f h k other))
                      (λ c not_c. ap (λ o. cond (key h.value == c) (Some (at h.at)) o) (e c not_c)) d.1 t.2,
                )
          ]) refl

module _ {X : Type 0} where
  -- what a change of one block leaves as it was
  pub changed_append : (change : X → X) (o : Option At) (xs ys : List (Held X))
      → changed change o (xs ++ ys) ≡ changed change o xs ++ changed change o ys
  changed_append change o [] ys = refl
  changed_append change o (x ∷ xs) ys =
      ap (λ l. held x.at (cond (leads_to o x.at) (change x.value) x.value) ∷ l) (changed_append change o xs ys)

  pub places_changed : (change : X → X) (o : Option At) (hs : List (Held X)) → places (changed change o hs) ≡ places hs
  places_changed change o [] = refl
  places_changed change o (h ∷ hs) = ap (λ l. h.at ∷ l) (places_changed change o hs)

  pub changed_none : (change : X → X) (hs : List (Held X)) → changed change None hs ≡ hs
  changed_none change [] = refl
  changed_none change (h ∷ hs) = ap (λ l. h ∷ l) (changed_none change hs)

  -- a change of a block that lies elsewhere leaves a block between others
  pub changed_around : (change : X → X) (o : Option At) (xs : List (Held X)) (n : Held X) (ys : List (Held X))
      → leads_to o n.at ≡ false → changed change o (xs ++ n ∷ ys) ≡ changed change o xs ++ n ∷ changed change o ys
  changed_around change o xs n ys e =
      changed_append change o xs (n ∷ ys) ∙ ap (λ y. changed change o xs ++ held n.at (cond y (change n.value) n.value)
      ∷ changed change o ys) e

  fresh_right : (p : Ptr) (xs r : List (Held X)) → IsFresh p (places (xs ++ r)) → IsFresh p (places r)
  fresh_right p [] r d = d
  fresh_right p (x ∷ xs) r d = fresh_right p xs r d.1

  fresh_left : (p : Ptr) (xs r : List (Held X)) → IsFresh p (places (xs ++ r)) → IsFresh p (places xs)
  fresh_left p [] r d = tt
  fresh_left p (x ∷ xs) r d = (d.0, fresh_left p xs r d.1)

  pub apart_right : (xs r : List (Held X)) → IsApart (places (xs ++ r)) → IsApart (places r)
  unfolding IsDistinct
  apart_right [] r d = d
  apart_right (x ∷ xs) r d = apart_right xs r d.1

  pub apart_left : (xs r : List (Held X)) → IsApart (places (xs ++ r)) → IsApart (places xs)
  unfolding IsDistinct
  apart_left [] r d = tt
  apart_left (x ∷ xs) r d = (fresh_left x.at xs r d.0, apart_left xs r d.1)

  pub left_fresh : (xs r : List (Held X)) → IsApart (places (xs ++ r))
      → AllByRecursion (λ (x : Held X). IsFresh x.at (places r)) xs
  unfolding IsDistinct
  left_fresh [] r d = tt
  left_fresh (x ∷ xs) r d = (fresh_right x.at xs r d.0, left_fresh xs r d.1)

  none_fresh : (r : List (Held X)) → AllByRecursion (λ (q : Held X). IsFresh q.at []) r
  none_fresh [] = tt
  none_fresh (q ∷ r) = (tt, none_fresh r)

  one_more : (p : Ptr) (xs r : List (Held X)) → IsFresh p (places r)
      → AllByRecursion (λ (q : Held X). IsFresh q.at (places xs)) r
      → AllByRecursion (λ (q : Held X). IsFresh q.at (p ∷ places xs)) r
  one_more p xs [] d e = tt
  one_more p xs (q ∷ r) d e = ((same_ptr_symm q.at p ∙ d.0, e.0), one_more p xs r d.1 e.1)

  pub right_fresh : (xs r : List (Held X)) → IsApart (places (xs ++ r))
      → AllByRecursion (λ (q : Held X). IsFresh q.at (places xs)) r
  unfolding IsDistinct
  right_fresh [] r d = none_fresh r
  right_fresh (x ∷ xs) r d = one_more x.at xs r (fresh_right x.at xs r d.0) (right_fresh xs r d.1)

  -- a write over a block is a change of it
  put_past : (p : Ptr) (v : X) (hs : List (Held X)) → IsFresh p (places hs) → put_at hs p v ≡ hs
  put_past p v [] d = refl
  put_past p v (h ∷ hs) d = λ i. held h.at (cond ((same_ptr_symm h.at p ∙ d.0) i) v h.value) ∷ put_past p v hs d.1 i

  pub some_eq : (x y : X) → Some x ≡ Some y → x ≡ y
  some_eq x y e = cc

  pub put_changed : (change : X → X) (a : At) (v : X) (hs : List (Held X)) → Some v ≡ found hs a.ptr
      → IsApart (places hs) → put_at hs a.ptr (change v) ≡ changed change (Some a) hs
  unfolding IsDistinct
  put_changed change a v [] e d = refl
  put_changed change a v (h ∷ hs) e d =
      (elim (same_ptr h.at a.ptr) as (λ y. same_ptr h.at a.ptr ≡ y → Some v ≡ cond y (Some h.value) (found hs a.ptr)
      → held h.at (cond y (change v) h.value) ∷ put_at hs a.ptr (change v) ≡ held h.at (cond y (change h.value) h.value)
      ∷ changed change (Some a) hs) [
        | true ↦ λ is e'. let there = same_ptr_eq h.at a.ptr is in
            let gone : IsFresh a.ptr (places hs) = subst (λ p. IsFresh p (places hs)) there d.0 in
            (λ i. held h.at (change (some_eq v h.value e' i)) ∷ put_past a.ptr (change v) hs gone i)
            ∙ (λ i. held h.at (change h.value) ∷ sym (changed_past (λ _. 0) change (Some a) hs
            (all_past (λ _. 0) a.ptr hs gone)) i)
        | false ↦ λ is e'. ap (λ l. held h.at h.value ∷ l) (put_changed change a v hs e' d.1)
      ]) refl e

  -- where blocks are found
  found_self : (h : Held X) (hs : List (Held X)) → IsSome (found (h ∷ hs) h.at)
  found_self h hs = subst (λ y. IsSome (cond y (Some h.value) (found hs h.at))) (sym (same_ptr_refl h.at)) refl

  found_more : (h : Held X) (p : Ptr) (hs : List (Held X)) → IsSome (found hs p) → IsSome (found (h ∷ hs) p)
  found_more h p hs e =
      (elim (same_ptr h.at p) as (λ y. IsSome (cond y (Some h.value) (found hs p))) [ true ↦ refl | false ↦ e ])

  all_more : (h : Held X) (hs us : List (Held X)) → AllByRecursion (λ (u : Held X). IsSome (found hs u.at)) us
      → AllByRecursion (λ (u : Held X). IsSome (found (h ∷ hs) u.at)) us
  all_more h hs [] e = tt
  all_more h hs (u ∷ us) e = (found_more h u.at hs e.0, all_more h hs us e.1)

  pub found_left : (xs r : List (Held X)) → AllByRecursion (λ (u : Held X). IsSome (found (xs ++ r) u.at)) xs
  found_left [] r = tt
  found_left (x ∷ xs) r = (found_self x (xs ++ r), all_more x (xs ++ r) xs (found_left xs r))

  found_all : (hs : List (Held X)) → AllByRecursion (λ (u : Held X). IsSome (found hs u.at)) hs
  found_all [] = tt
  found_all (h ∷ hs) = (found_self h hs, all_more h hs hs (found_all hs))

  pub found_right : (xs r : List (Held X)) → AllByRecursion (λ (u : Held X). IsSome (found (xs ++ r) u.at)) r
  found_right [] r = found_all r
  found_right (x ∷ xs) r = all_more x (xs ++ r) r (found_right xs r)

  found_changed : (change : X → X) (o : Option At) (p : Ptr) (hs : List (Held X)) → IsSome (found hs p)
      → IsSome (found (changed change o hs) p)
  found_changed change o p [] e = cc
  found_changed change o p (h ∷ hs) e =
      (elim (same_ptr h.at p) as (λ y. IsSome (cond y (Some h.value) (found hs p))
      → IsSome (cond y (Some (cond (leads_to o h.at) (change h.value) h.value)) (found (changed change o hs) p))) [
        | true ↦ λ _. refl
        | false ↦ λ e'. found_changed change o p hs e'
      ]) e

  pub held_changed : (change : X → X) (o : Option At) (hs : List (Held X)) (b : Option At) → IsHeld hs b
      → IsHeld (changed change o hs) b
  held_changed change o hs None e = tt
  held_changed change o hs (Some a) e = found_changed change o a.ptr hs e

  module _ (key : X → ℕ) (k : ℕ) (ws : List (Held X)) where
    pub last_held : (f : ℕ → Option At) (hs : List (Held X)) → IsHeld ws (f k)
        → AllByRecursion (λ (u : Held X). IsSome (found ws u.at)) hs → IsHeld ws (last_of key f hs k)
    last_held f [] e d = e
    last_held f (h ∷ hs) e d =
        last_held (latest key f h) hs ((elim (key h.value == k) as (λ y. IsHeld ws (cond y (Some (at h.at)) (f k)))
        [ true ↦ d.0 | false ↦ e ])) d.1

    pub first_held : (hs : List (Held X)) → AllByRecursion (λ (u : Held X). IsSome (found ws u.at)) hs
        → IsHeld ws (first_of key k hs)
    first_held [] d = tt
    first_held (h ∷ hs) d =
        (elim (key h.value == k) as (λ y. IsHeld ws (cond y (Some (at h.at)) (first_of key k hs)))
        [ true ↦ d.0 | false ↦ first_held hs d.1 ])

  module _ (key : X → ℕ) (before after : X → Option At) where
    -- a change that leaves this list's links leaves its threads
    pub th_kept : (change : X → X) (o : Option At) → ((x : X) → key (change x) ≡ key x)
        → ((x : X) → before (change x) ≡ before x) → ((x : X) → after (change x) ≡ after x)
        → (f : ℕ → Option At) (hs : List (Held X)) → AreThreaded key before after f hs
        → AreThreaded key before after f (changed change o hs)
    th_kept change o K B A f [] t = tt
    th_kept change o K B A f (h ∷ hs) t =
        let y : Bool = leads_to o h.at in let h' : Held X = held h.at (cond y (change h.value) h.value) in
        let same : key h'.value ≡ key h.value = key_changed key change K y h.value in (
          either before B y h.value ∙ t.0 ∙ ap f (sym same),
          either after A y h.value ∙ t.1 ∙ ap (λ c. first_of key c hs) (sym same)
              ∙ sym (first_changed key change K (key h'.value) o hs),
          th_kept change o K B A (latest key f h') hs (th_same key before after (latest key f h) (latest key f h')
              (λ c. ap (λ m. cond (m == c) (Some (at h.at)) (f c)) (sym same)) hs t.2),
        )
      where
        either : (g : X → Option At) → ((x : X) → g (change x) ≡ g x) → (y : Bool) (x : X)
            → g (cond y (change x) x) ≡ g x
        either g G true x = G x
        either g G false x = refl

    module _ (ca cb : X → X) (n : Held X)
        (ka : (x : X) → key (ca x) ≡ key x) (ba : (x : X) → before (ca x) ≡ before x)
        (kb : (x : X) → key (cb x) ≡ key x) (ab : (x : X) → after (cb x) ≡ after x)
        (sb : (x : X) → before (cb x) ≡ before n.value) where
      past_right : (k : ℕ) (xs r : List (Held X)) → AllByRecursion (λ (q : Held X). IsFresh q.at (places xs)) r
          → AllPast key (last_of key nowhere xs k) r
      past_right k xs [] d = tt
      past_right k xs (q ∷ r) d = (last_past key k nowhere q.at xs d.0 refl, past_right k xs r d.1)

      past_left : (k : ℕ) (xs r : List (Held X)) → AllByRecursion (λ (x : Held X). IsFresh x.at (places r)) xs
          → AllPast key (first_of key k r) xs
      past_left k [] r d = tt
      past_left k (x ∷ xs) r d = (first_past key k x.at r d.0, past_left k xs r d.1)

      past_nowhere : (xs : List (Held X)) → AllPast key None xs
      past_nowhere [] = tt
      past_nowhere (x ∷ xs) = (refl, past_nowhere xs)

      past_changed : (o b : Option At) (xs : List (Held X)) → AllPast key o xs → AllPast key o (changed ca b xs)
      past_changed o b [] d = tt
      past_changed o b (x ∷ xs) d = (d.0, past_changed o b xs d.1)

      pub linked_in : ((x : X) → after (ca x) ≡ Some (at n.at)) → (hs : List (Held X))
          → AreThreaded key before after nowhere hs → IsApart (places (hs ++ n ∷ []))
          → before n.value ≡ last_of key nowhere hs (key n.value) → after n.value ≡ None
          → AreThreaded key before after nowhere (changed ca (before n.value) (hs ++ n ∷ []))
      linked_in sa hs t d last_is none =
          let k : ℕ = key n.value in let L : Option At = last_of key nowhere hs k in
          let joined =
          th_left key before after ca (Some (at n.at)) ka ba sa k (n ∷ []) []
          (sym (ap (λ y. cond y (Some (at n.at)) None) (same_refl k)))
          (λ c other. sym (ap (λ y. cond y (Some (at n.at)) None) (other_way c k other))) nowhere hs (past_nowhere hs)
          (apart_left hs (n ∷ []) d) (subst (AreThreaded key before after nowhere) (sym (append-nil hs)) t)
          (last_is, none, tt) in
          let stays : leads_to L n.at ≡ false = last_past key k nowhere n.at hs (right_fresh hs (n ∷ []) d).0 refl in
          subst (AreThreaded key before after nowhere) (sym
          (ap (λ o. changed ca o (hs ++ n ∷ [])) last_is ∙ changed_around ca L hs n [] stays)) joined

      pub unlinked : ((x : X) → after (ca x) ≡ after n.value) → (xs ys : List (Held X))
          → AreThreaded key before after nowhere (xs ++ n ∷ ys) → IsApart (places (xs ++ n ∷ ys))
          → AreThreaded key before after nowhere (changed cb (after n.value) (changed ca (before n.value) (xs ++ ys)))
      unfolding IsDistinct
      unlinked sa xs ys t d =
          let k : ℕ = key n.value in let f : ℕ → Option At = last_of key nowhere xs in let A : Option At =
          after n.value in let B : Option At = before n.value in
          let mid = th_right key before after nowhere xs (n ∷ ys) t in
          let both = apart_right xs (n ∷ ys) d in
          let rest : List (Held X) = changed cb (first_of key k ys) ys in
          let first_is : A ≡ first_of key k ys = mid.1 in let last_is : B ≡ last_of key nowhere xs k = mid.0 in
          let joined =
          th_left key before after ca A ka ba sa k rest (n ∷ ys)
          (first_is ∙ sym (first_changed key cb kb k (first_of key k ys) ys))
          (λ c other. latest_first c other ys ∙ sym (first_changed key cb kb c (first_of key k ys) ys)) nowhere xs
          (past_nowhere xs) (apart_left xs (n ∷ ys) d) t
          (th_first key before after cb B kb ab sb k f (latest key f n) ys last_is
          (λ c not_c. latest_else key f n c not_c) both.1 mid.2) in
          let ys_past = past_right k xs ys (right_fresh xs (n ∷ ys) d).1 in
          let xs_past = past_left k xs ys (left_of xs (left_fresh xs (n ∷ ys) d)) in
          let step1 : changed ca B (xs ++ ys) ≡ changed ca (last_of key nowhere xs k) xs ++ ys =
          ap (λ o. changed ca o (xs ++ ys)) last_is ∙ changed_append ca (last_of key nowhere xs k) xs ys
          ∙ ap (λ l. changed ca (last_of key nowhere xs k) xs ++ l)
          (changed_past key ca (last_of key nowhere xs k) ys ys_past) in
          let us : List (Held X) = changed ca (last_of key nowhere xs k) xs in
          let step2 : changed cb A (changed ca B (xs ++ ys)) ≡ us ++ rest =
          (λ i. changed cb (first_is i) (step1 i)) ∙ changed_append cb (first_of key k ys) us ys
          ∙ ap (λ l. l ++ rest) (changed_past key cb (first_of key k ys) us
          (past_changed (first_of key k ys) (last_of key nowhere xs k) xs xs_past)) in
          subst (AreThreaded key before after nowhere) (sym step2) joined
        where
          latest_first : (c : ℕ) → (c == key n.value) ≡ false → (ys : List (Held X))
              → first_of key c (n ∷ ys) ≡ first_of key c ys
          latest_first c other ys =
              ap (λ y. cond y (Some (at n.at)) (first_of key c ys)) (other_way c (key n.value) other)

          left_of : (us : List (Held X)) → AllByRecursion (λ (x : Held X). IsFresh x.at (places (n ∷ ys))) us
              → AllByRecursion (λ (x : Held X). IsFresh x.at (places ys)) us
          left_of [] e = tt
          left_of (u ∷ us) e = (e.0.1, left_of us e.1)

  module _ (key : X → ℕ) (change : X → X) (keeps : (x : X) → key (change x) ≡ key x) where
    pub last_changed : (k : ℕ) (o : Option At) (f g : ℕ → Option At) (hs : List (Held X)) → ((c : ℕ) → f c ≡ g c)
        → last_of key f (changed change o hs) k ≡ last_of key g hs k
    last_changed k o f g [] e = e k
    last_changed k o f g (h ∷ hs) e =
        let h' : Held X = held h.at (cond (leads_to o h.at) (change h.value) h.value) in
        last_changed k o (latest key f h') (latest key g h) hs
        (λ c i. cond (key_changed key change keeps (leads_to o h.at) h.value i == c) (Some (at h.at)) (e c i))
