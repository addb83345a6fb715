-- The held blocks, cut at the one that a pointer leads to.
use Rattle.std.proofs.Common.{◌≡◌, true, false, cond, List, [], ◌∷◌, ◌++◌, Some, None, refl, sym, ap, ◌∙◌, subst}
use Rattle.std.proofs.Common.{append-nil}
use Rattle.std.specs.Prelude.{IsSome}
use Rattle.std.specs.List.{AllByRecursion, IsDistinct}
use denote.RawPtr.{Ptr}
use Rattle.lru.specs.Linked.{same_ptr, IsApart}
use Rattle.lru.proofs.Apart.{IsFresh, same_ptr_eq, same_ptr_refl, same_ptr_symm}
use Rattle.lru.proofs.Splits.{distinct_without, distinct_differs, distinct_with, all_left, all_right}
use Rattle.cf_subs.specs.Held.{Held, held, places, found, put_at, without}

pub apart_none : IsApart []
unfolding IsDistinct
apart_none = tt

module _ {T : Type 0} where
  -- the block at p, with those before it and those after it
  pub record Cut (hs : List (Held T)) (p : Ptr) : Type 0 where
    pub before : List (Held T)
    pub here : Held T
    pub after : List (Held T)
    pub cut : hs ≡ before ++ here ∷ after
    pub place : here.at ≡ p
    pub value : found hs p ≡ Some here.value

  pub cut_at : (hs : List (Held T)) (p : Ptr) → IsSome (found hs p) → Cut hs p
  cut_at [] p is = cc
  cut_at (h ∷ hs) p is =
      (elim (same_ptr h.at p) as (λ y. same_ptr h.at p ≡ y → IsSome (cond y (Some h.value) (found hs p))
      → Cut (h ∷ hs) p) [
        | true ↦ λ e _. record {
          before = [];
          here = h;
          after = hs;
          cut = refl;
          place = same_ptr_eq h.at p e;
          value = ap (λ y. cond y (Some h.value) (found hs p)) e;
        }
        | false ↦ λ e is'. let on = cut_at hs p is' in record {
          before = h ∷ on.before;
          here = on.here;
          after = on.after;
          cut = ap (λ l. h ∷ l) on.cut;
          place = on.place;
          value = ap (λ y. cond y (Some h.value) (found hs p)) e ∙ on.value;
        }
      ]) refl is

  pub fresh_found : (p : Ptr) (hs : List (Held T)) → IsFresh p (places hs) → found hs p ≡ None
  fresh_found p [] f = refl
  fresh_found p (h ∷ hs) f =
      ap (λ y. cond y (Some h.value) (found hs p)) (same_ptr_symm h.at p ∙ f.0) ∙ fresh_found p hs f.1

  abbrev Elsewhere : Ptr → List (Held T) → Type 0
  Elsewhere p = AllByRecursion (λ h. same_ptr p h.at ≡ false)

  elsewhere : (p : Ptr) (hs : List (Held T)) → IsFresh p (places hs) → Elsewhere p hs
  elsewhere p [] f = tt
  elsewhere p (h ∷ hs) f = (f.0, elsewhere p hs f.1)

  put_elsewhere : (p : Ptr) (v : T) (hs : List (Held T)) → Elsewhere p hs → put_at hs p v ≡ hs
  put_elsewhere p v [] f = refl
  put_elsewhere p v (h ∷ hs) f =
      λ i. held h.at (cond ((same_ptr_symm h.at p ∙ f.0) i) v h.value) ∷ put_elsewhere p v hs f.1 i

  without_elsewhere : (p : Ptr) (hs : List (Held T)) → Elsewhere p hs → without hs p ≡ hs
  without_elsewhere p [] f = refl
  without_elsewhere p (h ∷ hs) f = rw (same_ptr_symm h.at p ∙ f.0) (ap (λ l. h ∷ l) (without_elsewhere p hs f.1))

  module _ (xs : List (Held T)) (n : Held T) (ys : List (Held T)) (d : IsApart (places (xs ++ n ∷ ys))) where
    others : Elsewhere n.at (xs ++ ys)
    others = distinct_differs (λ (k : Held T). k.at) same_ptr same_ptr_symm xs n ys d

    put_cut' : (us : List (Held T)) (v : T) → Elsewhere n.at us → put_at (us ++ n ∷ ys) n.at v ≡ us ++ held n.at v ∷ ys
    put_cut' [] v f =
        λ i. held n.at (cond (same_ptr_refl n.at i) v n.value)
        ∷ put_elsewhere n.at v ys (all_right (λ (h : Held T). same_ptr n.at h.at ≡ false) xs ys others) i
    put_cut' (u ∷ us) v f = λ i. held u.at (cond ((same_ptr_symm u.at n.at ∙ f.0) i) v u.value) ∷ put_cut' us v f.1 i

    pub put_cut : (v : T) → put_at (xs ++ n ∷ ys) n.at v ≡ xs ++ held n.at v ∷ ys
    put_cut v = put_cut' xs v (all_left (λ (h : Held T). same_ptr n.at h.at ≡ false) xs ys others)

    without_cut' : (us : List (Held T)) → Elsewhere n.at us → without (us ++ n ∷ ys) n.at ≡ us ++ ys
    without_cut' [] f =
        rw (same_ptr_refl n.at) (without_elsewhere n.at ys
        (all_right (λ (h : Held T). same_ptr n.at h.at ≡ false) xs ys others))
    without_cut' (u ∷ us) f = rw (same_ptr_symm u.at n.at ∙ f.0) (ap (λ l. u ∷ l) (without_cut' us f.1))

    pub without_cut : without (xs ++ n ∷ ys) n.at ≡ xs ++ ys
    without_cut = without_cut' xs (all_left (λ (h : Held T). same_ptr n.at h.at ≡ false) xs ys others)

    pub apart_without : IsApart (places (xs ++ ys))
    apart_without = distinct_without (λ (k : Held T). k.at) same_ptr xs n ys d

    places_put : (us : List (Held T)) (v : T) → places (us ++ held n.at v ∷ ys) ≡ places (us ++ n ∷ ys)
    places_put [] v = refl
    places_put (u ∷ us) v = ap (λ l. u.at ∷ l) (places_put us v)

    pub apart_put : (v : T) → IsApart (places (xs ++ held n.at v ∷ ys))
    apart_put v = subst IsApart (sym (places_put xs v)) d

  pub apart_held : (p : Ptr) (v : T) (hs : List (Held T)) → IsFresh p (places hs) → IsApart (places hs)
      → IsApart (places (hs ++ held p v ∷ []))
  unfolding IsDistinct
  apart_held p v hs f d =
      distinct_with (λ (k : Held T). k.at) same_ptr same_ptr_symm hs (held p v) []
      (subst (Elsewhere p) (sym (append-nil hs)) (elsewhere p hs f))
      (subst (λ l. IsApart (places l)) (sym (append-nil hs)) d)
