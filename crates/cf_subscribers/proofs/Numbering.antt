-- What one more name, or one less, makes of numbers and names.
use Rattle.std.proofs.Common.{◌≡◌, ℕ, ◌==◌, Bool, true, false, cond, Option, Some, None, List, refl, sym, ap, ◌∙◌}
use Rattle.std.proofs.Common.{subst, if◌then◌else◌}
use Rattle.std.specs.Cmp.Lexicographic.{bytes_decides}
use Rattle.std.specs.Prelude.{Decides, option_map, String, string_bytes}
use Rattle.std.specs.Str.{bytes_eq}
use Rattle.std.proofs.lemmas.Bool.Decides.{Decides-eqb}
use Rattle.slab.specs.Slab.{Slab, Updates, get}
use Rattle.std.specs.declared.alloc.Global.{Global}
use Rattle.cf_subscribers.specs.Names.{Inverts}

module _ (number new_number : List ℕ → Option ℕ) (name new_name : ℕ → Option (List ℕ)) (c : List ℕ) (n : ℕ) where
  -- a name that has no number takes one that has no name
  pub numbered_more : Inverts number name → number c ≡ None → name n ≡ None
      → ((q : List ℕ) → new_number q ≡ cond (bytes_eq c q) (Some n) (number q))
      → ((m : ℕ) → new_name m ≡ (if m == n then Some c else name m)) → Inverts new_number new_name
  numbered_more h absent free numbers names =
      record {
        there = λ q m e. there q m (bytes_eq c q) (m == n) (bytes_decides c q) (Decides-eqb m n) (sym (numbers q) ∙ e)
            (names m);
        back = λ q m e. back q m (bytes_eq c q) (m == n) (bytes_decides c q) (Decides-eqb m n) (sym (names m) ∙ e)
            (numbers q);
      }
    where
      there : (q : List ℕ) (m : ℕ) (t u : Bool) → Decides t (c ≡ q) → Decides u (m ≡ n)
          → cond t (Some n) (number q) ≡ Some m → new_name m ≡ (if u then Some c else name m) → new_name m ≡ Some q
      there q m true true d e f g = g ∙ ap Some (d.0 refl)
      there q m true false d e f g =
          let same : n ≡ m = cc in absurd (let w : false ≡ true = e.1 (sym same) in cc)
      there q m false true d e f g =
          let old : name m ≡ Some q = h.there q m f in let same : m ≡ n = e.0 refl in
          absurd (let w : name n ≡ Some q = subst (λ (j : ℕ). name j ≡ Some q) same old in cc)
      there q m false false d e f g = g ∙ h.there q m f

      back : (q : List ℕ) (m : ℕ) (t u : Bool) → Decides t (c ≡ q) → Decides u (m ≡ n)
          → (if u then Some c else name m) ≡ Some q → new_number q ≡ cond t (Some n) (number q) → new_number q ≡ Some m
      back q m true true d e f g = g ∙ ap Some (sym (e.0 refl))
      back q m true false d e f g =
          let old : number q ≡ Some m = h.back q m f in let same : c ≡ q = d.0 refl in
          absurd (let w : number c ≡ Some m = subst (λ (j : List ℕ). number j ≡ Some m) (sym same) old in cc)
      back q m false true d e f g = let same : c ≡ q = cc in absurd (let w : false ≡ true = d.1 same in cc)
      back q m false false d e f g = g ∙ h.back q m f

  -- a number loses its name
  pub numbered_less : Inverts number name → name n ≡ Some c
      → ((q : List ℕ) → new_number q ≡ cond (bytes_eq c q) None (number q))
      → ((m : ℕ) → new_name m ≡ (if m == n then None else name m)) → Inverts new_number new_name
  numbered_less h was numbers names =
      record {
        there = λ q m e. there q m (bytes_eq c q) (m == n) (bytes_decides c q) (Decides-eqb m n) (sym (numbers q) ∙ e)
            (names m);
        back = λ q m e. back q m (bytes_eq c q) (m == n) (bytes_decides c q) (Decides-eqb m n) (sym (names m) ∙ e)
            (numbers q);
      }
    where
      there : (q : List ℕ) (m : ℕ) (t u : Bool) → Decides t (c ≡ q) → Decides u (m ≡ n)
          → cond t None (number q) ≡ Some m → new_name m ≡ (if u then None else name m) → new_name m ≡ Some q
      there q m true u d e f g = absurd (cc)
      there q m false true d e f g =
          let old : name m ≡ Some q = h.there q m f in let same : m ≡ n = e.0 refl in
          let both : name n ≡ Some q = subst (λ (j : ℕ). name j ≡ Some q) same old in let equal : c ≡ q = cc in
          absurd (let w : false ≡ true = d.1 equal in cc)
      there q m false false d e f g = g ∙ h.there q m f

      back : (q : List ℕ) (m : ℕ) (t u : Bool) → Decides t (c ≡ q) → Decides u (m ≡ n)
          → (if u then None else name m) ≡ Some q → new_number q ≡ cond t None (number q) → new_number q ≡ Some m
      back q m t true d e f g = absurd (cc)
      back q m true false d e f g =
          let old : number q ≡ Some m = h.back q m f in let here : number c ≡ Some n = h.back c n was in
          let same : c ≡ q = d.0 refl in
          let both : number c ≡ Some m = subst (λ (j : List ℕ). number j ≡ Some m) (sym same) old in let equal : m ≡ n =
          cc in absurd (let w : false ≡ true = e.1 equal in cc)
      back q m false false d e f g = g ∙ h.back q m f

-- one slot has another text
pub set_by : (old new : Slab (String Global)) (n : ℕ) (w : Option (String Global)) → Updates old new n w → (m : ℕ)
    → option_map string_bytes (get new m) ≡ (if m == n then option_map string_bytes w
    else option_map string_bytes (get old m))
set_by old new n w h m = by_value (m == n) (Decides-eqb m n)
  where
    by_value : (t : Bool) → Decides t (m ≡ n) → option_map string_bytes (get new m)
        ≡ (if t then option_map string_bytes w else option_map string_bytes (get old m))
    by_value true d = ap (option_map string_bytes) (ap (get new) (d.0 refl) ∙ h.changed)
    by_value false d = ap (option_map string_bytes) (h.others m (λ e. let f : false ≡ true = d.1 e in cc))

-- more room changes no slot
pub same_slots : (old new : Slab (String Global)) → new ≡ record old { capacity = new.capacity } → (m : ℕ)
    → option_map string_bytes (get new m) ≡ option_map string_bytes (get old m)
same_slots old new h m = ap (λ (s : Slab (String Global)). option_map string_bytes (get s m)) h
