-- Of the members with one key the last, found from the back.
use Rattle.std.proofs.Common.{◌≡◌, List, [], ◌∷◌, ◌++◌, ℕ, map, Bool, true, false, cond, ◌||◌, refl, sym, ap, ◌∙◌}
use Rattle.std.proofs.Common.{append_assoc, reverse}
use Rattle.std.specs.Prelude.{not, filter}
use Rattle.std.specs.List.{list_any}
use Rattle.std.specs.Str.{bytes_eq}
use Rattle.std.proofs.lemmas.List.{append-nil, map-append, reverse-append}
use Rattle.std.proofs.lemmas.Slice.Eq.{bytes_eq-Decides}
use Rattle.std.proofs.lemmas.List.Elements.{filter-append}
use Rattle.cf_json.specs.Spans.{Span}
use Rattle.cf_json.specs.Members.{Entry, put, put_all}

-- whether a member has the key
abbrev pub has : List ℕ → List Entry → Bool
has k es = list_any (λ e. bytes_eq k e.0) es

-- those whose key does not come again
abbrev pub lasts : List Entry → List Entry
lasts [] = []
lasts (e ∷ es) = cond (has e.0 es) (lasts es) (e ∷ lasts es)

-- those whose key does not come in the second list
abbrev without : List Entry → List Entry → List Entry
without es ms = filter (λ e. not (has e.0 ms)) es

all_kept : (es : List Entry) → without es [] ≡ es
all_kept [] = refl
all_kept (e ∷ es) = ap (λ t. e ∷ t) (all_kept es)

filter_step : (a b : Bool) (e : Entry) (p : Entry → Bool) (rest both : List Entry) → p e ≡ not b → filter p rest ≡ both
    → filter p (cond (not a) (e ∷ rest) rest) ≡ cond (not (a || b)) (e ∷ both) both
filter_step true b e p rest both h r = r
filter_step false true e p rest both h r = rw h r
filter_step false false e p rest both h r = rw h (ap (λ t. e ∷ t) r)

filter_twice : (es ms : List Entry) (m : Entry)
    → without (filter (λ f. not (bytes_eq f.0 m.0)) es) ms ≡ without es (m ∷ ms)
filter_twice [] ms m = refl
filter_twice (e ∷ es) ms m =
    filter_step (bytes_eq e.0 m.0) (has e.0 ms) e (λ f. not (has f.0 ms)) (filter (λ f. not (bytes_eq f.0 m.0)) es)
    (without es (m ∷ ms)) refl (filter_twice es ms m)

last_one : (b : Bool) (m : Entry) (ls : List Entry) → cond (not b) (m ∷ []) [] ++ ls ≡ cond b ls (m ∷ ls)
last_one true m ls = refl
last_one false m ls = refl

put_all-lasts : (es ms : List Entry) → put_all es ms ≡ without es ms ++ lasts ms
put_all-lasts es [] = sym (all_kept es) ∙ sym (append-nil (without es []))
put_all-lasts es (m ∷ ms) =
    put_all-lasts (put es m) ms
    ∙ ap (λ t. t ++ lasts ms) (filter-append (λ f. not (has f.0 ms)) (filter (λ f. not (bytes_eq f.0 m.0)) es) (m ∷ [])
    ∙ ap (λ t. t ++ without (m ∷ []) ms) (filter_twice es ms m))
    ∙ append_assoc (without es (m ∷ ms)) (without (m ∷ []) ms) (lasts ms)
    ∙ ap (λ t. without es (m ∷ ms) ++ t) (last_one (has m.0 ms) m (lasts ms))

pub lasts_of : (ms : List Entry) → put_all [] ms ≡ lasts ms
lasts_of ms = put_all-lasts [] ms

-- ---- the loop

same_either_way : (a b : List ℕ) → bytes_eq a b ≡ bytes_eq b a
same_either_way a b = by_case (bytes_eq a b) (bytes_eq b a) refl refl
  where
    by_case : (x y : Bool) → bytes_eq a b ≡ x → bytes_eq b a ≡ y → x ≡ y
    by_case true true e f = refl
    by_case false false e f = refl
    by_case true false e f = let both : true ≡ false =
        sym ((bytes_eq-Decides b a).1 (sym ((bytes_eq-Decides a b).0 e))) ∙ f in absurd cc
    by_case false true e f = let both : true ≡ false =
        sym ((bytes_eq-Decides a b).1 (sym ((bytes_eq-Decides b a).0 f))) ∙ e in absurd cc

pub has_more : (key k : List ℕ) (s : Span) (es : List Entry) (old : Bool) → old ≡ has k es
    → cond (bytes_eq key k) true old ≡ has k ((key, s) ∷ es)
has_more key k s es old h =
    ap (λ b. cond (bytes_eq key k) true b) h ∙ ap (λ b. cond b true (has k es)) (same_either_way key k)
    ∙ cond_or (bytes_eq k key) (has k es)
  where
    cond_or : (a b : Bool) → cond a true b ≡ (a || b)
    cond_or true b = refl
    cond_or false b = refl

pub lasts_new : (e : Entry) (es : List Entry) → has e.0 es ≡ false → lasts (e ∷ es) ≡ e ∷ lasts es
lasts_new e es h = rw h refl

pub lasts_old : (e : Entry) (es : List Entry) → has e.0 es ≡ true → lasts (e ∷ es) ≡ lasts es
lasts_old e es h = rw h refl

pub map-reverse : {A B : Type 0} (f : A → B) (xs : List A) → map f (reverse xs) ≡ reverse (map f xs)
map-reverse f [] = refl
map-reverse f (x ∷ xs) =
    ap (map f) (reverse-append (x ∷ []) xs) ∙ map-append f (reverse xs) (x ∷ [])
    ∙ ap (λ t. t ++ f x ∷ []) (map-reverse f xs) ∙ sym (reverse-append (f x ∷ []) (map f xs))
