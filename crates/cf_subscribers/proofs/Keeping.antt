-- What adding and removing rows makes of a table's rows.
use Rattle.std.proofs.Common.{◌≡◌, Bool, true, false, ◌-◌, ◌==◌, ◌≤◌, ◌<◌, ◌||◌, ◌∙◌, not, List, [], ◌∷◌, length, map}
use Rattle.std.proofs.Common.{ℕ, ltb, refl, sym, ap, arith, cond}
use Rattle.std.specs.Prelude.{filter}
use Rattle.std.specs.List.{list_any}
use Rattle.std.specs.Str.{bytes_eq}
use Rattle.std.specs.Cmp.Lexicographic.{bytes_decides}
use Rattle.std.proofs.lemmas.Bool.Decides.{nat_tests}
use Rattle.std.proofs.lemmas.List.{length-map, length-append}
use Rattle.std.proofs.lemmas.List.Filters.{length-filter_both}
use Rattle.std.proofs.lemmas.List.Folds.{list_any-append}
use Rattle.cf_subscribers.specs.Follows.{Follow, follows, is_of, follow, with_follow, without_session, channels_of}
use Rattle.cf_subscribers.specs.Follows.{AreOnce, AreFollows}
use Rattle.cf_model.specs.Streams.{most_rows}

-- what passes a test in no element passes it in none that a filter keeps
any_fewer : {X : Type 0} (p : Follow → Bool) (f : X → Follow) (q : X → Bool) (xs : List X)
    → list_any p (map f xs) ≡ false → list_any p (map f (filter q xs)) ≡ false
any_fewer p f q [] h = refl
any_fewer p f q (x ∷ xs) h = by_value (q x) (p (f x)) refl (any_fewer p f q xs) h
  where
    by_value : (t u : Bool) → p (f x) ≡ u → (list_any p (map f xs) ≡ false → list_any p (map f (filter q xs)) ≡ false)
        → (u || list_any p (map f xs)) ≡ false → list_any p (map f (cond t (x ∷ filter q xs) (filter q xs))) ≡ false
    by_value true true e g k = absurd (cc)
    by_value true false e g k = ap (λ b. b || list_any p (map f (filter q xs))) e ∙ g k
    by_value false true e g k = absurd (cc)
    by_value false false e g k = g k

once_fewer : {X : Type 0} (f : X → Follow) (q : X → Bool) (xs : List X) → AreOnce (map f xs)
    → AreOnce (map f (filter q xs))
once_fewer f q [] h = h
once_fewer f q (x ∷ xs) h =
    by_value (q x) (any_fewer (is_of (f x).channel (f x).session) f q xs h.0) (once_fewer f q xs h.1)
  where
    by_value : (t : Bool) → follows (map f (filter q xs)) (f x).channel (f x).session ≡ false
        → AreOnce (map f (filter q xs)) → AreOnce (map f (cond t (x ∷ filter q xs) (filter q xs)))
    by_value true e g = (e, g)
    by_value false e g = g

-- some of these rows are left
pub AreFollows-fewer : {X : Type 0} (f : X → Follow) (q : X → Bool) (xs : List X) → AreFollows (map f xs)
    → AreFollows (map f (filter q xs))
AreFollows-fewer f q xs h =
    let few : length (map f xs) ≤ most_rows = h.few in
    record {
      once = once_fewer f q xs h.once;
      few = omega (
        arith,
        length-map xs f,
        length-map (filter q xs) f,
        length-filter_both q (λ x. not (q x)) (λ _. refl) xs,
        few,
      );
    }

turned : (a b : List ℕ) → bytes_eq a b ≡ bytes_eq b a
turned a b = by_value (bytes_eq a b) (bytes_eq b a) (bytes_decides a b) (bytes_decides b a)
  where
    by_value : (v w : Bool) → (v ≡ true → a ≡ b) × (a ≡ b → v ≡ true) → (w ≡ true → b ≡ a) × (b ≡ a → w ≡ true) → v ≡ w
    by_value true w h k = sym (k.1 (sym (h.0 refl)))
    by_value false true h k = let e = h.1 (sym (k.0 refl)) in absurd (cc)
    by_value false false h k = refl

-- what is not among these rows is not the one of another
apart : (r : Follow) (rows : List Follow) (c : List ℕ) (s : ℕ) → follows (r ∷ rows) c s ≡ false
    → is_of r.channel r.session (follow c s) ≡ false
apart r rows c s h = let same = turned c r.channel in grind (arith, nat_tests, same)

rest : (r : Follow) (rows : List Follow) (c : List ℕ) (s : ℕ) → follows (r ∷ rows) c s ≡ false
    → follows rows c s ≡ false
rest r rows c s h = grind (arith, nat_tests)

AreOnce-with_follow : (rows : List Follow) (c : List ℕ) (s : ℕ) → AreOnce rows → follows rows c s ≡ false
    → AreOnce (with_follow rows c s)
AreOnce-with_follow [] c s h e = (refl, tt)
AreOnce-with_follow (r ∷ rows) c s h e =
    let here : follows rows r.channel r.session ≡ false = h.0 in
    let there : is_of r.channel r.session (follow c s) ≡ false = apart r rows c s e in
    let joined = list_any-append (is_of r.channel r.session) rows (follow c s ∷ []) in
    (grind (arith, here, there, joined), AreOnce-with_follow rows c s h.1 (rest r rows c s e))

-- these are the rows with one more, which there is room for
pub AreFollows-push : (rows new : List Follow) (c : List ℕ) (s : ℕ) → AreFollows rows → follows rows c s ≡ false
    → length rows < most_rows → new ≡ with_follow rows c s → AreFollows new
AreFollows-push rows new c s h e room is =
    rw is
    record {
      once = AreOnce-with_follow rows c s h.once e;
      few = omega (arith, length-append rows (follow c s ∷ []), room);
    }

fewer_kept : {X : Type 0} (p : X → Bool) (xs : List X)
    → ltb (length (filter (λ x. not (p x)) xs)) (length xs) ≡ list_any p xs
fewer_kept p [] = refl
fewer_kept p (x ∷ xs) = grind (arith, nat_tests, fewer_kept p xs, length-filter_both p (λ y. not (p y)) (λ _. refl) xs)

-- fewer are left where some element passed the test
pub one_shorter : {X : Type 0} (p : X → Bool) (xs left : List X) → left ≡ filter (λ x. not (p x)) xs
    → list_any p xs ≡ true → length left < length xs
one_shorter p xs left is any = let less = fewer_kept p xs in rw is (grind (arith, nat_tests, less, any))

-- as many went as the session had
pub gone_from : (rows old left : List Follow) (s : ℕ) → rows ≡ old → left ≡ without_session old s
    → length rows - length left ≡ length (channels_of old s)
gone_from rows old left s same is =
    let mine : List Follow = filter (λ r. r.session == s) old in
    let counted = length-map mine (λ r. r.channel) in
    rw (same, is) (omega (
      arith,
      counted,
      length-filter_both (λ r. r.session == s) (λ r. not (r.session == s))
          (λ _. refl) old,
    ))
