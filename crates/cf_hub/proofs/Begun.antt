-- A subscription begins, and has a row.
use Rattle.std.proofs.Common.{◌≡◌, ◌≢◌, ℕ, ◌==◌, ◌&&◌, ◌||◌, not, Bool, true, false, if◌then◌else◌, Option, Some, None}
use Rattle.std.proofs.Common.{List, [], ◌∷◌, arith, refl, sym, ap, ◌∙◌, subst, option_map}
use Rattle.std.specs.Str.{bytes_eq}
use Rattle.std.specs.Cmp.Lexicographic.{bytes_decides}
use Rattle.std.proofs.lemmas.Bool.Decides.{nat_tests, Decides-eqb}
use Rattle.std.proofs.lemmas.List.Folds.{list_any-append}
use Rattle.cf_protocol.specs.Position.{Position}
use Rattle.cf_subscribers.specs.Follows.{Follow, follow, follows, is_of, with_follow, without_follow}
use Rattle.cf_recovery.specs.ArrivalBuffer.{nothing_kept}
use Rattle.cf_hub.specs.Hub.{attached_in, is_open, moves}
use Rattle.cf_hub.specs.Places.{Places}
use Rattle.cf_hub.specs.Rows.{Agrees, sub_in}
use Rattle.cf_hub.specs.Session.{Attached}
use Rattle.cf_model.specs.Sessions.{Asked, begins, is_off}
use Rattle.cf_hub.specs.Wordings.{held, plain}

follows_with : (rows : List Follow) (c : List ℕ) (k : ℕ) (d : List ℕ) (j : ℕ)
    → follows (with_follow rows c k) d j ≡ (follows rows d j || (bytes_eq c d && (k == j)))
follows_with rows c k d j = let e = list_any-append (is_of d j) rows (follow c k ∷ []) in grind (arith, e)

or_true : (b : Bool) → true ≡ (b || true)
or_true true = refl
or_true false = refl

or_false : (b : Bool) → b ≡ (b || false)
or_false true = refl
or_false false = refl

and_true : (b : Bool) → (b && true) ≡ b
and_true true = refl
and_true false = refl

and_false : (b : Bool) → (b && false) ≡ false
and_false true = refl
and_false false = refl

module _ (c : List ℕ) (k : ℕ) (id : ℕ) (since : Option Position) (m n : Places) (rows : List Follow)
    (agrees : Agrees (attached_in m) rows) (live : is_open (attached_in m k) ≡ true)
    (here : attached_in n k ≡ option_map (moves (begins plain c id since)) (attached_in m k))
    (others : (j : ℕ) → j ≢ k → attached_in n j ≡ attached_in m j) where
  begun : (d : List ℕ) (o : Option Attached) → is_open o ≡ true
      → not (is_off (sub_in (option_map (moves (begins plain c id since)) o) d))
      ≡ (not (is_off (sub_in o d)) || bytes_eq c d)
  begun d None e = absurd (cc)
  begun d (Some a) e = by_value (bytes_eq d c) (bytes_eq c d) (bytes_decides d c) (bytes_decides c d)
    where
      by_value : (t u : Bool) → (t ≡ true → d ≡ c) × (d ≡ c → t ≡ true) → (u ≡ true → c ≡ d) × (c ≡ d → u ≡ true)
          → not (is_off (if t then Asked id since (held nothing_kept []) else a.state.subs d))
          ≡ (not (is_off (a.state.subs d)) || u)
      by_value true u h g =
          subst (λ v. true ≡ (not (is_off (a.state.subs d)) || v)) (sym (g.1 (sym (h.0 refl))))
          (or_true (not (is_off (a.state.subs d))))
      by_value false true h g = absurd (let e = h.1 (sym (g.0 refl)) in cc)
      by_value false false h g = or_false (not (is_off (a.state.subs d)))

  row_here : (d : List ℕ) → follows (with_follow rows c k) d k ≡ not (is_off (sub_in (attached_in n k) d))
  row_here d =
      follows_with rows c k d k ∙ ap (λ t. follows rows d k || (bytes_eq c d && t)) ((Decides-eqb k k).1 refl)
      ∙ ap (λ t. follows rows d k || t) (and_true (bytes_eq c d))
      ∙ ap (λ t. t || bytes_eq c d) (agrees d k) ∙ sym (begun d (attached_in m k) live)
      ∙ ap (λ o. not (is_off (sub_in o d))) (sym here)

  row_there : (d : List ℕ) (j : ℕ) → (k == j) ≡ false → j ≢ k
      → follows (with_follow rows c k) d j ≡ not (is_off (sub_in (attached_in n j) d))
  row_there d j e h =
      follows_with rows c k d j ∙ ap (λ t. follows rows d j || (bytes_eq c d && t)) e
      ∙ ap (λ t. follows rows d j || t) (and_false (bytes_eq c d))
      ∙ sym (or_false (follows rows d j)) ∙ agrees d j ∙ ap (λ o. not (is_off (sub_in o d))) (sym (others j h))

  pub begun_agrees : Agrees (attached_in n) (with_follow rows c k)
  begun_agrees d j = by_value (k == j) refl (Decides-eqb k j)
    where
      by_value : (t : Bool) → (k == j) ≡ t → (t ≡ true → k ≡ j) × (k ≡ j → t ≡ true)
          → follows (with_follow rows c k) d j ≡ not (is_off (sub_in (attached_in n j) d))
      by_value true is e =
          subst (λ i. follows (with_follow rows c k) d i ≡ not (is_off (sub_in (attached_in n i) d))) (e.0 refl)
          (row_here d)
      by_value false is e = row_there d j is (λ h. absurd (let g = e.1 (sym h) in cc))

-- a row that was just added goes again
pub with_without : (rows : List Follow) (c : List ℕ) (k : ℕ) → follows rows c k ≡ false
    → without_follow (with_follow rows c k) c k ≡ rows
with_without [] c k h = let e = (bytes_decides c c).1 refl in grind (arith, nat_tests, e)
with_without (r ∷ rows) c k h = grind (arith, nat_tests, with_without rows c k)

-- where both were as they are, nothing changed
pub same_all : (k : ℕ) (m n : Places) → attached_in n k ≡ attached_in m k
    → ((j : ℕ) → j ≢ k → attached_in n j ≡ attached_in m j) → (j : ℕ) → attached_in n j ≡ attached_in m j
same_all k m n here others j = by_value (j == k) (Decides-eqb j k)
  where
    by_value : (t : Bool) → (t ≡ true → j ≡ k) × (j ≡ k → t ≡ true) → attached_in n j ≡ attached_in m j
    by_value true e = subst (λ i. attached_in n i ≡ attached_in m i) (sym (e.0 refl)) here
    by_value false e = others j (λ h. absurd (let g = e.1 h in cc))

pub undone_agrees : (m n : Places) (rows left : List Follow) → Agrees (attached_in m) rows
    → ((j : ℕ) → attached_in n j ≡ attached_in m j) → left ≡ rows → Agrees (attached_in n) left
undone_agrees m n rows left a same e =
    subst (λ (rs : List Follow). Agrees (attached_in n) rs) (sym e)
    (λ d j. a d j ∙ ap (λ o. not (is_off (sub_in o d))) (sym (same j)))
