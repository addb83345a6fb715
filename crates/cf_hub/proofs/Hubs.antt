-- A hub's sessions as its model shows them.
use Rattle.std.proofs.Common.{◌≡◌, ◌≢◌, ℕ, zero, suc, ◌+◌, ◌<◌, true, false, Option, Some, None, List, [], ◌∷◌, arith}
use Rattle.std.proofs.Common.{refl, sym, ap, ◌∙◌, subst, option_map}
use Rattle.std.proofs.lemmas.Bool.Decides.{nat_tests}
use Rattle.std.specs.BTreeMap.{is_at}
use Rattle.std.specs.Map.{lookup}
use Rattle.std.specs.Ordering.{nat_cmp}
use Rattle.cf_subscribers.specs.Follows.{Follow}
use Rattle.cf_hub.specs.Hub.{IsBounded, Node, attached_at, attached_in, counted}
use Rattle.cf_hub.specs.Places.{Places, numbered}
use Rattle.cf_hub.specs.Rows.{Agrees}
use Rattle.cf_hub.specs.Session.{Attached, Shown, shown_all, attached_shown}

own : (k : ℕ) → is_at (nat_cmp k) k ≡ true
own k = grind (arith, nat_tests)

apart : (j n : ℕ) → j ≢ n → is_at (nat_cmp j) n ≡ false
apart j n h = grind (arith, nat_tests, h)

-- no number below the first is among them
none_below : (n : ℕ) (ps : Places) (j : ℕ) → j < n → lookup (is_at (nat_cmp j)) (shown_all (numbered n ps)) ≡ None
none_below n [] j h = refl
none_below n (None ∷ ps) j h = none_below (suc n) ps j (omega (arith, h))
none_below n (Some s ∷ ps) j h = rw (apart j n (λ e. omega (arith, e, h))) (none_below (suc n) ps j (omega (arith, h)))

seen_from : (n : ℕ) (ps : Places) (k j : ℕ) → j ≡ n + k
    → option_map attached_shown (lookup (is_at (nat_cmp j)) (shown_all (numbered n ps))) ≡ attached_in ps k
seen_from n [] k j e = refl
seen_from n (None ∷ ps) zero j e = ap (option_map attached_shown) (none_below (suc n) ps j (omega (arith, e)))
seen_from n (None ∷ ps) (suc k) j e = seen_from (suc n) ps k j (omega (arith, e))
seen_from n (Some s ∷ ps) zero j e = let here : is_at (nat_cmp j) n ≡ true =
    subst (λ i. is_at (nat_cmp i) n ≡ true) (let same : n ≡ j = omega (arith, e) in same) (own n) in rw here refl
seen_from n (Some s ∷ ps) (suc k) j e =
    rw (apart j n (λ f. omega (arith, e, f))) (seen_from (suc n) ps k j (omega (arith, e)))

pub seen_in : (m : Places) (k : ℕ) → option_map attached_shown (lookup (is_at (nat_cmp k)) (shown_all (numbered 0 m)))
    ≡ attached_in m k
seen_in m k = seen_from 0 m k k (omega arith)

-- its sessions are those
pub seen : (h : Node) (m : Places) → h.sessions ≡ shown_all (numbered 0 m) → attached_at h ≡ attached_in m
seen h m e =
    λ i k. (ap (λ (es : List (ℕ × Shown)). option_map attached_shown (lookup (is_at (nat_cmp k)) es)) e ∙ seen_in m k) i

pub agrees_seen : (h : Node) (m : Places) → h.sessions ≡ shown_all (numbered 0 m) → Agrees (attached_in m) h.rows
    → Agrees (attached_at h) h.rows
agrees_seen h m e a = subst (λ (f : ℕ → Option Attached). Agrees f h.rows) (sym (seen h m e)) a

-- the counts of refused requests add up
pub counted_both : (m n r : ℕ) → counted n (counted m r) ≡ counted (m + n) r
counted_both m n r = omega arith

pub agrees_view : (old inside : Node) (m : Places) → inside ≡ old → inside.sessions ≡ shown_all (numbered 0 m)
    → Agrees (attached_in m) inside.rows → Agrees (attached_at old) old.rows
agrees_view old inside m e s a = subst (λ (h : Node). Agrees (attached_at h) h.rows) e (agrees_seen inside m s a)

pub agrees_shown : (m : Places) (rows : List Follow) → Agrees (attached_in m) rows
    → Agrees (λ k. option_map attached_shown (lookup (is_at (nat_cmp k)) (shown_all (numbered 0 m)))) rows
agrees_shown m rows a = subst (λ (f : ℕ → Option Attached). Agrees f rows) (sym (λ i k. seen_in m k i)) a

pub bounded_view : (old inside : Node) (m : Places) → inside ≡ old → inside.sessions ≡ shown_all (numbered 0 m)
    → IsBounded (attached_in m) → IsBounded (attached_at old)
bounded_view old inside m e s a =
    subst (λ (h : Node). IsBounded (attached_at h)) e
    (subst (λ (f : ℕ → Option Attached). IsBounded f) (sym (seen inside m s)) a)
