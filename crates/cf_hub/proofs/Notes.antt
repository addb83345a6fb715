-- What waits for a client, and what a text more makes of it.
use Rattle.std.proofs.Common.{◌≡◌, ◌⊎◌, inl, inr, ◌||◌, ℕ, ◌+◌, ◌≤◌, ◌<◌, Bool, true, false, if◌then◌else◌, Option}
use Rattle.std.proofs.Common.{Some, None, List, [], ◌∷◌, ◌++◌, length, map, arith, refl, sym, ap, ◌∙◌, subst}
use Rattle.std.specs.Prelude.{nat_le, sum_by, option_to_list}
use Rattle.std.proofs.lemmas.Bool.Decides.{nat_tests}
use Rattle.std.proofs.lemmas.List.Sums.{sum_by-cons}
use Rattle.cf_queue.specs.OutQueue.{OutQueue, Item, Text, Close, waiting, weight, pushed, HasRoom, IsSlow}
use Rattle.cf_model.specs.Sessions.{Subscription, SessionState, Wording, push, says, closes, closes_now, no_memory}
use Rattle.cf_model.specs.Sessions.{slow, most_waiting}
use Rattle.cf_hub.specs.WantOfMemory.{ClosesWith, SaysAll}
use Rattle.cf_hub.specs.Wordings.{Held, plain, item_weight}
use Rattle.cf_hub.proofs.States.{state_is, push_shut, says_shut}

weights : (ts : List (List ℕ)) (o : Option ℕ)
    → sum_by item_weight (map Text ts ++ map Close (option_to_list o)) ≡ sum_by length ts
weights [] None = refl
weights [] (Some code) = refl
weights (t ∷ ts) o =
    sum_by-cons item_weight (Text t) (map Text ts ++ map Close (option_to_list o))
    ∙ ap (λ n. length t + n) (weights ts o) ∙ sym (sum_by-cons length t ts)

-- a state with this queue
abbrev pub with_queue : (List ℕ → Subscription Held) → OutQueue → SessionState Held Item
with_queue subs q = record { subs = subs; notes = waiting q; closed = q.closed }

fits : (q : OutQueue) (t : List ℕ) → q.limit ≡ most_waiting → weight q + length t ≤ q.limit
    → nat_le (sum_by item_weight (waiting q) + length t) most_waiting ≡ true
fits q t e h =
    let g : weight q + length t ≤ most_waiting = subst (λ n. weight q + length t ≤ n) e h in
    rw (weights q.texts q.close) (grind (arith, nat_tests, g))

too_much : (q : OutQueue) (t : List ℕ) → q.limit ≡ most_waiting → q.limit < weight q + length t
    → nat_le (sum_by item_weight (waiting q) + length t) most_waiting ≡ false
too_much q t e h =
    let g : most_waiting < weight q + length t = subst (λ n. n < weight q + length t) e h in
    rw (weights q.texts q.close) (grind (arith, nat_tests, g))

pub queue_shut : (t : List ℕ) (subs : List ℕ → Subscription Held) (q : OutQueue) → q.closed ≡ true
    → with_queue subs q ≡ push plain (Text t) (with_queue subs q)
queue_shut t subs q e = sym (push_shut plain (Text t) (with_queue subs q) e)

pub queue_fits : (t : List ℕ) (subs : List ℕ → Subscription Held) (q new : OutQueue) → q.limit ≡ most_waiting
    → HasRoom t q → new ≡ pushed t q → waiting new ≡ waiting q ++ Text t ∷ []
    → with_queue subs new ≡ push plain (Text t) (with_queue subs q)
queue_fits t subs q new e h is last =
    state_is (with_queue subs new) (record (with_queue subs q) { notes = waiting q ++ Text t ∷ [] }) (λ c. refl) last
    (ap (λ x. x.closed) is)
    ∙ pick q.closed (nat_le (sum_by item_weight (waiting q) + length t) most_waiting) h.is_open (fits q t e h.fits)
  where
    pick : (shut room : Bool) → shut ≡ false → room ≡ true
        → ◌≡◌ {A = SessionState Held Item} (record (with_queue subs q) { notes = waiting q ++ Text t ∷ [] })
        (if shut then with_queue subs q else if room then record (with_queue subs q)
        { notes = waiting q ++ Text t ∷ [] } else closes (Close slow) (with_queue subs q))
    pick false true a b = refl
    pick false false a b = absurd (cc)
    pick true room a b = absurd (cc)

pub queue_slow : (t : List ℕ) (subs : List ℕ → Subscription Held) (q : OutQueue) → q.limit ≡ most_waiting → IsSlow t q
    → closes_now (Close slow) (with_queue subs q) ≡ push plain (Text t) (with_queue subs q)
queue_slow t subs q e h =
    pick q.closed (nat_le (sum_by item_weight (waiting q) + length t) most_waiting) h.is_open (too_much q t e h.past)
  where
    pick : (shut room : Bool) → shut ≡ false → room ≡ false
        → ◌≡◌ {A = SessionState Held Item} (if shut then with_queue subs q else closes (Close slow) (with_queue subs q))
        (if shut then with_queue subs q else if room then record (with_queue subs q)
        { notes = waiting q ++ Text t ∷ [] } else closes (Close slow) (with_queue subs q))
    pick false false a b = refl
    pick false true a b = absurd (cc)
    pick true room a b = absurd (cc)

-- ---- several notes

pub or_first : (a b : Bool) → a ≡ true → (a || b) ≡ true
or_first true b h = refl
or_first false b h = absurd (cc)

pub or_second : (a b : Bool) → b ≡ true → (a || b) ≡ true
or_second true b h = refl
or_second false b h = h

module _ {B N : Type 0} (w : Wording B N) where
  says_both : (xs ys : List N) (a : SessionState B N) → says w (xs ++ ys) a ≡ says w ys (says w xs a)
  says_both [] ys a = refl
  says_both (x ∷ xs) ys a = says_both xs ys (push w x a)

  joined : (xs ys zs : List N) → (xs ++ ys) ++ zs ≡ xs ++ (ys ++ zs)
  joined [] ys zs = refl
  joined (x ∷ xs) ys zs = ap (λ ns. x ∷ ns) (joined xs ys zs)

  -- one text is said
  pub one_said : (refused : Bool) (n : N) (a b : SessionState B N) → (b ≡ push w n a)
      ⊎ ((refused ≡ true) × ClosesWith (w.close no_memory) a b) → SaysAll refused w (n ∷ []) a b
  one_said refused n a b (inl e) = inl e
  one_said refused n a b (inr h) =
      inr (h.0, record { first = []; rest = n ∷ []; all = refl; was_open = h.1.was_open; closed = h.1.closed })

  -- these, and then those
  pub all_said : (r s : Bool) (xs ys : List N) (a b new : SessionState B N) → SaysAll r w xs a b → SaysAll s w ys b new
      → SaysAll (r || s) w (xs ++ ys) a new
  all_said r s xs ys a b new (inl e) (inl f) = inl (f ∙ ap (says w ys) e ∙ sym (says_both xs ys a))
  all_said r s xs ys a b new (inl e) (inr h) =
      let was : says w h.1.first b ≡ says w (xs ++ h.1.first) a =
      ap (says w h.1.first) e ∙ sym (says_both xs h.1.first a) in
      inr (
        or_second r s h.0,
        record {
          first = xs ++ h.1.first;
          rest = h.1.rest;
          all = ap (λ ns. xs ++ ns) h.1.all ∙ sym (joined xs h.1.first h.1.rest);
          was_open = ap (λ (l : SessionState B N). l.closed) (sym was) ∙ h.1.was_open;
          closed = h.1.closed ∙ ap (closes (w.close no_memory)) was;
        },
      )
  all_said r s xs ys a b new (inr h) (inl f) =
      inr (
        or_first r s h.0,
        record {
          first = h.1.first;
          rest = h.1.rest ++ ys;
          all = ap (λ ns. ns ++ ys) h.1.all ∙ joined h.1.first h.1.rest ys;
          was_open = h.1.was_open;
          closed = f ∙ says_shut w ys b (ap (λ (l : SessionState B N). l.closed) h.1.closed) ∙ h.1.closed;
        },
      )
  all_said r s xs ys a b new (inr h) (inr g) =
      absurd (let e : true ≡ false = sym (ap (λ (l : SessionState B N). l.closed)
      (says_shut w g.1.first b (ap (λ (l : SessionState B N). l.closed) h.1.closed) ∙ h.1.closed)) ∙ g.1.was_open in cc)
