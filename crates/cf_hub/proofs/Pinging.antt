-- A tick on its way along the numbers of sessions.
use Rattle.std.proofs.Common.{◌≡◌, ◌≢◌, ℕ, ◌+◌, ◌==◌, ◌≤◌, ◌<◌, ◌||◌, Bool, true, false, Option, Some, None, List, []}
use Rattle.std.proofs.Common.{◌∷◌, ◌++◌, length, is_some, arith, refl, sym, ap, ◌∙◌, subst, inl, inr}
use Rattle.std.specs.Prelude.{nat_le, IfSome}
use Rattle.std.proofs.lemmas.Bool.Decides.{Decides-eqb, nat_tests}
use Rattle.std.proofs.lemmas.List.Folds.{list_any-append}
use Rattle.cf_hub.specs.Hub.{HasNoneFrom, IsBounded, IsNextFrom, Node, PingStep, Pings, Ticks, attached_at, counted}
use Rattle.cf_hub.specs.Hub.{is_in, one_if}
use Rattle.cf_model.specs.Streams.{most_sessions}
use Rattle.cf_hub.specs.Rows.{Agrees}
use Rattle.cf_hub.specs.Session.{Attached}
use Rattle.cf_hub.specs.Turns.{get_turns, gets_turn}
use Rattle.cf_hub.specs.WantOfMemory.{Both}
use Rattle.cf_hub.proofs.DeliveryOutcomes.{hit_more, hit_here, hit_still, hit_few, turns_snoc}
use Rattle.cf_hub.proofs.Hubs.{counted_both}

-- the sessions below this number were pinged, and the others are as they were
pub record IsPinging (now n : ℕ) (old new : Node) : Type 0 where
  pub hit : List ℕ
  pub requests : ℕ
  pub few_hit : length hit ≤ requests
  pub count : new.refused ≡ counted requests old.refused
  pub done : (k : ℕ) → k < n → Both (Pings (is_in k hit) now) (attached_at old k) (attached_at new k)
  pub rest : (k : ℕ) → n ≤ k → attached_at new k ≡ attached_at old k
  pub all : List ℕ
  pub passed : (k : ℕ) → k < n → is_in k all ≡ is_some (attached_at old k)
  pub ahead : (k : ℕ) → n ≤ k → is_in k all ≡ false
  pub turns : new.turns ≡ get_turns all old.turns
  pub agrees : Agrees (attached_at new) new.rows

pub begins_pinging : (now : ℕ) (h : Node) → Agrees (attached_at h) h.rows → h.refused ≤ 18446744073709551615
    → IsPinging now 0 h h
begins_pinging now h a small =
    record {
      hit = [];
      requests = 0;
      few_hit = omega arith;
      count = omega (arith, small);
      done = λ k l. absurd (omega (arith, l));
      rest = λ k l. refl;
      all = [];
      passed = λ k l. absurd (omega (arith, l));
      ahead = λ k l. refl;
      turns = refl;
      agrees = a;
    }

wider : (now : ℕ) (s t : Bool) → (s ≡ true → t ≡ true) → (a b : Option Attached) → Both (Pings s now) a b
    → Both (Pings t now) a b
wider now s t w None None h = tt
wider now s t w None (Some b) h = absurd h
wider now s t w (Some a) None h = absurd h
wider now s t w (Some a) (Some b) (inl h, g) = (inl h, g)
wider now s t w (Some a) (Some b) (inr h, g) = (inr (w h.0, h.1), g)

module _ (now n : ℕ) (old mid new : Node) (s : PingStep now n mid new) (w : IsPinging now n old mid) where
  other : (j : ℕ) → (j == n) ≡ false → j ≢ n
  other j h g = let i = (Decides-eqb j n).1 g in absurd (cc)

  pinged : (k : ℕ) → k < n + 1 → (t : Bool) → (k == n) ≡ t
      → Both (Pings (is_in k (hit_more s.hit n w.hit)) now) (attached_at old k) (attached_at new k)
  pinged k l true e =
      subst (λ i. Both (Pings (is_in i (hit_more s.hit n w.hit)) now) (attached_at old i) (attached_at new i))
      (sym ((Decides-eqb k n).0 e))
      (subst (λ o. Both (Pings (is_in n (hit_more s.hit n w.hit)) now) o (attached_at new n)) (w.rest n (omega arith))
      (wider now s.hit (is_in n (hit_more s.hit n w.hit)) (hit_here s.hit n w.hit) (attached_at mid n)
      (attached_at new n) s.here))
  pinged k l false e =
      let less : k < n = grind (arith, nat_tests, l, e) in
      subst (λ o. Both (Pings (is_in k (hit_more s.hit n w.hit)) now) (attached_at old k) o)
      (sym (s.others k (other k e)))
      (wider now (is_in k w.hit) (is_in k (hit_more s.hit n w.hit)) (hit_still s.hit n k w.hit) (attached_at old k)
      (attached_at mid k) (w.done k less))

  is_last : (k : ℕ) (ks : List ℕ) → is_in k (ks ++ n ∷ []) ≡ (is_in k ks || (n == k))
  is_last k ks = let e = list_any-append (λ j. j == k) ks (n ∷ []) in grind (arith, e)

  passed_too : is_some (attached_at mid n) ≡ true → (k : ℕ) → k < n + 1 → (t : Bool) → (k == n) ≡ t
      → is_in k (w.all ++ n ∷ []) ≡ is_some (attached_at old k)
  passed_too taken k l true e =
      subst (λ i. is_in i (w.all ++ n ∷ []) ≡ is_some (attached_at old i)) (sym ((Decides-eqb k n).0 e))
      (is_last n w.all ∙ ap (λ t. is_in n w.all || t) ((Decides-eqb n n).1 refl) ∙ or_true (is_in n w.all) ∙ sym taken
      ∙ ap is_some (w.rest n (omega arith)))
    where
      or_true : (b : Bool) → (b || true) ≡ true
      or_true true = refl
      or_true false = refl
  passed_too taken k l false e =
      let less : k < n = grind (arith, nat_tests, l, e) in
      let apart : (n == k) ≡ false = grind (arith, nat_tests, e) in
      is_last k w.all ∙ ap (λ t. is_in k w.all || t) apart ∙ or_false (is_in k w.all) ∙ w.passed k less
    where
      or_false : (b : Bool) → (b || false) ≡ b
      or_false true = refl
      or_false false = refl

  ahead_too : (k : ℕ) → n + 1 ≤ k → is_in k (w.all ++ n ∷ []) ≡ false
  ahead_too k l =
      let apart : (n == k) ≡ false = grind (arith, nat_tests, l) in
      let before : is_in k w.all ≡ false = w.ahead k (omega (arith, l)) in
      is_last k w.all ∙ ap (λ t. t || (n == k)) before ∙ apart

  pub goes_on_pinging : is_some (attached_at mid n) ≡ true → IsPinging now (n + 1) old new
  goes_on_pinging taken =
      record {
        hit = hit_more s.hit n w.hit;
        requests = w.requests + one_if s.hit;
        few_hit = hit_few s.hit n w.hit w.requests w.few_hit;
        count = s.count ∙ ap (counted (one_if s.hit)) w.count ∙ counted_both w.requests (one_if s.hit) old.refused;
        done = λ k l. pinged k l (k == n) refl;
        rest = λ k l. s.others k (λ e. absurd (omega (arith, e, l))) ∙ w.rest k (omega (arith, l));
        all = w.all ++ n ∷ [];
        passed = λ k l. passed_too taken k l (k == n) refl;
        ahead = ahead_too;
        turns = s.turns ∙ ap (gets_turn n) w.turns ∙ sym (turns_snoc n w.all old.turns);
        agrees = s.agrees;
      }

none_both : (R : Attached → Attached → Type 0) (a b : Option Attached) → a ≡ None → b ≡ a → Both R a b
none_both R None None e f = tt
none_both R None (Some b) e f = absurd (cc)
none_both R (Some a) b e f = absurd (cc)

module _ (now n : ℕ) (old new : Node) (w : IsPinging now n old new) where
  -- a number without a session is passed over
  done_too : (j : ℕ) → (n ≤ j → attached_at new j ≡ None)
      → Both (Pings (is_in j w.hit) now) (attached_at old j) (attached_at new j)
  done_too j none = by_value (nat_le n j) refl
    where
      by_value : (t : Bool) → nat_le n j ≡ t → Both (Pings (is_in j w.hit) now) (attached_at old j) (attached_at new j)
      by_value true e =
          let behind : n ≤ j = grind (arith, nat_tests, e) in
          none_both (Pings (is_in j w.hit) now) (attached_at old j) (attached_at new j)
          (sym (w.rest j behind) ∙ none behind) (w.rest j behind)
      by_value false e = let near : j < n = grind (arith, nat_tests, e) in w.done j near

  passed_by : (j : ℕ) → (n ≤ j → attached_at new j ≡ None) → is_in j w.all ≡ is_some (attached_at old j)
  passed_by j none = by_value (nat_le n j) refl
    where
      by_value : (t : Bool) → nat_le n j ≡ t → is_in j w.all ≡ is_some (attached_at old j)
      by_value true e = let behind : n ≤ j = grind (arith, nat_tests, e) in
          w.ahead j behind ∙ sym (ap is_some (sym (w.rest j behind) ∙ none behind))
      by_value false e = let near : j < n = grind (arith, nat_tests, e) in w.passed j near

  pub skips_pinging : (k : ℕ) → n ≤ k → ((j : ℕ) → n ≤ j → j < k → attached_at new j ≡ None) → IsPinging now k old new
  skips_pinging k far none =
      record {
        hit = w.hit;
        requests = w.requests;
        few_hit = w.few_hit;
        count = w.count;
        done = λ j l. done_too j (λ g. none j g l);
        rest = λ j l. w.rest j (omega (arith, far, l));
        all = w.all;
        passed = λ j l. passed_by j (λ g. none j g l);
        ahead = λ j l. w.ahead j (omega (arith, far, l));
        turns = w.turns;
        agrees = w.agrees;
      }

  pub ends_pinging : HasNoneFrom n (attached_at new) → Ticks now old new
  ends_pinging none =
      record {
        hit = w.hit;
        each = λ k. done_too k (none k);
        requests = w.requests;
        few_hit = w.few_hit;
        count = w.count;
        all = w.all;
        all_sessions = λ k. passed_by k (none k);
        turns = w.turns;
        agrees = w.agrees;
      }

-- a session's number is below the most
pub next_below : (o : Option ℕ) (n : ℕ) (f : ℕ → Option Attached) → IsBounded f → IfSome o (λ k. IsNextFrom n k f)
    → IfSome o (λ k. IsNextFrom n k f × (k < most_sessions))
next_below None n f few h = tt
next_below (Some k) n f few h = (h, by_value (nat_le most_sessions k) refl)
  where
    by_value : (t : Bool) → nat_le most_sessions k ≡ t → k < most_sessions
    by_value true e =
        let far : most_sessions ≤ k = grind (arith, nat_tests, e) in let gone : f k ≡ None = few k far in let there =
        h.taken in let same = ap is_some gone in absurd (let w : false ≡ true = sym same ∙ there in cc)
    by_value false e = grind (arith, nat_tests, e)
