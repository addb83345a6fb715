-- The numbers of all sessions stay below the most that a node has, and those below the first free one stay taken.
use Rattle.std.proofs.Common.{◌≡◌, ◌≢◌, ℕ, ◌==◌, ◌<◌, min, Bool, true, false, Option, Some, None, arith, refl, sym, ap}
use Rattle.std.proofs.Common.{◌∙◌, subst, option_map, is_some}
use Rattle.std.proofs.lemmas.Bool.Decides.{Decides-eqb}
use Rattle.cf_queue.specs.OutQueue.{Item}
use Rattle.cf_hub.specs.Hub.{AreNumbered, attached_in, moves}
use Rattle.cf_hub.specs.Places.{Places}
use Rattle.cf_hub.specs.Session.{Attached}
use Rattle.cf_model.specs.Sessions.{SessionState}
use Rattle.cf_hub.specs.WantOfMemory.{Both}
use Rattle.cf_hub.specs.Wordings.{Held}

module _ (k : ℕ) (m n : Places) {from : ℕ} (few : AreNumbered from (attached_in m)) where
  others_are : ((j : ℕ) → j ≢ k → attached_in n j ≡ attached_in m j) → (j : ℕ) → (P : Option Attached → Type 0)
      → (P (attached_in m k) → P (attached_in n k)) → P (attached_in m j) → P (attached_in n j)
  others_are others j P here h = by_value (j == k) (Decides-eqb j k)
    where
      by_value : (t : Bool) → (t ≡ true → j ≡ k) × (j ≡ k → t ≡ true) → P (attached_in n j)
      by_value true e =
          subst (λ i. P (attached_in n i)) (sym (e.0 refl)) (here (subst (λ i. P (attached_in m i)) (e.0 refl) h))
      by_value false e = subst P (sym (others j (λ g. absurd (let i = e.1 g in cc)))) h

  pub bounded_by : is_some (attached_in n k) ≡ is_some (attached_in m k)
      → ((j : ℕ) → j ≢ k → attached_in n j ≡ attached_in m j) → AreNumbered from (attached_in n)
  bounded_by here others =
      record {
        below = λ j h. others_are others j (λ o. o ≡ None) (λ e. still_none (attached_in n k) (here ∙ ap is_some e))
            (few.below j h);
        taken = λ j h. others_are others j (λ o. is_some o ≡ true) (λ e. here ∙ e) (few.taken j h);
      }
    where
      still_none : (o : Option Attached) → is_some o ≡ false → o ≡ None
      still_none None e = refl
      still_none (Some a) e = absurd (cc)

  pub bounded_map : (f : Attached → Attached) → attached_in n k ≡ option_map f (attached_in m k)
      → ((j : ℕ) → j ≢ k → attached_in n j ≡ attached_in m j) → AreNumbered from (attached_in n)
  bounded_map f here others = bounded_by (ap is_some here ∙ mapped (attached_in m k)) others
    where
      mapped : (o : Option Attached) → is_some (option_map f o) ≡ is_some o
      mapped None = refl
      mapped (Some a) = refl

  pub bounded_both : (R : Attached → Attached → Type 0) → Both R (attached_in m k) (attached_in n k)
      → ((j : ℕ) → j ≢ k → attached_in n j ≡ attached_in m j) → AreNumbered from (attached_in n)
  bounded_both R here others = bounded_by (both (attached_in m k) (attached_in n k) here) others
    where
      both : (o p : Option Attached) → Both R o p → is_some p ≡ is_some o
      both None None h = refl
      both None (Some a) h = absurd h
      both (Some a) None h = absurd h
      both (Some a) (Some b) h = refl

  -- a session goes
  pub bounded_gone : attached_in n k ≡ None → ((j : ℕ) → j ≢ k → attached_in n j ≡ attached_in m j)
      → AreNumbered (min from k) (attached_in n)
  bounded_gone here others =
      record {
        below = λ j h. others_are others j (λ o. o ≡ None) (λ e. here) (few.below j h);
        taken = λ j h. let less : j < k = omega (arith, h) in let old : j < from = omega (arith, h) in
            ap is_some (others j (λ e. absurd (omega (arith, e, less)))) ∙ few.taken j old;
      }

pub bounded_move : (k : ℕ) (m n : Places) {from : ℕ} (f : SessionState Held Item → SessionState Held Item)
    → AreNumbered from (attached_in m) → attached_in n k ≡ option_map (moves f) (attached_in m k)
    → ((j : ℕ) → j ≢ k → attached_in n j ≡ attached_in m j)
    → AreNumbered from (attached_in n)
bounded_move k m n f few here others = bounded_map k m n few (moves f) here others
