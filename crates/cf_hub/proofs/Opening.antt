-- A session that was just attached.
use Rattle.std.proofs.Common.{◌≡◌, ◌≢◌, ℕ, ◌==◌, ◌<◌, ◌+◌, is_some, Bool, true, false, Some, None, List, [], arith}
use Rattle.std.proofs.Common.{refl, sym, ap, ◌∙◌}
use Rattle.std.proofs.lemmas.Bool.Decides.{Decides-eqb}
use Rattle.cf_subscribers.specs.Follows.{Follow}
use Rattle.cf_queue.specs.OutQueue.{Item}
use Rattle.cf_hub.specs.declared.session.AttachedSession.{AttachedSession}
use Rattle.cf_hub.specs.declared.fate.Fate.TheVariants as fate
use Rattle.cf_hub.specs.Hub.{AreNumbered, attached_in, fresh}
use Rattle.cf_model.specs.Streams.{most_sessions}
use Rattle.cf_hub.specs.Places.{Places}
use Rattle.cf_hub.specs.Rows.{Agrees, sub_in}
use Rattle.cf_hub.specs.Session.{attached_of, badge_of, state_of}
use Rattle.cf_model.specs.Sessions.{SessionState, is_off, opens}
use Rattle.cf_hub.specs.Wordings.{Held}
use Rattle.cf_hub.proofs.Walks.{agrees_by}

pub fresh_is : (s : AttachedSession) (client user : List ℕ) (now : ℕ) → state_of s ≡ opens
    → badge_of s ≡ record { client = client; user = user; pinged = now; awaits_pong = false }
    → attached_of s ≡ fresh client user now
fresh_is s client user now e f = λ i. record { badge = f i; state = e i }

module _ (k : ℕ) (m n : Places) where
  pub fresh_agrees : (rows : List Follow) (s : AttachedSession) → Agrees (attached_in m) rows → attached_in m k ≡ None
      → attached_in n k ≡ Some (attached_of s) → ((j : ℕ) → j ≢ k → attached_in n j ≡ attached_in m j)
      → state_of s ≡ opens → Agrees (attached_in n) rows
  fresh_agrees rows s agrees free here others e =
      agrees_by fate.Passed [] k (attached_in m) (attached_in n) rows agrees
      (λ d. ap (λ o. is_off (sub_in o d)) here ∙ ap (λ (x : SessionState Held Item). is_off (x.subs d)) e
      ∙ sym (ap (λ o. is_off (sub_in o d)) free)) others

  pub fresh_bounded : {from : ℕ} (s : AttachedSession) → AreNumbered from (attached_in m) → k < most_sessions
      → ((j : ℕ) → j < k → is_some (attached_in m j) ≡ true) → attached_in n k ≡ Some (attached_of s)
      → ((j : ℕ) → j ≢ k → attached_in n j ≡ attached_in m j) → AreNumbered (k + 1) (attached_in n)
  fresh_bounded s few below least here others =
      record {
        below = λ j h. others j (λ e. absurd (omega (arith, e, h, below))) ∙ few.below j h;
        taken = λ j h. by_value j h (j == k) ((Decides-eqb j k).0) (Decides-eqb j k).1;
      }
    where
      by_value : (j : ℕ) → j < k + 1 → (t : Bool) → (t ≡ true → j ≡ k) → (j ≡ k → t ≡ true)
          → is_some (attached_in n j) ≡ true
      by_value j h true e f = ap (λ i. is_some (attached_in n i)) (e refl) ∙ ap is_some here
      by_value j h false e f =
          let other : j ≢ k = λ g. absurd (let i = f g in cc) in let less : j < k = omega (arith, h, other) in
          ap is_some (others j other) ∙ least j less
