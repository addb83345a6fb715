-- One session meets a call that may want memory, and its rows go with what ended.
use Rattle.std.proofs.Common.{◌≡◌, ◌≢◌, ℕ, Bool, Option, List, sym, ap, ◌∙◌, subst}
use Rattle.cf_subscribers.specs.Follows.{Follow}
use Rattle.cf_queue.specs.OutQueue.{Item}
use Rattle.cf_hub.specs.declared.fate.Fate.{Fate}
use Rattle.cf_hub.specs.Hub.{Node, InState, Meets, PingStep, Pings, attached_at, attached_in, counted, one_if}
use Rattle.cf_hub.specs.Places.{Places, numbered}
use Rattle.cf_hub.specs.Rows.{Agrees, off_after, rows_after, sub_in}
use Rattle.cf_hub.specs.Session.{Attached, shown_all}
use Rattle.cf_model.specs.Sessions.{SessionState, is_off}
use Rattle.cf_hub.specs.Turns.{gets_turn}
use Rattle.cf_hub.specs.WantOfMemory.{Both}
use Rattle.cf_hub.specs.Wordings.{Held}
use Rattle.cf_hub.proofs.Hubs.{seen, agrees_seen}
use Rattle.cf_hub.proofs.Walks.{agrees_by}

module _ (f : Fate) (c : List ℕ) (k : ℕ) (m n : Places) (rows : List Follow) (agrees : Agrees (attached_in m) rows)
    (others : (j : ℕ) → j ≢ k → attached_in n j ≡ attached_in m j)
    (offs : (d : List ℕ) → is_off (sub_in (attached_in n k) d)
    ≡ off_after f c d (is_off (sub_in (attached_in m k) d))) where
  pub met_agrees : (left : List Follow) → left ≡ rows_after f c k rows → Agrees (attached_in n) left
  met_agrees left gone =
      subst (λ (rs : List Follow). Agrees (attached_in n) rs) (sym gone)
      (agrees_by f c k (attached_in m) (attached_in n) rows agrees offs others)

  module _ (old new : Node) (was : old.sessions ≡ shown_all (numbered 0 m))
      (is : new.sessions ≡ shown_all (numbered 0 n)) (gone : new.rows ≡ rows_after f c k rows) where
    seen_both : (R : Attached → Attached → Type 0) → Both R (attached_in m k) (attached_in n k)
        → Both R (attached_at old k) (attached_at new k)
    seen_both R here =
        subst (λ (g : ℕ → Option Attached). Both R (g k) (attached_at new k)) (sym (seen old m was))
        (subst (λ (g : ℕ → Option Attached). Both R (attached_in m k) (g k)) (sym (seen new n is)) here)

    pub met_seen : (R : Bool → SessionState Held Item → SessionState Held Item → Type 0) (hit : Bool)
        → Both (InState (R hit)) (attached_in m k) (attached_in n k) → new.refused ≡ counted (one_if hit) old.refused
        → Meets k R old new
    met_seen R hit here count =
        record {
          hit = hit;
          here = seen_both (InState (R hit)) here;
          others = λ j h. ap (λ g. g j) (seen new n is) ∙ others j h ∙ ap (λ g. g j) (sym (seen old m was));
          count = count;
          agrees = agrees_seen new n is (met_agrees new.rows gone);
        }

    pub met_seen_at : (R : (ℕ → Option Attached) → Bool → SessionState Held Item → SessionState Held Item → Type 0)
        (hit : Bool) → Both (InState (R (attached_in m) hit)) (attached_in m k) (attached_in n k)
        → new.refused ≡ counted (one_if hit) old.refused → Meets k (R (attached_at old)) old new
    met_seen_at R hit here count =
        subst (λ (g : ℕ → Option Attached). Meets k (R g) old new) (sym (seen old m was))
        (met_seen (R (attached_in m)) hit here count)

    pub ping_seen : (now : ℕ) (hit : Bool) → Both (Pings hit now) (attached_in m k) (attached_in n k)
        → new.refused ≡ counted (one_if hit) old.refused → new.turns ≡ gets_turn k old.turns → PingStep now k old new
    ping_seen now hit here count turns =
        record {
          hit = hit;
          here = seen_both (Pings hit now) here;
          others = λ j h. ap (λ g. g j) (seen new n is) ∙ others j h ∙ ap (λ g. g j) (sym (seen old m was));
          count = count;
          turns = turns;
          agrees = agrees_seen new n is (met_agrees new.rows gone);
        }
