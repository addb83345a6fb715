-- Sessions have their turns, one after another.
use mathlib.Core.Bool.{cond}
use Rattle.std.proofs.Common.{◌≡◌, ◌≤◌, ◌==◌, ℕ, ◌+◌, Bool, true, false, if◌then◌else◌, Some, List, [], ◌∷◌, refl, sym}
use Rattle.std.proofs.Common.{ap, subst, ◌∙◌, arith}
use Rattle.std.proofs.lemmas.List.Sums.{sum_by-cons}
use Rattle.cf_hub.specs.Hub.{Node, attached_at, is_waiting, waits_in}
use Rattle.cf_hub.specs.Turns.{first_turn, turns_left}
use Rattle.cf_queue.specs.declared.queue.Out.{Out}
use Rattle.cf_dispatch.specs.Batch.{Names, TakesAt, TakesFor, times}

cons_times : (j k : ℕ) (ks : List ℕ) → times j (k ∷ ks) ≡ cond (k == j) 1 0 + times j ks
cons_times j k ks = sum_by-cons (λ (i : ℕ). cond (i == j) 1 0) k ks

-- who is named stands in the list once more than in what is left of it
left_times : (p : ℕ → Bool) (ks : List ℕ) (k j : ℕ) → first_turn p ks ≡ Some k
    → times j (k ∷ []) + times j (turns_left p ks) ≤ times j ks
left_times p [] k j e = absurd (cc)
left_times p (i ∷ ks) k j e = by_value (p i) (left_times p ks k j) e
  where
    by_value : (t : Bool) → (first_turn p ks ≡ Some k → times j (k ∷ []) + times j (turns_left p ks) ≤ times j ks)
        → (if t then Some i else first_turn p ks) ≡ Some k
        → times j (k ∷ []) + times j (if t then ks else turns_left p ks) ≤ times j (i ∷ ks)
    by_value true rest f =
        let same : i ≡ k = cc in
        subst (λ (n : ℕ). times j (n ∷ []) + times j ks ≤ times j (i ∷ ks)) same
        (omega (arith, cons_times j i ks, cons_times j i []))
    by_value false rest f =
        let left = rest f in
        omega (arith, left, cons_times j i ks)

module _ {S : Type 0} (gets : S → ℕ → List Out → List Out → S → Type 0) where
  pub begins : (h : Node) (p : S) → TakesFor gets 0 h h p p
  begins h p = record { sessions = []; counted = refl; turns = (refl, refl); once = λ k. omega arith }

  -- one more has its turn
  pub goes_on : (n k : ℕ) (old m named new : Node) (p s q : S) → TakesFor gets n old m p s
      → Names (Some k) m named → TakesAt gets k named new s q → TakesFor gets (n + 1) old new p q
  goes_on n k old m named new p s q t named_k at = record {
    sessions = k ∷ t.sessions;
    counted = omega (arith, t.counted);
    turns = (m, named, s, t.turns, named_k, at);
    once = λ j. counts j;
  }
    where
      counts : (j : ℕ) → times j (k ∷ t.sessions) + times j new.turns.numbers ≤ times j old.turns.numbers
      counts j =
          let left = left_times (λ (i : ℕ). is_waiting (waits_in (attached_at m i))) m.turns.numbers k j
          (sym named_k.turn.first) in
          let same : times j new.turns.numbers ≡ times j
          (turns_left (λ (i : ℕ). is_waiting (waits_in (attached_at m i))) m.turns.numbers) =
          ap (λ t. times j t.numbers) at.taking.turns ∙ ap (times j) named_k.turn.left in
          omega (arith, left, same, t.once j, cons_times j k t.sessions, cons_times j k [])
