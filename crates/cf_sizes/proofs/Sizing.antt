-- One shard after another gets the size.
use Rattle.std.proofs.Common.{◌≡◌, ℕ, zero, suc, ◌+◌, ◌<◌, ◌≤◌, Bool, true, false, List, [], ◌∷◌, refl, sym, ap, ◌∙◌}
use Rattle.std.proofs.Common.{subst, arith, ◌⊎◌, ⊎_elim, inl, inr}
use Rattle.std.specs.Prelude.{◌&&◌, MatchBool, slice_set, ◌≢◌, Result, Ok, Err, OnOk, IfErr, is_ok}
use Rattle.std.proofs.lemmas.List.{get_or-set_other}
use mathlib.Core.Logic.{dite}
use native.Mathlib.Decide.{dec_le}
use Rattle.cf_shard.specs.Shards.{pass_at}
use Rattle.cf_sizes.specs.Sizes.{AreSized, HasFull, IsFullFor}
use Rattle.cf_order.specs.Passes.{PassState, first_pass}
use Rattle.cf_shard.specs.LogAnswer.{IsSized, RefusesSize}
use Rattle.cf_shard.specs.declared.refusal.Refused.{Refused}
use Rattle.cf_shard.specs.Naming.{no_word}

-- the first shards have got the size where all took it, and the others are as they were
pub record IsUpTo (old new : List PassState) (name : List ℕ) (n upto : ℕ) (all : Bool) : Type 0 where
  pub sized : all ≡ true → (i : ℕ) → i < upto → IsSized (pass_at old i).log (pass_at new i).log name n
  pub full : all ≡ false → (i : ℕ) × (i < upto) × IsFullFor (pass_at new i) name n
  pub rest : (i : ℕ) → upto ≤ i → pass_at new i ≡ pass_at old i

pub up_to_none : (old : List PassState) (name : List ℕ) (n : ℕ) → IsUpTo old old name n 0 true
up_to_none old name n =
    record { sized = λ e i lt. absurd (omega (arith, lt)); full = λ e. absurd (cc); rest = λ i le. refl }

-- the other shards' passes stay
others : (old new : List PassState) (i j : ℕ) → new ≡ slice_set old i (pass_at new i) → j ≢ i
    → pass_at new j ≡ pass_at old j
others old new i j is other =
    ap (λ ps. pass_at ps j) is ∙ get_or-set_other old i j (pass_at new i) (first_pass no_word) other

below : (i n : ℕ) → i < n + 1 → (i < n) ⊎ (i ≡ n)
below i n lt = dite (dec_le (i + 1) n) (λ h. inl (omega arith)) (λ h. inr (omega arith))

-- a pass that was put where another one had been put
pub put_over : (old mid new : List PassState) (i : ℕ) (lent p : PassState) → mid ≡ slice_set old i lent
    → new ≡ slice_set mid i p → pass_at new i ≡ p → new ≡ slice_set old i (pass_at new i)
put_over old mid new i lent p is to at =
    to ∙ ap (λ ps. slice_set ps i p) is ∙ set_set old i lent p ∙ ap (slice_set old i) (sym at)
  where
    set_set : (ps : List PassState) (i : ℕ) (a b : PassState) → slice_set (slice_set ps i a) i b ≡ slice_set ps i b
    set_set [] i a b = refl
    set_set (p ∷ ps) zero a b = refl
    set_set (p ∷ ps) (suc i) a b = ap (λ qs. p ∷ qs) (set_set ps i a b)

-- a shard that took the size, or has no room for its entry
pub took : (name : List ℕ) (n : ℕ) (before given left after : PassState) (b : Bool) (r : Result (Unit {0}) Refused)
    → given ≡ before → after ≡ left → b ≡ is_ok r
    → OnOk r (IsSized given.log left.log name n) → IfErr r (RefusesSize left.log name n)
    → MatchBool b (IsSized before.log after.log name n) (IsFullFor after name n)
took name n before given left after b r is at ok done refused =
    subst (λ (b : Bool). MatchBool b (IsSized before.log after.log name n) (IsFullFor after name n)) (sym ok)
    (subst (λ (x : PassState). MatchBool (is_ok r) (IsSized x.log after.log name n) (IsFullFor after name n)) is
    (subst (λ (x : PassState). MatchBool (is_ok r) (IsSized given.log x.log name n) (IsFullFor x name n)) (sym at)
    (plain r done refused)))
  where
    plain : (r : Result (Unit {0}) Refused) → OnOk r (IsSized given.log left.log name n)
        → IfErr r (RefusesSize left.log name n)
        → MatchBool (is_ok r) (IsSized given.log left.log name n) (IsFullFor left name n)
    plain (Ok x) done refused = done
    plain (Err e) done refused = refused.1

-- where one more shard was asked
module _ (old mid new : List PassState) (name : List ℕ) (n i : ℕ) (is : new ≡ slice_set mid i (pass_at new i)) where
  stays : (j : ℕ) → j < i → pass_at new j ≡ pass_at mid j
  stays j lt = others mid new i j is (λ e. omega (arith, lt, e))

  more-sized : (all taken : Bool) → IsUpTo old mid name n i all
      → MatchBool taken (IsSized (pass_at mid i).log (pass_at new i).log name n) (IsFullFor (pass_at new i) name n)
      → (all && taken) ≡ true → (j : ℕ) → j < i + 1 → IsSized (pass_at old j).log (pass_at new j).log name n
  more-sized false taken was took e j lt = absurd (cc)
  more-sized true false was took e j lt = absurd (cc)
  more-sized true true was took e j lt =
      ⊎_elim (λ (lt : j < i). subst (λ (p : PassState). IsSized (pass_at old j).log p.log name n) (sym (stays j lt))
      (was.sized refl j lt))
      (λ (same : j ≡ i).
      subst (λ (k : ℕ). IsSized (pass_at old k).log (pass_at new k).log name n) (sym same)
      (subst (λ (p : PassState). IsSized p.log (pass_at new i).log name n) (was.rest i (omega arith)) took))
      (below j i lt)

  more-full : (all taken : Bool) → IsUpTo old mid name n i all
      → MatchBool taken (IsSized (pass_at mid i).log (pass_at new i).log name n) (IsFullFor (pass_at new i) name n)
      → (all && taken) ≡ false → (j : ℕ) × (j < i + 1) × IsFullFor (pass_at new j) name n
  more-full false taken was took e =
      let found = was.full refl in (
        found.0,
        omega (arith, found.1),
        subst (λ (p : PassState). IsFullFor p name n) (sym (stays found.0 found.1)) found.2,
      )
  more-full true false was took e = (i, omega arith, took)
  more-full true true was took e = absurd (cc)

  pub up_to_more : (all taken : Bool) → IsUpTo old mid name n i all
      → MatchBool taken (IsSized (pass_at mid i).log (pass_at new i).log name n) (IsFullFor (pass_at new i) name n)
      → IsUpTo old new name n (i + 1) (all && taken)
  up_to_more all taken was took = record {
    sized = more-sized all taken was took;
    full = more-full all taken was took;
    rest = λ j le. others mid new i j is (λ e. omega (arith, le, e)) ∙ was.rest j (omega (arith, le));
  }

pub up_to_all : (old new : List PassState) (name : List ℕ) (n i : ℕ) (all : Bool) → i ≡ 16 → IsUpTo old new name n i all
    → MatchBool all (AreSized old new name n) (HasFull new name n)
up_to_all old new name n i true at was = λ j lt. was.sized refl j (omega (arith, lt, at))
up_to_all old new name n i false at was = let found = was.full refl in
    record { shard = found.0; within = omega (arith, found.1, at); full = found.2 }
