-- Where a channel's stream stands in a map, and a use of it.
use Rattle.std.proofs.Common.{◌≡◌, ◌≢◌, ℕ, List, Bool, Option, true, false, cond, Some, None, refl, sym, ap, ◌∙◌, subst}
use Rattle.std.proofs.Common.{BTreeMap, String, Global}
use Rattle.std.specs.Prelude.{Result, IfOk, OnErr, OnOk, IsSomeAnd, ◌↔◌}
use Rattle.std.specs.BTreeMap.{get_by_text}
use Rattle.std.specs.Option.{option_map}
use Rattle.std.specs.Str.{bytes_eq}
use Rattle.std.proofs.lemmas.Result.{IfOk-weaker, on_err_weaker}
use Rattle.std.proofs.lemmas.Slice.Eq.{bytes_eq-Decides}
use Rattle.cf_stream.specs.Stream.{Shown, used_at}
use Rattle.cf_stream.specs.Streams.{SetsAt, IsOfAnother, stood_or}
use Rattle.cf_protocol.specs.declared.position.Position.{Position}

-- a map with the stream at a channel that it had there
pub set_same : (m n : BTreeMap (String Global) Shown) (c : List ℕ) (s s' : Shown) → get_by_text m c ≡ Some s
    → SetsAt m n c (Some s') → s' ≡ s → (q : List ℕ) → get_by_text n q ≡ get_by_text m q
set_same m n c s s' at sets is q =
    let cases : (b : Bool) → bytes_eq c q ≡ b → cond b (Some s') (get_by_text m q) ≡ get_by_text m q =
    λ b. elim b as (λ b. bytes_eq c q ≡ b → cond b (Some s') (get_by_text m q) ≡ get_by_text m q) [
      | true ↦ λ e. ap Some is ∙ (sym at ∙ ap (get_by_text m) ((bytes_eq-Decides c q).0 e))
      | false ↦ λ e. refl
    ] in
    sets q ∙ cases (bytes_eq c q) refl

-- a map in which the stream that was put at a channel was changed there
pub set_changed : (m n k : BTreeMap (String Global) Shown) (c : List ℕ) (s : Shown) (f : Shown → Shown)
    → SetsAt m n c (Some s) → SetsAt n k c (option_map f (get_by_text n c)) → SetsAt m k c (Some (f s))
set_changed m n k c s f put changed q =
    let at : get_by_text n c ≡ Some s =
    put c ∙ ap (λ b. cond b (Some s) (get_by_text m c)) ((bytes_eq-Decides c c).1 refl) in
    let cases : (b : Bool) → bytes_eq c q ≡ b → cond b (Some (f s)) (get_by_text n q)
    ≡ cond b (Some (f s)) (get_by_text m q) =
    λ b. elim b as (λ b. bytes_eq c q ≡ b → cond b (Some (f s)) (get_by_text n q)
    ≡ cond b (Some (f s)) (get_by_text m q)) [
      | true ↦ λ e. refl
      | false ↦ λ e. put q ∙ ap (λ b. cond b (Some s) (get_by_text m q)) e
    ] in
    changed q ∙ ap (λ o. cond (bytes_eq c q) (option_map f o) (get_by_text n q)) at ∙ cases (bytes_eq c q) refl

-- a map from which the stream that was put at a channel was taken again
pub set_undone : (m n k : BTreeMap (String Global) Shown) (c : List ℕ) (s : Shown) → get_by_text m c ≡ None
    → SetsAt m n c (Some s) → SetsAt n k c None → (q : List ℕ) → get_by_text k q ≡ get_by_text m q
set_undone m n k c s none put taken q =
    let cases : (b : Bool) → bytes_eq c q ≡ b → cond b None (get_by_text n q) ≡ get_by_text m q =
    λ b. elim b as (λ b. bytes_eq c q ≡ b → cond b None (get_by_text n q) ≡ get_by_text m q) [
      | true ↦ λ e. sym none ∙ ap (get_by_text m) ((bytes_eq-Decides c q).0 e)
      | false ↦ λ e. put q ∙ ap (λ b. cond b (Some s) (get_by_text m q)) e
    ] in
    taken q ∙ cases (bytes_eq c q) refl

-- a position of another epoch than that of the stream that stood
pub another_stood : (s : Shown) (since : Option Position) (A : Type 0) → (A ↔ IsSomeAnd since (λ p. p.epoch ≢ s.epoch))
    → (A ↔ IsOfAnother (Some s) since)
another_stood s None A h = h
another_stood s (Some p) A h = h

module _ {X E : Type 0} (m n : BTreeMap (String Global) Shown) (c : List ℕ) (s s' : Shown)
    (at : get_by_text m c ≡ Some s) (sets : SetsAt m n c (Some s')) (r : Result X E) where
  -- a use of the stream that stood
  pub used_stood : (epoch : X → List ℕ) (size now : ℕ) → OnOk r (s' ≡ used_at s now)
      → IfOk r (λ x. SetsAt m n c (Some (used_at (stood_or (get_by_text m c) (epoch x) size) now)))
  used_stood epoch size now makes =
      IfOk-weaker r (λ x. s' ≡ used_at s now) _
      (λ x is. subst (λ o. SetsAt m n c (Some (used_at (stood_or o (epoch x) size) now))) (sym at)
      (subst (λ (y : Shown). SetsAt m n c (Some y)) is sets)) makes

  -- a refused one
  pub kept_stood : OnErr r (s' ≡ s) → OnErr r ((q : List ℕ) → get_by_text n q ≡ get_by_text m q)
  kept_stood err = on_err_weaker r (λ same. set_same m n c s s' at sets same) err
