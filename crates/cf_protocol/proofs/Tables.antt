-- What stands in a table.
use Rattle.std.proofs.Common.{arith, ◌≡◌, ℕ, true, false, cond, List, [], ◌∷◌, length, map, Option, Some, None}
use Rattle.std.proofs.Common.{option_map, IfSome, refl, sym, ap, ◌∙◌, ◌==◌, String, Global}
use Rattle.std.specs.List.{All}
use Rattle.std.specs.Str.{bytes_eq}
use Rattle.std.specs.String.{string_bytes}
use Rattle.std.proofs.lemmas.List.Elements.{All-head, All-tail}
use Rattle.std.proofs.lemmas.Bool.{eqb-true}
use Rattle.cf_protocol.specs.Settings.{entry_at, named, in_bytes, user_of, TokenTable}

-- what every value has, the one under a name has
pub entry_at-All : {V : Type 0} (P : V → Type 0) (t : List (List ℕ × V)) (k : List ℕ) → All (λ e. P e.1) t
    → IfSome (entry_at t k) P
entry_at-All P [] k a = tt
entry_at-All P (e ∷ t) k a =
    elim (bytes_eq e.0 k) as (λ b. IfSome (cond b (Some e.1) (entry_at t k)) P) [
      | true ↦ All-head (λ e. P e.1) e t a
      | false ↦ entry_at-All P t k (All-tail (λ e. P e.1) e t a)
    ]

-- a table with a function of its values
pub entry_at-map : {K V W : Type 0} (name : K → List ℕ) (f : V → W) (t : List (K × V)) (k : List ℕ)
    → entry_at (map (λ e. (name e.0, f e.1)) t) k ≡ option_map f (entry_at (map (λ e. (name e.0, e.1)) t) k)
entry_at-map name f [] k = refl
entry_at-map name f (e ∷ t) k =
    elim (bytes_eq (name e.0) k) as (λ b. cond b (Some (f e.1)) (entry_at (map (λ e. (name e.0, f e.1)) t) k)
    ≡ option_map f (cond b (Some e.1) (entry_at (map (λ e. (name e.0, e.1)) t) k))) [
      | true ↦ refl
      | false ↦ entry_at-map name f t k
    ]

unmapped : {V W : Type 0} (f : V → W) (o : Option V) → option_map f o ≡ None → o ≡ None
unmapped f None h = refl
unmapped f (Some x) h = absurd (cc)

-- a token stands with its user's bytes where it stands with its user
pub absent_in_bytes : (es : List (String Global × String Global)) (k : List ℕ) → entry_at (named es) k ≡ None
    → entry_at (in_bytes es) k ≡ None
absent_in_bytes es k h = entry_at-map string_bytes string_bytes es k ∙ ap (option_map string_bytes) h

pub absent_named : (es : List (String Global × String Global)) (k : List ℕ) → entry_at (in_bytes es) k ≡ None
    → entry_at (named es) k ≡ None
absent_named es k h =
    unmapped string_bytes (entry_at (named es) k) (sym (entry_at-map string_bytes string_bytes es k) ∙ h)

-- a token that isn't empty is looked up
pub user_of-looked_up : (t : TokenTable) (k : List ℕ) → (length k == 0) ≡ false → user_of t k ≡ entry_at t k
user_of-looked_up t [] h = cc
user_of-looked_up t (b ∷ bs) h = refl

-- the empty one connects the empty user
pub user_of-empty : (t : TokenTable) (k : List ℕ) → (length k == 0) ≡ true → user_of t k ≡ Some []
user_of-empty t [] h = refl
user_of-empty t (b ∷ bs) h = absurd (omega (arith, eqb-true (length (b ∷ bs)) 0 h))
