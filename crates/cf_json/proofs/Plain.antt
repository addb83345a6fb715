-- A string without a backslash is spelled as its characters.
use Rattle.std.proofs.Common.{◌≡◌, ℕ, List, [], ◌∷◌, Bool, true, false, ◌==◌, ◌||◌, Some, refl, ap}
use Rattle.std.specs.List.{list_any}
use Rattle.cf_json.specs.Characters.{pieces, joined, before, characters}

plain_step : (x : ℕ) (c : List ℕ) (b : Bool) → (x == 92) ≡ b → (b || list_any (λ y. y == 92) c) ≡ false
    → (list_any (λ y. y == 92) c ≡ false → characters c ≡ Some c) → characters (x ∷ c) ≡ Some (x ∷ c)
unfolding pieces joined
plain_step x c true h e more = absurd cc
plain_step x c false h e more = rw h (ap (before (x ∷ [])) (more e))

pub plain_characters : (c : List ℕ) → list_any (λ y. y == 92) c ≡ false → characters c ≡ Some c
unfolding pieces joined
plain_characters [] e = refl
plain_characters (x ∷ c) e = plain_step x c (x == 92) refl e (λ more. plain_characters c more)
