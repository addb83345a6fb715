-- Tables by name. A name, of a client or of a channel, is its bytes.
use Rattle.std.specs.Prelude.{ℕ, ◌||◌, Bool, false, if◌then◌else◌, List, [], ◌∷◌}
use Rattle.std.specs.Str.{bytes_eq}

-- a table with one name's value changed
abbrev pub with : {A : Type 0} → (List ℕ → A) → List ℕ → A → List ℕ → A
with f k v j = if bytes_eq j k then v else f j

-- whether a name is among these
abbrev pub is_among : List ℕ → List (List ℕ) → Bool
is_among k [] = false
is_among k (n ∷ ns) = bytes_eq n k || is_among k ns

-- these and one more, unless it is there
abbrev pub and_also : List ℕ → List (List ℕ) → List (List ℕ)
and_also k ns = if is_among k ns then ns else k ∷ ns
