-- How what is kept is stored. No public contract names it.
use Rattle.std.specs.Prelude.{◌≡◌, ℕ, zero, suc, ◌==◌, ◌&&◌, Bool, false, List, [], ◌∷◌, length, reverse}
use Rattle.std.specs.Str.{bytes_eq}
use Rattle.cf_protocol.specs.Datum.{Placed}
use Rattle.cf_model.specs.Recovery.{highest}
use Rattle.cf_recovery.specs.ArrivalBuffer.{Arrival, arrival, places, ArrivalBuffer, IsWithin}

-- publications and, beside them, their epochs, in order of arrival
abbrev pub stored : List (List ℕ) → List Placed → List Arrival
stored [] ps = []
stored (e ∷ es) [] = []
stored (e ∷ es) (p ∷ ps) = arrival e p ∷ stored es ps

abbrev pub kept_of : List (List ℕ) → List Placed → Bool → Bool → ArrivalBuffer
kept_of es ps overflow short = record { arrived = reverse (stored es ps); overflow = overflow; short = short }

-- as many epochs as publications, the highest of their offsets, and what always holds of what is kept
pub record IsStored (es : List (List ℕ)) (ps : List Placed) (top : ℕ) (overflow short : Bool) : Type 0 where
  pub beside : length es ≡ length ps
  pub highest_is : top ≡ highest (places (reverse (stored es ps)))
  pub within : IsWithin (kept_of es ps overflow short)

-- whether the i-th is the one of this place
abbrev pub is_at : List Arrival → List ℕ → ℕ → ℕ → Bool
is_at [] e o i = false
is_at (a ∷ rest) e o zero = bytes_eq a.at.epoch e && (a.at.offset == o)
is_at (a ∷ rest) e o (suc i) = is_at rest e o i
