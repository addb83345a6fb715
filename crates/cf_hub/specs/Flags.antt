-- How turns are kept: the numbers in order, and by number a flag whether it is among them.
use Rattle.std.specs.Prelude.{◌≡◌, ◌≤◌, ℕ, suc, Bool, false, if◌then◌else◌, List, [], ◌∷◌, length, get_or}
use Rattle.cf_hub.specs.Counts.{AreNumbersOnce}
use Rattle.cf_hub.specs.Turns.{is_in}

abbrev pub is_flagged : List Bool → ℕ → Bool
is_flagged flags k = get_or flags k false

abbrev pub flags_count : List Bool → ℕ
flags_count [] = 0
flags_count (m ∷ ms) = if m then suc (flags_count ms) else flags_count ms

-- the flags are those of the numbers, of which each is there once, and there is room for the numbers of all flags
pub record AreFlagged (numbers : List ℕ) (flags : List Bool) (capacity : ℕ) : Type 0 where
  pub flagged : (k : ℕ) → is_in k numbers ≡ is_flagged flags k
  pub once : AreNumbersOnce numbers
  pub count : length numbers ≡ flags_count flags
  pub room : length flags ≤ capacity
