-- The head of a request on a stream: all up to its first blank line. (RFC 9112, 2.1; the limit is this project's own
-- profile.)
use Rattle.std.specs.Prelude.{◌≡◌, ◌≤◌, ◌<◌, ℕ, ◌+◌, ◌-◌, Bool, true, false, ◌&&◌, nat_le, List, length, codes}
use Rattle.std.specs.Prelude.{bytes_eq, slice_range, Option, None, Some}
use Rattle.std.specs.Io.KnownBytes.{Consumes}

-- a head has at most so many bytes
abbrev pub longest_head : ℕ
longest_head = 16384

-- a blank line ends at this place
abbrev pub ends_head : List ℕ → ℕ → Bool
ends_head bytes end = nat_le 4 end && bytes_eq (slice_range bytes (end - 4) end) (codes "\r\n\r\n")

-- no blank line ends before this place
abbrev pub HasNoEnd : List ℕ → ℕ → Type 0
HasNoEnd bytes n = (k : ℕ) → k < n → ends_head bytes k ≡ false

-- the first blank line ends at this place
pub record IsHeadEnd (bytes : List ℕ) (end : ℕ) : Type 0 where
  pub within : end ≤ length bytes
  pub ends : ends_head bytes end ≡ true
  pub first : HasNoEnd bytes end

-- the head ends there; or it is longer than it may be
abbrev pub IsHead : List ℕ → Option ℕ → Type 0
IsHead bytes (Some end) = IsHeadEnd bytes end × (end ≤ longest_head)
IsHead bytes None = HasNoEnd bytes (longest_head + 1)

-- these bytes were read from a stream, whose head ends there
abbrev pub Comes : {S : Type 0} → (S → Option (List ℕ)) → S → S → List ℕ → Option ℕ → Type 0
Comes remaining old new bytes end = Consumes (remaining old) (remaining new) bytes × IsHead bytes end
