-- Epochs, as their characters.
use Rattle.std.specs.Prelude.{ℕ, ◌-◌, Bool, IsTrue, ◌&&◌, nat_le, if◌then◌else◌, List, [], ◌++◌, length, replicate}
use Rattle.std.specs.Char.{is_ascii_alphanumeric}
use Rattle.std.specs.List.{list_all}

-- at most 32 letters and digits; the empty epoch stands for none
abbrev pub is_epoch : List ℕ → Bool
is_epoch s = nat_le (length s) 32 && list_all is_ascii_alphanumeric s

abbrev pub IsEpoch : List ℕ → Type 0
IsEpoch s = IsTrue (is_epoch s)

-- the epoch that a text is read as: a text that is no epoch is read as the empty one
abbrev pub epoch_of : List ℕ → List ℕ
epoch_of s = if is_epoch s then s else []

-- the 32 bytes in which an epoch is kept
abbrev pub padded : List ℕ → List ℕ
padded s = s ++ replicate (32 - length s) 0
