-- The words of a schedule's lines (this project's own profile).
use Rattle.std.specs.Prelude.{ℕ, Bool, IsTrue, ◌&&◌, ◌||◌, nat_le, nat_eq, List, length}
use Rattle.std.specs.Char.{is_ascii_alphanumeric, is_ascii_graphic}
use Rattle.std.specs.List.{list_all}

-- a letter, a digit, a minus sign or an underscore
abbrev pub is_name_byte : ℕ → Bool
is_name_byte b = is_ascii_alphanumeric b || (nat_eq b 45 || nat_eq b 95)

-- a client's name: 1 to 32 letters, digits, minus signs or underscores
abbrev pub is_client_name : List ℕ → Bool
is_client_name s = (nat_le 1 (length s) && nat_le (length s) 32) && list_all is_name_byte s

abbrev pub IsClientName : List ℕ → Type 0
IsClientName s = IsTrue (is_client_name s)

-- a channel's name: 1 to 255 visible characters
abbrev pub is_channel_name : List ℕ → Bool
is_channel_name s = (nat_le 1 (length s) && nat_le (length s) 255) && list_all is_ascii_graphic s

abbrev pub IsChannelName : List ℕ → Type 0
IsChannelName s = IsTrue (is_channel_name s)

-- a publish's key: 1 to 64 visible characters
abbrev pub is_key : List ℕ → Bool
is_key s = (nat_le 1 (length s) && nat_le (length s) 64) && list_all is_ascii_graphic s

abbrev pub IsKey : List ℕ → Type 0
IsKey s = IsTrue (is_key s)

-- a namespace's name: at most 32 letters, digits, minus signs or underscores
abbrev pub is_namespace_name : List ℕ → Bool
is_namespace_name s = nat_le (length s) 32 && list_all is_name_byte s

abbrev pub IsNamespaceName : List ℕ → Type 0
IsNamespaceName s = IsTrue (is_namespace_name s)
