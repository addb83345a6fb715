-- The texts that set up namespaces and tokens. (This project's own format.)
use Rattle.std.specs.Prelude.{◌≡◌, ◌≢◌, ℕ, Bool, ◌||◌, ◌&&◌, ◌==◌, nat_le, if◌then◌else◌, IsTrue, List, [], ◌++◌, map}
use Rattle.std.specs.Prelude.{length, codes, ⊤, Result, Ok, Err}
use Rattle.std.specs.Char.{is_ascii_alphanumeric}
use Rattle.std.specs.List.{AllZip, AllPairs, list_all, join_with_byte}
use Rattle.std.specs.List.Sorted.{IsPermutation}
use Rattle.std.specs.Fmt.{decimal}
use Rattle.cf_protocol.specs.Settings.{NamespaceTable, TokenTable, IsUsable}
use Rattle.cf_protocol.specs.declared.settings.Settings.{Settings}
use Rattle.cf_protocol.specs.declared.fault.ReadFault.{ReadFault}
use Rattle.cf_protocol.specs.declared.fault.ReadFault.TheVariants.{Bad, Memory}

-- ---- words

-- a letter, a digit, a minus sign or an underscore
abbrev pub is_word_byte : ℕ → Bool
is_word_byte b = is_ascii_alphanumeric b || (b == 45 || b == 95)

-- a word of at most so many of them
abbrev pub is_word : ℕ → List ℕ → Bool
is_word most s = nat_le (length s) most && list_all is_word_byte s

abbrev pub IsWord : ℕ → List ℕ → Type 0
IsWord most s = IsTrue (is_word most s)

-- ---- tables

-- A table is spelled by entries separated by semicolons, in its order. No name stands in it twice.
pub record IsTable {V : Type 0} (IsEntry : List ℕ → List ℕ × V → Type 0) (text : List ℕ)
    (table : List (List ℕ × V)) : Type 0 where
  pub entries : List (List ℕ)
  pub whole : text ≡ join_with_byte 59 entries
  pub each : AllZip IsEntry entries table
  pub apart : AllPairs ◌≢◌ (map (λ e. e.0) table)

-- ---- namespaces

-- the letters of what is allowed: to publish, to ask for the history, to ask who is there
abbrev pub letters_of : Settings → List ℕ
letters_of s =
    (if s.publish then codes "p" else []) ++ (if s.history then codes "h" else [])
    ++ (if s.presence then codes "s" else [])

-- SIZE,SECONDS,FLAGS, if the flags are these letters in any order. A number is written without leading zeros.
abbrev pub IsSettings : List ℕ → Settings → Type 0
IsSettings text s =
    IsUsable s
    × (flags : List ℕ)
    × IsPermutation (letters_of s) flags
    × (text ≡ decimal s.size ++ codes "," ++ decimal s.seconds ++ codes "," ++ flags)

-- NAME=SETTINGS, if the name may be empty
abbrev pub IsNamespace : List ℕ → List ℕ × Settings → Type 0
IsNamespace text e =
    IsWord 32 e.0 × (settings : List ℕ) × IsSettings settings e.1 × (text ≡ e.0 ++ codes "=" ++ settings)

-- the text sets up this table of namespaces, of which there is at least one
abbrev pub IsNamespaces : List ℕ → NamespaceTable → Type 0
IsNamespaces text table = IsTable IsNamespace text table × (table ≢ [])

-- ---- tokens

-- a word of 1 to 64 characters
abbrev pub is_name : List ℕ → Bool
is_name s = nat_le 1 (length s) && is_word 64 s

abbrev pub IsName : List ℕ → Type 0
IsName s = IsTrue (is_name s)

-- TOKEN=USER
abbrev pub IsToken : List ℕ → List ℕ × List ℕ → Type 0
IsToken text e = IsName e.0 × IsName e.1 × (text ≡ e.0 ++ codes "=" ++ e.1)

-- the text sets up this table of tokens; the empty text sets up none
abbrev pub IsTokens : List ℕ → TokenTable → Type 0
IsTokens text table = IsTable IsToken text table

-- ---- answers

-- x was read, unless memory was refused
abbrev pub IsReadAs : {A : Type 0} → A → Result A ReadFault → Type 0
IsReadAs x (Ok y) = y ≡ x
IsReadAs x (Err Bad) = ⊥
IsReadAs x (Err Memory) = ⊤
