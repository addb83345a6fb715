-- How many clients of a channel each user has, as the map beside them keeps it.
use Rattle.std.specs.Prelude.{◌≡◌, ℕ, ◌==◌, List, Option, Some, None, if◌then◌else◌, sum_by}
use Rattle.std.specs.Str.{bytes_eq}
use Rattle.std.specs.Map.{values_of}
use Rattle.std.specs.declared.string.String.{String}
use Rattle.std.specs.declared.alloc.Global.{Global}
use Rattle.std.specs.BTreeMap.{BTreeMap, get_by_text}
use Rattle.cf_presence.specs.Presence.{Seen}

-- one for a client of this user
abbrev pub one_of : (user : List ℕ) → Seen → ℕ
one_of u s = if bytes_eq s.user u then 1 else 0

-- how many of these clients are of this user
abbrev pub clients_with : (user : List ℕ) → List Seen → ℕ
clients_with u ss = sum_by (one_of u) ss

-- a count, which is left out if it is none
abbrev pub counted : ℕ → Option ℕ
counted n = if n == 0 then None else Some n

-- the map has these counts
abbrev pub Tallies : BTreeMap (String Global) ℕ → (List ℕ → ℕ) → Type 0
Tallies m counts = (u : List ℕ) → get_by_text m u ≡ counted (counts u)

-- the map has the counts of these clients
abbrev pub CountsUsers : BTreeMap (String Global) ℕ → BTreeMap (String Global) Seen → Type 0
CountsUsers m clients = Tallies m (λ u. clients_with u (values_of clients.entries))
