-- The ends of each number's list, as a map keeps them.
use Rattle.std.specs.Prelude.{◌≡◌, ℕ, ◌==◌, if◌then◌else◌, List, Option, Some, None, nat_eq}
use Rattle.std.specs.HashMap.{get, HashMap}
use Rattle.std.specs.declared.hash.FoldHasher.{FoldHasher}
use Rattle.std.specs.declared.hash.BuildHasherDefault.{BuildHasherDefault}
use Rattle.cf_subs.specs.declared.blocks.At.{At}
use Rattle.cf_subs.specs.declared.ends.ListEnds.{ListEnds}
use Rattle.cf_subs.specs.Held.{Held}
use Rattle.cf_subs.specs.Threads.{first_of, last_of, nowhere}

-- an `EndsByNumber`
abbrev pub EndsMap : Type 0
EndsMap = HashMap ℕ ListEnds (BuildHasherDefault FoldHasher)

-- a list of this first and this last block
abbrev pub ends : Option At → Option At → Option ListEnds
ends None o = None
ends (Some a) None = None
ends (Some a) (Some b) = Some (record { first = a; last = b })

-- the ends of the list of the number k
abbrev pub ends_of : {T : Type 0} → (T → ℕ) → ℕ → List (Held T) → Option ListEnds
ends_of key k hs = ends (first_of key k hs) (last_of key nowhere hs k)

-- a block is linked in behind all others
abbrev pub grown : Option ListEnds → At → ListEnds
grown None a = record { first = a; last = a }
grown (Some e) a = record e { last = a }

-- a block is unlinked that lay between these
abbrev pub shrunk : Option ListEnds → Option At → Option At → Option ListEnds
shrunk None before after = None
shrunk (Some e) None None = None
shrunk (Some e) None (Some a) = Some (record e { first = a })
shrunk (Some e) (Some b) None = Some (record e { last = b })
shrunk (Some e) (Some b) (Some a) = Some e

-- one map has these ends of the number k, and of each other number what the other map has
abbrev pub SetsAt : EndsMap → EndsMap → ℕ → Option ListEnds → Type 0
SetsAt m w k e = (j : ℕ) → get nat_eq w j ≡ (if k == j then e else get nat_eq m j)

-- a map has the ends of each number's list, and no others
abbrev pub IsHeaded : {T : Type 0} → (T → ℕ) → EndsMap → List (Held T) → Type 0
IsHeaded key m hs = (k : ℕ) → get nat_eq m k ≡ ends_of key k hs
