-- The maps behind the definitions, by the bytes of their keys.
use Rattle.std.specs.Prelude.{◌≡◌, ℕ, List, map, Option, Some, None, if◌then◌else◌, ◌==◌}
use Rattle.std.specs.Ordering.{nat_cmp}
use Rattle.std.specs.Cmp.Lexicographic.{slice_cmp}
use Rattle.std.specs.Map.{update}
use Rattle.std.specs.Str.{bytes_eq}
use Rattle.std.specs.String.{string_bytes, string_cmp}
use Rattle.std.specs.declared.string.String.{String}
use Rattle.std.specs.declared.alloc.Global.{Global}
use Rattle.std.specs.BTreeMap.{BTreeMap, IsOrdered, get, get_by_text, insert_entry}
use Rattle.std.specs.FinMap as fin
use Rattle.cf_presence.specs.Presence.{Clients, still}

-- a map by the bytes of its keys
abbrev pub by_text : {X : Type 0} → BTreeMap (String Global) X → fin.FinMap (slice_cmp nat_cmp) X
by_text m = fin.from_entries (map (λ e. (string_bytes e.0, e.1)) m.entries)

-- new has w at the bytes, and elsewhere what old has
abbrev pub SetsAt : {X : Type 0} → BTreeMap (String Global) X → BTreeMap (String Global) X → List ℕ → Option X
    → Type 0
SetsAt old new bs w = (q : List ℕ) → get_by_text new q ≡ update bytes_eq (get_by_text old) bs w q

-- new is old with v at a key of these bytes, which had `before`
pub record Puts {X : Type 0} (old new : BTreeMap (String Global) X) (bs : List ℕ) (v : X) (before : Option X)
    : Type 0 where
  pub key : String Global
  pub named : string_bytes key ≡ bs
  pub ordered : IsOrdered string_cmp old
  pub had : before ≡ get string_cmp old key
  pub entries : new.entries ≡ insert_entry string_cmp old.entries key v

-- the clients, if there are any
abbrev pub if_any : Clients → Option Clients
if_any m = if fin.len m == 0 then None else Some m

-- what a tick leaves in a channel
abbrev pub after_tick : ℕ → Option Clients → Option Clients
after_tick now None = None
after_tick now (Some m) = if_any (still now m)
