-- The channels' names, each under a number of its own, and the rows by their channels' names.
use Rattle.std.specs.Prelude.{◌≡◌, ℕ, ◌==◌, if◌then◌else◌, Option, Some, None, List, [], map, option_map, unwrap_or}
use Rattle.std.specs.Prelude.{is_some, string_bytes}
use Rattle.std.specs.BTreeMap.{get_by_text}
use Rattle.slab.specs.Slab.{get}
use Rattle.cf_subs.specs.declared.table.Row.{Row}
use Rattle.cf_subs.specs.Rows.{has_channel}
use Rattle.cf_subscribers.specs.Follows.{AreFollows, Follow, follow}
use Rattle.cf_subscribers.specs.declared.names.Names.{Names}

-- the name that has the number n
abbrev pub name_at : Names → ℕ → Option (List ℕ)
name_at ns n = option_map string_bytes (get ns.names n)

-- the number that the name c has
abbrev pub number_at : Names → List ℕ → Option ℕ
number_at ns c = get_by_text ns.numbers c

abbrev pub HasNone : Names → Type 0
HasNone ns = (n : ℕ) → name_at ns n ≡ None

-- a name has a number exactly if that number has the name
pub record Inverts (number : List ℕ → Option ℕ) (name : ℕ → Option (List ℕ)) : Type 0 where
  pub there : (c : List ℕ) (n : ℕ) → number c ≡ Some n → name n ≡ Some c
  pub back : (c : List ℕ) (n : ℕ) → name n ≡ Some c → number c ≡ Some n

abbrev pub AreNumbered : Names → Type 0
AreNumbered ns = Inverts (number_at ns) (name_at ns)

-- new has w at the number n, and elsewhere what old has
abbrev pub SetsName : Names → Names → ℕ → Option (List ℕ) → Type 0
SetsName old new n w = (m : ℕ) → name_at new m ≡ (if m == n then w else name_at old m)

abbrev pub SameNames : Names → Names → Type 0
SameNames old new = (m : ℕ) → name_at new m ≡ name_at old m

-- a number has a name exactly if a row has the number
abbrev pub Covers : (ℕ → Option (List ℕ)) → List Row → Type 0
Covers name rows = (n : ℕ) → is_some (name n) ≡ has_channel rows n

abbrev pub AreUsed : Names → List Row → Type 0
AreUsed ns rows = Covers (name_at ns) rows

-- the rows, by their channels' names
abbrev pub by_name : (ℕ → Option (List ℕ)) → List Row → List Follow
by_name name rows = map (λ r. follow (unwrap_or (name r.channel) []) r.session) rows

abbrev pub named : Names → List Row → List Follow
named ns rows = by_name (name_at ns) rows

-- what always holds of a node's rows and their channels' names
pub record AreKept (ns : Names) (rows : List Row) : Type 0 where
  pub numbered : AreNumbered ns
  pub used : AreUsed ns rows
  pub follows : AreFollows (named ns rows)
