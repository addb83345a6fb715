-- Which session of a node follows which channel: a list of rows in order of adding. (Order and limit are this
-- project's own profile.)
use Rattle.std.specs.Prelude.{◌≡◌, ◌≢◌, ℕ, ◌≤◌, ◌==◌, ◌&&◌, ◌||◌, not, Bool, false, if◌then◌else◌, Option, None, List}
use Rattle.std.specs.Prelude.{[], ◌∷◌, ◌++◌, length, map, filter, slice_get}
use Rattle.std.specs.List.{list_any}
use Rattle.cf_subs.specs.declared.table.Row.{Row}

abbrev pub row : ℕ → ℕ → Row
row c s = record { channel = c; session = s }

abbrev pub is_of : ℕ → ℕ → Row → Bool
is_of c s r = (r.channel == c) && (r.session == s)

-- whether the session follows the channel
abbrev pub follows : List Row → ℕ → ℕ → Bool
follows rows c s = list_any (is_of c s) rows

-- whether it is a channel that the session follows
abbrev pub follows_by : List Row → ℕ → ℕ → Bool
follows_by rows s c = follows rows c s

-- the sessions that follow the channel
abbrev pub sessions_of : List Row → ℕ → List ℕ
sessions_of rows c = map (λ r. r.session) (filter (λ r. r.channel == c) rows)

-- the channels that the session follows
abbrev pub channels_of : List Row → ℕ → List ℕ
channels_of rows s = map (λ r. r.channel) (filter (λ r. r.session == s) rows)

-- whether any session follows the channel
abbrev pub has_channel : List Row → ℕ → Bool
has_channel rows c = list_any (λ r. r.channel == c) rows

-- whether a walk has this number
abbrev pub is_among : ℕ → List ℕ → Bool
is_among n ns = list_any (λ m. m == n) ns

-- a walk without this number
abbrev pub without : ℕ → List ℕ → List ℕ
without n ns = filter (λ m. not (m == n)) ns

-- the number behind this one in a walk
abbrev pub after_in : ℕ → List ℕ → Option ℕ
after_in n [] = None
after_in n (m ∷ ms) = if m == n then slice_get ms 0 else after_in n ms

-- each of these numbers is there once
abbrev pub AreDistinct : List ℕ → Type 0
AreDistinct [] = Unit {0}
AreDistinct (n ∷ ns) = (is_among n ns ≡ false) × AreDistinct ns

-- these numbers are those that pass the test, each once
pub record HasEachOnce (ns : List ℕ) (test : ℕ → Bool) : Type 0 where
  pub once : AreDistinct ns
  pub members : (n : ℕ) → is_among n ns ≡ test n

-- one more, behind all others
abbrev pub with_row : List Row → ℕ → ℕ → List Row
with_row rows c s = rows ++ row c s ∷ []

-- all but the one of this channel and this session
abbrev pub without_row : List Row → ℕ → ℕ → List Row
without_row rows c s = filter (λ r. not (is_of c s r)) rows

-- all but those of this session
abbrev pub without_session : List Row → ℕ → List Row
without_session rows s = filter (λ r. not (r.session == s)) rows

-- who followed still does, and this session follows this channel, and no other has come
abbrev pub OnlyJoins : List Row → List Row → ℕ → ℕ → Type 0
OnlyJoins old new c s = (d j : ℕ) → follows new d j ≡ (is_of d j (row c s) || follows old d j)

-- this session follows this channel no more, and all others do as they did
abbrev pub OnlyLeaves : List Row → List Row → ℕ → ℕ → Type 0
OnlyLeaves old new c s = (d j : ℕ) → follows new d j ≡ (follows old d j && not (is_of d j (row c s)))

-- this session follows nothing any more, and all others do as they did
abbrev pub OnlyDetaches : List Row → List Row → ℕ → Type 0
OnlyDetaches old new s = (d j : ℕ) → follows new d j ≡ (follows old d j && not (j == s))

-- this session stands no more in the walk of this channel
abbrev pub WalkLoses : List Row → List Row → ℕ → ℕ → Type 0
WalkLoses old new c s = sessions_of new c ≡ without s (sessions_of old c)

-- the walks of all other channels stay
abbrev pub OtherWalksStay : List Row → List Row → ℕ → Type 0
OtherWalksStay old new c = (d : ℕ) → d ≢ c → sessions_of new d ≡ sessions_of old d

-- this session stands no more in the walk of any channel
abbrev pub WalksLose : List Row → List Row → ℕ → Type 0
WalksLose old new s = (c : ℕ) → sessions_of new c ≡ without s (sessions_of old c)

-- each of these is there once
abbrev pub AreOnce : List Row → Type 0
AreOnce [] = Unit {0}
AreOnce (r ∷ rows) = (follows rows r.channel r.session ≡ false) × AreOnce rows

-- the most that a table has
abbrev pub most_rows : ℕ
most_rows = 65536

-- what always holds of a table's rows
pub record AreRows (rows : List Row) : Type 0 where
  pub once : AreOnce rows
  pub few : length rows ≤ most_rows
