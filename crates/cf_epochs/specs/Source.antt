-- Where a running server's epochs come from. (This project's own profile.)
use Rattle.std.specs.Prelude.{◌≡◌, ◌<◌, ◌≤◌, ◌+◌, ℕ, List, [], ◌∷◌, ◌++◌, Option, None, Some, ◌⊎◌, ◌≢◌, slice_get}
use Rattle.std.specs.Fmt.{decimal}

-- the number of a start, a shard, and how many epochs the shard has given since
pub record Source : Type 0 where
  pub boot : ℕ
  pub shard : ℕ
  pub count : ℕ

abbrev pub last_boot : ℕ
last_boot = 999_999_999_999_999

abbrev pub last_count : ℕ
last_count = 999_999_999_999

-- a number that a start may have
abbrev pub IsBoot : ℕ → Type 0
IsBoot n = (1 ≤ n) × (n ≤ last_boot)

-- a shard's source at a start, before its first epoch
abbrev pub unused : ℕ → ℕ → Source
unused boot shard = record { boot = boot; shard = shard; count = 0 }

-- a source of a start, in its range
abbrev pub IsSource : Source → Type 0
IsSource s = IsBoot s.boot × (s.shard < 256) × (s.count ≤ last_count)

-- the epoch that a source gave last: boot, shard and count, with an x between
abbrev pub epoch_at : Source → List ℕ
epoch_at s = decimal s.boot ++ (120 ∷ (decimal s.shard ++ (120 ∷ decimal s.count)))

-- the source after one more epoch
abbrev pub next : Source → Source
next s = record { boot = s.boot; shard = s.shard; count = s.count + 1 }

-- a draw gives the epoch of the next count, which is in its range; after the last count it gives none, and nothing
-- changes
abbrev pub draws_next : Source → Option (List ℕ) → Source → Type 0
draws_next old None new = (old.count ≡ last_count) × (new ≡ old)
draws_next old (Some e) new = ((e ≡ epoch_at new) × IsSource new) × (new ≡ next old)

-- the epochs that a source gave from one state to another, in order
abbrev pub Gives : Source → List (List ℕ) → Source → Type 0
Gives old [] new = new ≡ old
Gives old (e ∷ es) new = (s : Source) × draws_next old (Some e) s × Gives s es new

-- the sources of sixteen shards at a start, each at the place of its shard
abbrev pub AreOfShards : ℕ → List Source → Type 0
AreOfShards boot sources = (shard : ℕ) → shard < 16 → slice_get sources shard ≡ Some (unused boot shard)

-- sources of two starts, or of two shards
abbrev pub AreOthers : Source → Source → Type 0
AreOthers s t = (s.boot ≢ t.boot) ⊎ (s.shard ≢ t.shard)
