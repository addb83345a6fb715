-- To which of those who wait a turn of the IO loop comes first. (This project's own profile.)
use Rattle.std.specs.Prelude.{◌≡◌, ◌+◌, ◌==◌, ◌||◌, Bool, true, not, if◌then◌else◌, ℕ, suc, zero}
use Rattle.cf_dispatch.specs.declared.rota.Group.{Group}
use Rattle.cf_dispatch.specs.declared.rota.Group.TheVariants as group

-- the group behind one, round and round
abbrev pub behind : Group → Group
behind group.Cheap = group.Dear
behind group.Dear = group.Fresh
behind group.Fresh = group.Cheap

-- in how many turns that count the cheap ones still come first, and which of the two others does then
pub record Order : Type 0 where
  pub left : ℕ
  pub is_fresh : Bool

abbrev pub new_order : Order
new_order = record { left = 15; is_fresh = true }

abbrev pub first_at : ℕ → Bool → Group
first_at zero fresh = if fresh then group.Fresh else group.Dear
first_at (suc k) fresh = group.Cheap

abbrev pub first : Order → Group
first o = first_at o.left o.is_fresh

-- a turn counts: of sixteen the cheap ones come first in fifteen, and each of the others in its turn
abbrev pub counted_at : ℕ → Bool → Order
counted_at zero fresh = record { left = 15; is_fresh = not fresh }
counted_at (suc k) fresh = record { left = k; is_fresh = fresh }

abbrev pub counted : Order → Order
counted o = counted_at o.left o.is_fresh

-- a turn counts in which some groups had their chance, and some of the three had none
abbrev pub after : ℕ → Order → Order
after chances o = if chances == 0 || chances == 3 then o else counted o

-- behind how many turns that count a group comes first
abbrev pub turns_at : Group → ℕ → Bool → ℕ
turns_at group.Cheap zero fresh = 1
turns_at group.Cheap (suc k) fresh = 0
turns_at group.Dear k fresh = if fresh then k + 16 else k
turns_at group.Fresh k fresh = if fresh then k else k + 16

abbrev pub turns_to : Group → Order → ℕ
turns_to g o = turns_at g o.left o.is_fresh

-- with each turn that counts these are one less, until it comes first
pub record IsNext (g : Group) (o : Order) : Type 0 where
  pub now : turns_to g o ≡ 0 → first o ≡ g
  pub sooner : (k : ℕ) → turns_to g o ≡ suc k → turns_to g (counted o) ≡ k

abbrev pub NobodyIsPassedOver : Type 0
NobodyIsPassedOver = (g : Group) → (o : Order) → IsNext g o
