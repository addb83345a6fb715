-- A link: what was sent is what was received and then what waits. (This project's own profile.)
use Rattle.std.specs.Prelude.{◌≡◌, ◌+◌, ◌≤◌, ℕ, List, ◌++◌, length}
use mathlib.Core.List.{IsPrefix}
use Rattle.atomic_table.specs.Seated.{TableId}

-- what a clause sees of an end: the link, its capacity, what this end has sent or received, and what it was told of
-- the other end: the receiver how that which was sent begins, the sender how that which was received begins
pub record End (T : Type 0) : Type 0 where
  pub link : TableId
  pub capacity : ℕ
  pub items : List T
  pub told : List T

-- what one end of a link tells: how that begins which was sent, and that which was received
pub record Report (T : Type 0) : Type 0 where
  pub link : TableId
  pub sent : List T
  pub received : List T

module _ {T : Type 0} where
  -- an end of the same link as another
  abbrev pub IsSameLink : End T → End T → Type 0
  IsSameLink a b = (a.link ≡ b.link) × (a.capacity ≡ b.capacity)

  -- only what it was told may have changed
  abbrev pub IsSameEnd : End T → End T → Type 0
  IsSameEnd a b = IsSameLink a b × (a.items ≡ b.items)

  -- as many as the link has room for were sent behind those that the sender was told to have been received
  abbrev pub WasFull : End T → Type 0
  WasFull sender = length sender.told + sender.capacity ≤ length sender.items

  -- all that the receiver was told to have been sent was received
  abbrev pub WasEmpty : End T → Type 0
  WasEmpty receiver = IsPrefix receiver.told receiver.items

  -- so many are left of what was sent when this was received
  abbrev pub AreLeft : List T → List T → ℕ → Type 0
  AreLeft sent received count = (left : List T) × (sent ≡ received ++ left) × (length left ≡ count)
