-- What waits at a node to be told: readings of streams as they stand over the publication lists.
use Rattle.std.specs.Prelude.{◌≡◌, ℕ, ◌+◌, ◌≤◌, false, List, length}
use Rattle.cf_protocol.specs.Note.{Lists, Reading, Note, Reply, Pub, End, Fails, Put as Accepted, Left, Listed}
use Rattle.cf_protocol.specs.Note.{PingDue, Close}

-- It ends within the list of its epoch, it begins no later than it ends, and if it didn't recover it begins where
-- it ends.
abbrev pub IsReadingOf : Lists → List ℕ → Reading → Type 0
IsReadingOf lists c r =
    (r.low ≤ r.top) × (r.top ≤ length (lists c r.epoch)) × (r.recovered ≡ false → r.low ≡ r.top)

-- A reply has such a reading, a history lies within its list, and in a schedule no ping waits.
abbrev pub IsTellable : Lists → Note → Type 0
IsTellable lists (Reply c id was r) = IsReadingOf lists c r
IsTellable lists (Pub c q) = Unit {0}
IsTellable lists (End c) = Unit {0}
IsTellable lists (Fails c id code) = Unit {0}
IsTellable lists (Accepted id) = Unit {0}
IsTellable lists (Left id) = Unit {0}
IsTellable lists (Listed c id at low count) = low + count ≤ length (lists c at.epoch)
IsTellable lists PingDue = ⊥
IsTellable lists (Close code) = Unit {0}
