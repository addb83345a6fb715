-- What the calls that change a shard's streams and answer nothing make of its log, and why they are refused.
-- (This project's own profile.)
use Rattle.std.specs.Prelude.{◌≡◌, ◌≤◌, List, IsSome}
use Rattle.cf_protocol.specs.LogEntry.{Entry}
use Rattle.cf_protocol.specs.LogEntry.Entry.{Trim, Forget}
use Rattle.cf_protocol.specs.Settings.{NamespaceTable, entry_at, largest_size}
use Rattle.cf_shard.specs.LogAnswer.{IsTrimmed, IsForgotten, IsSized, IsTicked, RefusesEntry, RefusesSize}
use Rattle.cf_shard.specs.declared.refusal.Refused.{Refused}
use Rattle.cf_shard.specs.declared.refusal.Refused.TheVariants.{AtLastCount}
use Rattle.cf_broker.specs.declared.change.Change.{Change}
use Rattle.cf_broker.specs.declared.change.Change.TheVariants.{KeepNewest, EndStream, SetSize, Tick}

-- a size is set of a namespace that is set up, and is from 1 to 10,000
abbrev pub MayBeMade : NamespaceTable → Change → Type 0
MayBeMade t (KeepNewest c n) = Unit {0}
MayBeMade t (EndStream c) = Unit {0}
MayBeMade t (SetSize name n) = IsSome (entry_at t name.now) × ((1 ≤ n) × (n ≤ largest_size))
MayBeMade t (Tick now) = Unit {0}

abbrev pub IsMade : NamespaceTable → (seen after : List Entry) → Change → Type 0
IsMade t seen after (KeepNewest c n) = IsTrimmed t seen after c.now n
IsMade t seen after (EndStream c) = IsForgotten t seen after c.now
IsMade t seen after (SetSize name n) = IsSized seen after name.now n
IsMade t seen after (Tick now) = IsTicked seen after

abbrev pub RefusesChange : NamespaceTable → (log : List Entry) → Change → Refused → Type 0
RefusesChange t log (KeepNewest c n) e = RefusesEntry t log c.now (Trim c.now n) e
RefusesChange t log (EndStream c) e = RefusesEntry t log c.now (Forget c.now) e
RefusesChange t log (SetSize name n) e = RefusesSize log name.now n e
RefusesChange t log (Tick now) e = e ≡ AtLastCount
