-- What a shard's log has to be for what is seen of it to be sound. (This project's own profile.)
use Rattle.std.specs.Prelude.{◌≤◌, ⊤, List, length}
use Rattle.std.specs.List.{AllByRecursion}
use mathlib.Core.List.{IsPrefix}
use Rattle.cf_protocol.specs.Epoch.{IsEpoch}
use Rattle.cf_protocol.specs.Fields.{max_u64}
use Rattle.cf_protocol.specs.LogEntry.{Entry}
use Rattle.cf_protocol.specs.LogEntry.Entry.{Open, Publish, Trim, Forget, Size}
use Rattle.cf_epochs.specs.Source.{Source, draws_next}
use Rattle.cf_shard.specs.Opening.{StaysFresh}
use Rattle.cf_shard.specs.Shard.{Lent}
use Rattle.cf_machine.specs.Config.{Config}
use Rattle.cf_machine.specs.ReadBack.{IsDatum}
use Rattle.cf_running_ties.specs.ShardCalls.{IsGained}

-- an epoch that opens is one, and what is published can be read back
abbrev pub CanBeSaid : Entry → Type 0
CanBeSaid (Open c e) = IsEpoch e
CanBeSaid (Publish c k d) = IsDatum d
CanBeSaid (Trim c n) = ⊤
CanBeSaid (Forget c) = ⊤
CanBeSaid (Size name n) = ⊤

-- the log was gained entry by entry, and each entry can be said
pub record IsGood (cfg : Config) (log : List Entry) : Type 0 where
  pub gained : IsGained cfg log
  pub said : AllByRecursion CanBeSaid log

-- seen is a beginning of a shard's log, and each of its entries can be said; the shard draws from a source of
-- cf_epochs, keeps what its type keeps of epochs, and its log is counted by a number of 64 bits
pub record IsSeenOf (shard : Lent Source) (seen : List Entry) : Type 0 where
  pub fresh : StaysFresh draws_next shard.epochs shard.log
  pub counted : length shard.log ≤ max_u64
  pub begins : IsPrefix seen shard.log
  pub said : AllByRecursion CanBeSaid seen
