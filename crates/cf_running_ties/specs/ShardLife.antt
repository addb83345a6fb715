-- A shard's calls from its start, one after another, as their contracts have them, if its epochs come from a
-- source of cf_epochs. (This project's own profile.)
use Rattle.std.specs.Prelude.{◌≡◌, ⊤, ℕ, IsSome, List, [], ◌∷◌, ◌++◌}
use Rattle.cf_protocol.specs.Datum.{Datum}
use Rattle.cf_protocol.specs.LogEntry.{Entry}
use Rattle.cf_protocol.specs.Settings.{NamespaceTable, settings_of}
use Rattle.cf_stream.specs.ChannelLists.{PublishesAt}
use Rattle.cf_stream.specs.FreshEpochs.{DrawsNone}
use Rattle.cf_stream.specs.declared.answer.Published.{Published as Answer}
use Rattle.cf_stream.specs.Streams.{StreamMap, stream_of}
use Rattle.cf_epochs.specs.Source.{IsSource, Source, draws_next}
use Rattle.cf_shard.specs.Shard.{DrawsFor, IsStateOf, Lent}
use Rattle.cf_shard.specs.ShardLog.{entries_of_forget, entries_of_publish, entries_of_size, entries_of_tick}
use Rattle.cf_shard.specs.ShardLog.{entries_of_trim, entries_of_use}
use Rattle.cf_running_ties.specs.ShardCalls.{IsNotLast}

-- a call that was carried out, the first two with their answer, or with its epoch; one that found no epoch; any other
pub data Call : Type 0 where
  Published : (channel key : List ℕ) → (datum : Datum) → (answer : Answer) → Call
  -- a read or a history
  Used : (channel : List ℕ) → (epoch : List ℕ) → Call
  Trimmed : (channel : List ℕ) → (count : ℕ) → Call
  Forgotten : (channel : List ℕ) → Call
  Sized : (name : List ℕ) → (size : ℕ) → Call
  Ticked : (now : ℕ) → Call
  FoundNoEpoch : Call
  -- refused for another reason, or a question about a position or presence
  Unchanged : Call

-- what it adds to the log
abbrev pub entries_of : Call → StreamMap → List Entry
entries_of (Published c key d p) k = entries_of_publish p.repeated k c p.position.epoch key d
entries_of (Used c e) k = entries_of_use k c e
entries_of (Trimmed c n) k = entries_of_trim k c n
entries_of (Forgotten c) k = entries_of_forget k c
entries_of (Sized name n) k = entries_of_size name n
entries_of (Ticked now) k = entries_of_tick k now
entries_of FoundNoEpoch k = []
entries_of Unchanged k = []

-- what it draws from the source
abbrev pub DrawsBy : Call → Lent Source → Lent Source → Type 0
DrawsBy (Published c key d p) old new = DrawsFor draws_next c p.position.epoch old new
DrawsBy (Used c e) old new = DrawsFor draws_next c e old new
DrawsBy FoundNoEpoch old new = DrawsNone draws_next old.epochs new.epochs
DrawsBy other old new = new.epochs ≡ old.epochs

-- a publish that is carried out is of a namespace that is set up, is none that is refused at the last offset, and is
-- answered off the stream's list
abbrev pub IsAllowed : NamespaceTable → Call → StreamMap → Type 0
IsAllowed t (Published c key d p) k =
    IsSome (settings_of t c) × IsNotLast (stream_of k c) key × PublishesAt k c key p.position p.repeated
IsAllowed t other k = ⊤

-- what its contract says, and the types of shard and source keep
pub record IsMade (t : NamespaceTable) (call : Call) (old new : Lent Source) : Type 0 where
  pub state : IsStateOf t old
  pub allowed : IsAllowed t call old.streams
  pub log : new.log ≡ old.log ++ entries_of call old.streams
  pub draws : DrawsBy call old new
  pub source : IsSource new.epochs

abbrev pub AreMade : NamespaceTable → List Call → Lent Source → Lent Source → Type 0
AreMade t [] old new = new ≡ old
AreMade t (k ∷ ks) old new = (mid : Lent Source) × IsMade t k old mid × AreMade t ks mid new
