-- What lies under a shard's lock, and what its calls make of it. (This project's own profile.)
use Rattle.std.specs.Prelude.{◌≡◌, ℕ, ◌+◌, ◌<◌, ◌^◌, List, Option, Some, None, String, string_bytes, refl, length}
use Rattle.std.specs.Coded.{Coded, code_by, coded×}
use Rattle.std.specs.declared.alloc.Global.{Global}
use Rattle.std.specs.FinMap as fin
use Rattle.cf_protocol.specs.Datum.{Datum, Who}
use Rattle.cf_protocol.specs.LogEntry.{Entry}
use Rattle.cf_protocol.specs.Settings.{NamespaceTable, with_size}
use Rattle.cf_presence.specs.Presence.{Channels, coded_channels}
use Rattle.atomic_table.specs.Seated.{TableId}
use Rattle.cf_order.specs.Passes.{OwnerState}
use Rattle.cf_order.specs.View.{coded_log}
use Rattle.cf_stream.specs.declared.refusal.StreamRefusal.{StreamRefusal}
use Rattle.cf_stream.specs.declared.refusal.StreamRefusal.TheVariants.{AtLastOffset, WrongEpoch, NoEpoch, Memory}
use Rattle.cf_stream.specs.FreshEpochs.{Draws, DrawsNone}
use Rattle.cf_stream.specs.LogState.{IsState}
use Rattle.cf_stream.specs.Stream.{after_publish, used_at}
use Rattle.cf_stream.specs.Streams.{StreamMap, coded_kept, put_at, resized_in, stood_or_opened, stream_of}
use Rattle.cf_shard.specs.declared.refusal.Refused.{Refused}
use Rattle.cf_shard.specs.declared.refusal.Refused.TheVariants.{AtLastOffset as LastOffset, WrongEpoch as OtherEpoch}
use Rattle.cf_shard.specs.declared.refusal.Refused.TheVariants.{NoEpoch as NoneDrawn, Memory as NoMemory}
use Rattle.cf_shard.specs.declared.refusal.Refused.TheVariants.{AtLastCount as LastCount}

-- the streams, who is there, where the epochs of new streams come from, and the log that made the streams
pub record Lent (E : Type 0) : Type 0 where
  pub streams : StreamMap
  pub presence : Channels
  pub epochs : E
  pub log : List Entry

abbrev pub lent_code : {E : Type 0} → Coded E → Coded (Lent E)
lent_code {E} e =
    code_by (StreamMap × (Channels × (E × List Entry)))
    (coded× coded_kept (coded× coded_channels (coded× e coded_log)))
    (λ s. (s.streams, (s.presence, (s.epochs, s.log))))
    (λ p. record { streams = p.0; presence = p.1.0; epochs = p.1.1.0; log = p.1.1.1 }) (λ _. refl)

-- no streams, over these namespaces
abbrev pub no_streams : NamespaceTable → StreamMap
no_streams t = record { namespaces = t; streams = fin.empty }

-- the owner is of this word, and the streams are what its log leaves, which begins with these namespaces
pub record IsShard (namespaces : NamespaceTable) (word : TableId) (streams : StreamMap)
    (owner : OwnerState) : Type 0 where
  pub named : owner.word ≡ word
  pub state : IsState namespaces streams owner.log

-- the streams are what the log leaves, which begins with these namespaces
abbrev pub IsStateOf : {E : Type 0} → NamespaceTable → Lent E → Type 0
IsStateOf t s = IsState t s.streams s.log

-- what is published: its body, and by which client, if by one
abbrev pub datum_of : String Global → Option Who → Datum
datum_of body info = record { body = string_bytes body; info = info }

-- ---- refusals

-- the log has no room for these entries
abbrev pub IsFull : (log entries : List Entry) → Type 0
IsFull log entries = 2 ^ 62 < length log + length entries

-- so a call is refused, and nothing changed
abbrev pub LacksRoom : {E : Type 0} → (entries : List Entry) → Refused → (old new : Lent E) → Type 0
LacksRoom entries e old new = (e ≡ LastCount) × (new ≡ old) × IsFull old.log entries

-- ---- what a call makes of streams and epochs

-- the streams after a publish under this key, and after a read or a history, at a moment: the channel's stream opens
-- in this epoch if there is none
abbrev pub streams_after_publish : StreamMap → (channel epoch key : List ℕ) → Datum → (now : ℕ) → StreamMap
streams_after_publish k c e key d now = put_at k c (Some (after_publish (stood_or_opened k c e) key d now))

abbrev pub after_use : StreamMap → (channel epoch : List ℕ) → (now : ℕ) → StreamMap
after_use k c e now = put_at k c (Some (used_at (stood_or_opened k c e) now))

-- the sizes that streams are held to after a namespace got another size, and each channel's stream then
pub record IsResized (name : List ℕ) (size : ℕ) (old new : StreamMap) : Type 0 where
  pub sizes : new.namespaces ≡ with_size name size old.namespaces
  pub streams : (q : List ℕ) → stream_of new q ≡ resized_in name size q (stream_of old q)

-- which draws of a source of epochs are possible: from its state, of nothing or of an epoch, to another state
abbrev pub Draw : Type 0 → Type 1
Draw E = E → Option (List ℕ) → E → Type 0

-- the epoch of the channel's stream: drawn if none stood
abbrev pub DrawsFor : {E : Type 0} → Draw E → (channel epoch : List ℕ) → (old new : Lent E) → Type 0
DrawsFor draws c e old new = Draws draws (stream_of old.streams c) e old.epochs new.epochs

-- the channel has no stream, and no epoch was drawn for one
abbrev pub FindsNoEpoch : {E : Type 0} → Draw E → (channel : List ℕ) → (old new : Lent E) → Type 0
FindsNoEpoch draws c old new = (stream_of old.streams c ≡ None) × DrawsNone draws old.epochs new.epochs

-- a refusal of the streams
abbrev pub refused_of : StreamRefusal → Refused
refused_of AtLastOffset = LastOffset
refused_of WrongEpoch = OtherEpoch
refused_of NoEpoch = NoneDrawn
refused_of Memory = NoMemory
