-- Which calls add which entries to the log of a shard. (This project's own profile.)
use Rattle.std.specs.Prelude.{◌≡◌, ℕ, ◌+◌, ◌<◌, ◌≤◌, ◌^◌, List, [], ◌∷◌, Bool, Option, Some, None}
use Rattle.std.specs.FinMap as fin
use Rattle.cf_protocol.specs.Datum.{Datum}
use Rattle.cf_protocol.specs.LogEntry.{Entry}
use Rattle.cf_protocol.specs.LogEntry.Entry.{Trim, Forget, Size}
use Rattle.cf_order.specs.Passes.{PassState}
use Rattle.cf_stream.specs.Streams.{StreamMap, stream_of, due_channels}
use Rattle.cf_stream.specs.LogState.{opening, publishing, if_stands, due_entries}

-- a read or a history: that the stream opened in this epoch, if there was none
abbrev pub entries_of_use : StreamMap → (channel epoch : List ℕ) → List Entry
entries_of_use k c e = opening (stream_of k c) c e []

-- an accepted publish: the same, and then the publication; nothing if it is a repeat
abbrev pub entries_of_publish : (repeated : Bool) → StreamMap → (channel epoch key : List ℕ) → Datum
    → List Entry
entries_of_publish repeated k c e key d = publishing repeated (stream_of k c) c e key d

-- a trim, and a forget: one entry if the channel has a stream
abbrev pub entries_of_trim : StreamMap → (channel : List ℕ) → (count : ℕ) → List Entry
entries_of_trim k c n = if_stands (stream_of k c) (Trim c n)

abbrev pub entries_of_forget : StreamMap → (channel : List ℕ) → List Entry
entries_of_forget k c = if_stands (stream_of k c) (Forget c)

-- another size for a namespace: one entry
abbrev pub entries_of_size : (name : List ℕ) → (size : ℕ) → List Entry
entries_of_size name n = Size name n ∷ []

-- a tick: a forget for each stream that ends, and a trim to none for each other one that is emptied while it holds
-- something
abbrev pub entries_of_tick : StreamMap → (now : ℕ) → List Entry
entries_of_tick k now = due_entries (due_channels now k.namespaces (fin.entries k.streams))

-- how many entries open a channel's stream
abbrev pub to_open : {X : Type 0} → Option X → ℕ
to_open None = 1
to_open (Some x) = 0

-- a log of this length has room for the entry of a stream that opens, if none stands
abbrev pub HasRoom : {X : Type 0} → Option X → ℕ → Type 0
HasRoom None n = n < 2 ^ 62
HasRoom (Some x) n = Unit {0}

-- and for that of a publication behind it
abbrev pub HasRoomForTwo : {X : Type 0} → Option X → ℕ → Type 0
HasRoomForTwo stood n = HasRoom stood n × (n + to_open stood + 1 ≤ 2 ^ 62)

-- a log of this length has room for the entry of a call on a stream, if one stands
abbrev pub HasRoomOn : {X : Type 0} → Option X → ℕ → Type 0
HasRoomOn None n = Unit {0}
HasRoomOn (Some x) n = n < 2 ^ 62

-- the pass has seen this log whole
abbrev pub HasWhole : PassState → List Entry → Type 0
HasWhole p log = (p.log ≡ log) × (p.found ≡ log)

-- the pass is of the same word, has looked as often, and so many publishes more are its own
abbrev pub KeepsShare : (old new : PassState) → (own : ℕ) → Type 0
KeepsShare old new own = (new.word ≡ old.word) × (new.looks ≡ old.looks) × (new.share ≡ old.share + own)
