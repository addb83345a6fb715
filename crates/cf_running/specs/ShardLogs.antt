-- The log of a shard beside the machine's broker: the two have the same streams, over the same lists and keys, at
-- each channel of the shard, and the same sizes.
-- (This project's own profile.)
use Rattle.std.specs.Prelude.{◌≡◌, ◌≢◌, ◌<◌, ◌-◌, ◌&&◌, ℕ, ℤ, Bool, true, false, if◌then◌else◌, IsSome, IsSomeAnd}
use Rattle.std.specs.Prelude.{Option, Some, None, List, [], length}
use Rattle.std.specs.List.{filter_map}
use Rattle.std.specs.Str.{bytes_eq}
use Rattle.cf_protocol.specs.Names.{is_among}
use Rattle.cf_protocol.specs.Datum.{Placed}
use Rattle.cf_protocol.specs.Note.{placed_from}
use Rattle.cf_protocol.specs.Position.{Position}
use Rattle.cf_protocol.specs.LogEntry.{Entry}
use Rattle.cf_protocol.specs.LogEntry.Entry.{Open, Publish, Trim, Forget, Size}
use Rattle.cf_protocol.specs.Settings.{NamespaceTable, settings_of}
use Rattle.cf_model.specs.Streams.{StreamState, last_offset, position_of}
use Rattle.cf_model.specs.Keys.{repeat_of}
use Rattle.cf_stream.specs.LogState.{life_in, sizes_in}
use Rattle.cf_stream.specs.PublicationList.{state_of}
use Rattle.cf_model.specs.Streams.{Life}
use Rattle.cf_model.specs.Streams.{read_of, history_of, Listing}
use Rattle.cf_stream.specs.Streams.{size_at}
use Rattle.cf_model.specs.Streams.{in_namespace}
use Rattle.cf_machine.specs.Config.{Config}
use Rattle.cf_machine.specs.Event.{Trim as TrimEvent, Forget as ForgetEvent}
use Rattle.cf_machine.specs.IntervalMachine.{size_by}
use Rattle.cf_machine.specs.Lives.{life_at}
use Rattle.cf_machine.specs.LooseRun.{Happening, Scheduled, PublishAny, OpenIn, SizeAmong, loosely_allows, befalls}
use Rattle.cf_machine.specs.LooseRun.{loose_run}
use Rattle.cf_machine.specs.World.{World, start}
use Rattle.cf_machine.specs.PublicationList.{Broker}

-- the epochs in which a channel was ever opened
abbrev pub opening_of : List ℕ → Entry → Option (List ℕ)
opening_of q (Open c e) = if bytes_eq c q then Some e else None
opening_of q (Publish c key d) = None
opening_of q (Trim c n) = None
opening_of q (Forget c) = None
opening_of q (Size name n) = None

abbrev pub epochs_in : List Entry → List ℕ → List (List ℕ)
epochs_in log q = filter_map (opening_of q) log

-- At each channel of the shard the broker has the stream and the size that the log leaves, which begins with these
-- sizes; and nothing is listed in an epoch in which the channel was never opened.
pub record IsLogOf (mine : List ℕ → Bool) (sizes : NamespaceTable) (log : List Entry) (b : Broker) : Type 0 where
  pub life : (c : List ℕ) → mine c ≡ true → life_at b c ≡ life_in sizes log c
  pub size : (c : List ℕ) → mine c ≡ true
      → size_by (b.sizes c) (settings_of sizes c) ≡ size_at (sizes_in sizes log) c
  pub unopened : (c e : List ℕ) → mine c ≡ true → is_among e (epochs_in log c) ≡ false → b.lists c e ≡ []

-- ---- what the log may gain, and what happens to the machine then

-- whether an entry in the log of the shard with these channels is about this one: another size is about all that are
-- of its namespace
abbrev pub is_about : (its : List ℕ → Bool) → Entry → List ℕ → Bool
is_about its (Open c e) q = bytes_eq c q
is_about its (Publish c key d) q = bytes_eq c q
is_about its (Trim c n) q = bytes_eq c q
is_about its (Forget c) q = bytes_eq c q
is_about its (Size name n) q = its q && in_namespace name q

-- it is about channels of the shard alone; it is about none of these
abbrev pub IsIn : (its : List ℕ → Bool) → Entry → Type 0
IsIn its x = (q : List ℕ) → is_about its x q ≡ true → its q ≡ true

abbrev pub IsApart : (mine its : List ℕ → Bool) → Entry → Type 0
IsApart mine its x = (q : List ℕ) → is_about its x q ≡ true → mine q ≡ false

-- An opening if no stream stands, in an epoch that isn't empty and was never the channel's; a publication if a
-- stream stands, of a namespace that is set up, that repeats none of the stream, which is not at the last offset; a
-- trim or a forget if a stream stands; another size at any time.
abbrev pub MayGain : Config → List Entry → Entry → Type 0
MayGain cfg log (Open c e) =
    (life_in cfg.namespaces log c ≡ None) × (e ≢ []) × (is_among e (epochs_in log c) ≡ false)
MayGain cfg log (Publish c key d) =
    IsSome (settings_of cfg.namespaces c)
    × IsSomeAnd (life_in cfg.namespaces log c) (λ l. (length l.list < last_offset) × (repeat_of key l.keys ≡ None))
MayGain cfg log (Trim c n) = IsSome (life_in cfg.namespaces log c)
MayGain cfg log (Forget c) = IsSome (life_in cfg.namespaces log c)
MayGain cfg log (Size name n) = Unit {0}

abbrev pub happening_of : (its : List ℕ → Bool) → Entry → Happening
happening_of its (Open c e) = OpenIn c e
happening_of its (Publish c key d) = PublishAny c key d
happening_of its (Trim c n) = Scheduled (TrimEvent c n)
happening_of its (Forget c) = Scheduled (ForgetEvent c)
happening_of its (Size name n) = SizeAmong (λ q. its q && in_namespace name q) n

-- ---- the tie

-- the log stands beside the machine's broker, if no epoch waits
pub record IsTied (mine : List ℕ → Bool) (sizes : NamespaceTable) (log : List Entry) (b : Broker) : Type 0 where
  pub waits : b.waiting ≡ []
  pub log_of : IsLogOf mine sizes log b

-- the machine after a loose run
abbrev pub logs_after : Config → List Happening → World
logs_after cfg past = loose_run cfg start past

-- the happening of an entry of this shard may happen, and what it leads to
pub record Goes (cfg : Config) (w : World) (its : List ℕ → Bool) (x : Entry) (P : Broker → Type 0) : Type 0 where
  pub allowed : loosely_allows cfg w (happening_of its x) ≡ true
  pub leads : P (befalls cfg w (happening_of its x)).broker

-- ---- answers

-- the machine has the stream of this life
pub record IsStream (b : Broker) (c : List ℕ) (l : Life) : Type 0 where
  pub stream : b.streams c ≡ Some (state_of l)
  pub list : b.lists c l.epoch ≡ l.list
  pub keys : b.keys c l.epoch ≡ l.keys

-- the answer to a read is the machine's reading, with the data of its lists
pub record ReadsAs (b : Broker) (c : List ℕ) (since : Option Position) (position : Position) (recovered : Bool)
    (publications : List Placed) : Type 0 where
  pub state : StreamState
  pub stands : b.streams c ≡ Some state
  pub at : position ≡ position_of state
  pub exact : recovered ≡ (read_of since state).recovered
  pub run : publications
      ≡ placed_from (b.lists c state.epoch) (read_of since state).low (state.top - (read_of since state).low)

-- and that to a history the machine's listing
pub record ListsAs (b : Broker) (c : List ℕ) (since : Option Position) (limit : ℤ) (position : Position)
    (publications : List Placed) : Type 0 where
  pub state : StreamState
  pub listing : Listing
  pub stands : b.streams c ≡ Some state
  pub is : history_of since limit state ≡ Some listing
  pub at : position ≡ listing.at
  pub run : publications ≡ placed_from (b.lists c state.epoch) listing.low listing.count
