-- The broker beside what the machine has for it.
use Rattle.std.specs.Prelude.{◌≡◌, ◌≤◌, ◌-◌, ⊤, ℕ, ℤ, true, false, Option, Some, None, is_some, option_map}
use Rattle.std.specs.Prelude.{List, [], length}
use Rattle.std.specs.List.{All, AllZip}
use Rattle.std.specs.String.{string_bytes}
use Rattle.std.specs.BTreeSet.{contains_text}
use Rattle.cf_protocol.specs.Names.{is_among}
use Rattle.cf_protocol.specs.Epoch.{IsEpoch}
use Rattle.cf_protocol.specs.Datum.{Datum, Who}
use Rattle.cf_protocol.specs.Note.{Lists, placed_at, placed_from}
use Rattle.cf_protocol.specs.Position.{Position}
use Rattle.cf_protocol.specs.Regular.{IsPlaced, IsBody}
use Rattle.cf_protocol.specs.Settings.{NamespaceTable, entry_at, settings_of}
use Rattle.cf_model.specs.Streams.{StreamState, last_offset, position_of}
use Rattle.cf_model.specs.Streams.{listed_above, read_of}
use Rattle.cf_stream.specs.ChannelLists.{AreShown}
use Rattle.cf_stream.specs.Streams.{size_at}
use Rattle.cf_stream.specs.declared.answer.History.{History}
use Rattle.cf_stream.specs.declared.answer.Recovery.{Recovery}
use Rattle.cf_hub.specs.InNotes.{Grown}
use Rattle.cf_machine.specs.Lives.{life_at}
use Rattle.cf_machine.specs.PublicationList.{Place, Broker, at_last_offset, can_open, is_repeat, opened, publish}
use Rattle.cf_machine.specs.IntervalMachine.{size_by}
use Rattle.cf_machine.specs.ReadBack.{IsDatum}
use Rattle.cf_world.specs.declared.broker.AcceptedPublication.{AcceptedPublication}
use Rattle.cf_world.specs.declared.broker.PublishOutcome.{PublishOutcome}
use Rattle.cf_world.specs.declared.broker.PublishOutcome.TheVariants as outcome
use Rattle.cf_world.specs.declared.broker.WorldBroker.{WorldBroker as Code}

-- A publication stands at its place, now and when the lists have grown, and its text can be read back.
pub record IsAccepted (lists : Lists) (a : AcceptedPublication) (p : Place) : Type 0 where
  pub place : p ≡ record {
    channel = string_bytes a.channel;
    at = record { epoch = a.epoch; offset = a.publication.offset };
  }
  pub stands : (later : Lists) → Grown lists later
      → placed_at (later p.channel p.at.epoch) p.at.offset ≡ Some a.publication
  pub regular : IsPlaced IsBody a.publication

-- a stream's top is the length of its list
pub record IsStanding (lists : Lists) (c : List ℕ) (s : StreamState) : Type 0 where
  pub top : s.top ≡ length (lists c s.epoch)
  pub within : s.top ≤ last_offset
  pub epoch : IsEpoch s.epoch

-- who publishes, by the client's id, if it is a client: all connect as the empty user
abbrev pub who_by : Option (List ℕ) → Option Who
who_by client = option_map (λ c. record { user = []; client = c }) client

abbrev pub datum_from : List ℕ → Option (List ℕ) → Datum
datum_from body client = record { body = body; info = who_by client }

-- The settings that streams have now, if they began with the table: the same names are set up, and each channel's
-- size is the one that was set for it last.
pub record AreSized (table now : NamespaceTable) (sizes : List ℕ → Option ℕ) : Type 0 where
  pub names : (name : List ℕ) → is_some (entry_at now name) ≡ is_some (entry_at table name)
  pub size : (c : List ℕ) → size_at now c ≡ size_by (sizes c) (settings_of table c)

pub record ShowsBroker (table : NamespaceTable) (b : Code) (m : Broker) : Type 0 where
  pub namespaces : AreSized table b.streams.namespaces m.sizes
  pub waiting : b.epochs.waiting.items ≡ m.waiting
  pub came : (e : List ℕ) → contains_text b.epochs.came e ≡ is_among e m.came
  pub epochs : All IsEpoch m.waiting
  pub streams : AreShown b.streams (life_at m)
  pub standing : (c : List ℕ) (s : StreamState) → m.streams c ≡ Some s → IsStanding m.lists c s
  pub accepted : AllZip (IsAccepted m.lists) b.accepted.items m.accepted
  -- all that was ever published has texts that are read back, at offsets that there are
  pub regular : (c e : List ℕ) → All IsDatum (m.lists c e)
  pub bounded : (c e : List ℕ) → length (m.lists c e) ≤ last_offset
  -- each datum has its key, which may be the empty one
  pub keyed : (c e : List ℕ) → length (m.keys c e) ≡ length (m.lists c e)

-- what a read brings of a channel's stream
pub record Brings (lists : Lists) (c : List ℕ) (since : Option Position) (s : StreamState)
    (r : Recovery) : Type 0 where
  pub at : r.position ≡ position_of s
  pub recovered : r.recovered ≡ (read_of since s).recovered
  pub publications : r.publications.items
      ≡ placed_from (lists c s.epoch) (read_of since s).low (s.top - (read_of since s).low)

-- a read finds the stream, which it opens if none stands; or finds none, and none can be opened
pub record Finds (table : NamespaceTable) (m : Broker) (c : List ℕ) (since : Option Position) (new : Code)
    (r : Recovery) : Type 0 where
  pub state : StreamState
  pub stands : (opened c m).streams c ≡ Some state
  pub brings : Brings m.lists c since state r
  pub shows : ShowsBroker table new (opened c m)

pub record FindsNone (table : NamespaceTable) (m : Broker) (c : List ℕ) (new : Code) : Type 0 where
  pub none : can_open c m ≡ false
  pub shows : ShowsBroker table new m

abbrev pub Reads : NamespaceTable → Broker → List ℕ → Option Position → Code → Option Recovery → Type 0
Reads table m c since new (Some r) = Finds table m c since new r
Reads table m c since new None = FindsNone table m c new

-- a history finds the stream, which it opens if none stands; or finds none, and none can be opened
pub record FindsPast (table : NamespaceTable) (m : Broker) (c : List ℕ) (limit : ℤ) (new : Code)
    (h : History) : Type 0 where
  pub state : StreamState
  pub stands : (opened c m).streams c ≡ Some state
  pub at : h.position ≡ position_of state
  pub publications : h.publications.items
      ≡ placed_from (m.lists c state.epoch) (listed_above 0 limit state).low (listed_above 0 limit state).count
  pub shows : ShowsBroker table new (opened c m)

abbrev pub Histories : NamespaceTable → Broker → List ℕ → ℤ → Code → Option History → Type 0
Histories table m c limit new (Some h) = FindsPast table m c limit new h
Histories table m c limit new None = FindsNone table m c new

-- how much the stream of a channel holds
abbrev pub size_in : NamespaceTable → Broker → List ℕ → ℕ
size_in table m c = size_by (m.sizes c) (settings_of table c)

-- what a publish under a key comes to: it is accepted; or it is a repeat, or the stream is at its last offset, or
-- would open while no epoch waits, or the channel's namespace isn't set up, and then nothing changes
abbrev pub Publishes : NamespaceTable → Broker → (channel key : List ℕ) → Datum → Code → PublishOutcome
    → Type 0
Publishes table m c key d new outcome.Accepted =
    (is_some (settings_of table c) ≡ true) × (can_open c m ≡ true) × (is_repeat c key m ≡ false)
    × (at_last_offset c m ≡ false) × ShowsBroker table new (publish (size_in table m c) c key d m)
Publishes table m c key d new outcome.Repeated =
    (is_some (settings_of table c) ≡ true) × (can_open c m ≡ true) × (is_repeat c key m ≡ true)
    × ShowsBroker table new m
Publishes table m c key d new outcome.AtLastOffset =
    (can_open c m ≡ true) × (is_repeat c key m ≡ false) × (at_last_offset c m ≡ true) × ShowsBroker table new m
Publishes table m c key d new outcome.NoEpoch = (can_open c m ≡ false) × ShowsBroker table new m
Publishes table m c key d new outcome.NotSetUp = (settings_of table c ≡ None) × ShowsBroker table new m

-- the publication of a place
abbrev pub Stands : Lists → Option AcceptedPublication → Option Place → Type 0
Stands lists None None = ⊤
Stands lists (Some a) (Some p) = IsAccepted lists a p
Stands lists None (Some p) = ⊥
Stands lists (Some a) None = ⊥
