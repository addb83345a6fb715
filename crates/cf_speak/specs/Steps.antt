-- What each act of a session does to its node, by the definitions of hub, streams and presence: the node's answers,
-- and where it is then. All happens at moment 0. (Centrifugo's client protocol, history and recovery, presence.)
use Rattle.std.specs.Prelude.{◌≡◌, ◌⊎◌, ℕ, ◌+◌, ℤ, Bool, true, false, if◌then◌else◌, Option, Some, None, option_map}
use Rattle.std.specs.Prelude.{is_some, IsSomeAnd, List, []}
use Rattle.std.specs.FinMap as fin
use Rattle.cf_protocol.specs.Checks.{AtLastOffset, OtherEpoch, refusal_code}
use Rattle.cf_protocol.specs.Codes.{close_code_of}
use Rattle.cf_protocol.specs.Datum.{Datum, Placed}
use Rattle.cf_protocol.specs.Outgoing as outgoing
use Rattle.cf_protocol.specs.declared.codes.CloseCode.{CloseCode}
use Rattle.cf_protocol.specs.declared.codes.ErrorCode.{ErrorCode}
use Rattle.cf_protocol.specs.declared.codes.ErrorCode.TheVariants as error
use Rattle.cf_protocol.specs.Position.{Position}
use Rattle.cf_stream.specs.FreshEpochs.{Draws, DrawsNone}
use Rattle.cf_stream.specs.Stream.{Shown, IsRecovery, IsHistory, IsStuck, after_publish, newest_of, repeated_by}
use Rattle.cf_stream.specs.Stream.{used_at}
use Rattle.cf_stream.specs.Streams.{StreamMap, IsOfAnother, put_at, stood_or_opened, stream_of}
use Rattle.cf_stream.specs.declared.answer.Recovery.{Recovery}
use Rattle.cf_presence.specs.Presence.{Channels, clients_of, entered, left, users_of, user_count}
use Rattle.cf_queue.specs.OutQueue.{Item, Text, Close}
use Rattle.cf_hub.specs.Checked.{stand_of}
use Rattle.cf_hub.specs.Finish.{FinishesAt}
use Rattle.cf_hub.specs.Hub.{Node, attached_at, Begins, InState, IsFull, IsLeastFree, IsOpenWith, IsRefused, NoRoom}
use Rattle.cf_hub.specs.Hub.{One, Opens, OthersStay, client_id, is_open, sub_at}
use Rattle.cf_hub.specs.Rows.{Agrees, sub_in}
use Rattle.cf_hub.specs.Session.{Attached, badge_ponged}
use Rattle.cf_model.specs.Sessions.{SessionState, closes_now, comes, leaves, push, reads}
use Rattle.cf_hub.specs.Subscriptions.{reading_of}
use Rattle.cf_hub.specs.WantOfMemory.{Both}
use Rattle.cf_hub.specs.Wordings.{Held, at_offset, delivering, plain, reading}
use Rattle.cf_hub.specs.declared.refusal.HubRefusal.{HubRefusal}
use Rattle.cf_hub.specs.declared.refusal.HubRefusal.TheVariants as hub
use Rattle.cf_session.specs.Calls as call
use Rattle.cf_session.specs.Calls.{Answer, Refused, Done, Found, Call}
use Rattle.cf_session.specs.Refusals.{of_hub}
use Rattle.cf_session.specs.SessionMachine.{Act, Calls, Says, PassesPong, Closes, reply_text}
use Rattle.cf_speak.specs.Drawing.{draws_front}
use Rattle.cf_speak.specs.Scene.{Scene, met_refused_memory}

-- ---- the hub

-- the node is as it was, but for its hub
pub record OnHub (R : Node → Node → Type 0) (s m : Scene) : Type 0 where
  pub hub : R s.hub m.hub
  pub rest : m ≡ record s { hub = m.hub }

-- the call is refused, and nothing changes
pub record Denies (e : ErrorCode) (s m : Scene) (a : Answer) : Type 0 where
  pub answer : a ≡ Refused e
  pub stays : m ≡ s

-- the session goes to what is related to it, and there is no other
pub record Moves (k : ℕ) (R : SessionState Held Item → SessionState Held Item → Type 0)
    (old new : Node) : Type 0 where
  pub here : Both (InState R) (attached_at old k) (attached_at new k)
  pub others : OthersStay k old new
  pub agrees : Agrees (attached_at new) new.rows

-- ---- a session is attached

pub record Attaches (user : List ℕ) (s m : Scene) (a : Answer) : Type 0 where
  pub number : ℕ
  pub least : IsLeastFree s.hub number
  pub opens : Opens number user 0 s.hub m.hub
  pub answer : a ≡ call.Attached (client_id s.hub.node s.hub.boot (s.hub.used + 1))
  pub rest : m ≡ record s { hub = m.hub; number = Some number }

pub record HasNoRoom (s m : Scene) (a : Answer) : Type 0 where
  pub full : NoRoom s.hub
  pub answer : a ≡ Refused error.LimitExceeded
  pub stays : OnHub (IsRefused hub.TooMany) s m

abbrev pub attach_at : Option ℕ → List ℕ → Scene → Scene → Answer → Type 0
attach_at None user s m a = Attaches user s m a ⊎ HasNoRoom s m a
attach_at (Some k) user s m a = Denies error.Internal s m a

-- ---- a subscription is begun, read, finished, left

-- why the hub refuses one
abbrev pub WhyNot : ℕ → List ℕ → Node → HubRefusal → Type 0
WhyNot k c h hub.NoSession = is_open (attached_at h k) ≡ false
WhyNot k c h hub.Already = IsOpenWith (λ off. off ≡ false) k c h
WhyNot k c h hub.TooMany = IsOpenWith (λ off. off ≡ true) k c h × IsFull k h
WhyNot k c h hub.Memory = ⊥

pub record BeginsAt (k : ℕ) (c : List ℕ) (id : ℕ) (since : Option Position) (s m : Scene)
    (a : Answer) : Type 0 where
  pub may : (e : HubRefusal) → WhyNot k c s.hub e → ⊥
  pub begins : OnHub (Begins k c id since) s m
  pub answer : a ≡ Done

pub record MayNotBegin (k : ℕ) (c : List ℕ) (s m : Scene) (a : Answer) : Type 0 where
  pub why : HubRefusal
  pub because : WhyNot k c s.hub why
  pub stays : OnHub (IsRefused why) s m
  pub answer : a ≡ Refused (refusal_code (of_hub why))

abbrev pub begin_at : Option ℕ → List ℕ → ℕ → Option Position → Scene → Scene → Answer → Type 0
begin_at None c id since s m a = Denies error.Internal s m a
begin_at (Some k) c id since s m a = BeginsAt k c id since s m a ⊎ MayNotBegin k c s m a

-- a stream would open, and no epoch is left
pub record HasNoEpoch (c : List ℕ) (s m : Scene) (a : Answer) : Type 0 where
  pub no_stream : stream_of s.streams c ≡ None
  pub no_epoch : DrawsNone draws_front s.epochs m.epochs
  pub answer : a ≡ Refused error.Internal
  pub rest : m ≡ record s { epochs = m.epochs }

-- the stream that is used, which opens in this epoch if there is none
abbrev pub used : Scene → List ℕ → List ℕ → Shown
used s c e = stood_or_opened s.streams c e

pub record Reads (k : ℕ) (c : List ℕ) (since : Option Position) (s m : Scene) (a : Answer) : Type 0 where
  pub found : Recovery
  pub recovery : IsRecovery
      (used s c found.position.epoch) since found.position found.recovered found.publications.items
  pub drawn : Draws draws_front (stream_of s.streams c) found.position.epoch s.epochs m.epochs
  pub streams : m.streams ≡ put_at s.streams c (Some (used_at (used s c found.position.epoch) 0))
  pub hub : One k (reads (reading found.publications.items) c (reading_of found)) s.hub m.hub
  pub answer : a ≡ Done
  pub rest : m ≡ record s { hub = m.hub; streams = m.streams; epochs = m.epochs }

abbrev pub read_at : Option ℕ → List ℕ → Option Position → Scene → Scene → Answer → Type 0
read_at None c since s m a = Denies error.Internal s m a
read_at (Some k) c since s m a = Reads k c since s m a ⊎ HasNoEpoch c s m a

-- the client is present
abbrev pub enters_now : List ℕ → Option Attached → Channels → Channels
enters_now c None people = people
enters_now c (Some x) people = entered people c x.badge.client x.badge.user 0

-- a client whose subscription stands is present
abbrev pub enters : List ℕ → Option Attached → Channels → Channels
enters c x people = if is_some (stand_of (sub_in x c)) then enters_now c x people else people

pub record Finishes (k : ℕ) (c : List ℕ) (s m : Scene) : Type 0 where
  pub hub : Moves k (FinishesAt false c (sub_at s.hub k c)) s.hub m.hub
  pub people : m.people ≡ enters c (attached_at m.hub k) s.people
  pub rest : m ≡ record s { hub = m.hub; people = m.people }

abbrev pub finish_at : Option ℕ → List ℕ → Scene → Scene → Type 0
finish_at None c s m = m ≡ s
finish_at (Some k) c s m = Finishes k c s m

abbrev pub client_in : Option Attached → List ℕ
client_in None = []
client_in (Some x) = x.badge.client

pub record Leaves (k : ℕ) (c : List ℕ) (s m : Scene) : Type 0 where
  pub hub : One k (leaves c) s.hub m.hub
  pub people : m.people ≡ left s.people c (client_in (attached_at s.hub k))
  pub rest : m ≡ record s { hub = m.hub; people = m.people }

abbrev pub leave_at : Option ℕ → List ℕ → Scene → Scene → Type 0
leave_at None c s m = m ≡ s
leave_at (Some k) c s m = Leaves k c s m

-- ---- what is said

abbrev pub said_at : Option ℕ → List ℕ → Node → Node → Type 0
said_at None text old new = new ≡ old
said_at (Some k) text old new = Moves k (λ a b. b ≡ push plain (Text text) a) old new

-- a publication of this epoch is brought to the hub's sessions
pub record Delivers (c e : List ℕ) (p : Placed) (old new : Node) : Type 0 where
  pub each : (k : ℕ)
      → Both (InState (λ a b. b ≡ comes (delivering p) c (at_offset e p) a)) (attached_at old k)
      (attached_at new k)
  pub agrees : Agrees (attached_at new) new.rows

abbrev pub brings : List ℕ → List ℕ → Option Placed → Node → Node → Type 0
brings c e None old new = new ≡ old
brings c e (Some p) old new = Delivers c e p old new

abbrev pub brings_newest : List ℕ → Option Shown → Node → Node → Type 0
brings_newest c None old new = new ≡ old
brings_newest c (Some x) old new = brings c x.epoch (newest_of x) old new

-- the publication of the channel that is due
abbrev pub brings_due : Option (List ℕ) → StreamMap → Node → Node → Type 0
brings_due None streams old new = new ≡ old
brings_due (Some c) streams old new = brings_newest c (stream_of streams c) old new

-- the text is said, and then what is due is delivered
pub record SaysAndBrings (text : List ℕ) (s m : Scene) : Type 0 where
  pub between : Node
  pub says : said_at s.number text s.hub between
  pub brings : brings_due s.due s.streams between m.hub
  pub rest : m ≡ record s { hub = m.hub; due = None }

-- ---- streams

-- what is due after a publish to a channel: a repeat brings nothing
abbrev pub due_after : Bool → List ℕ → Option (List ℕ) → Option (List ℕ)
due_after repeated c due = if repeated then due else Some c

-- the datum is published under the key, or repeats what was
pub record Publishes (c key : List ℕ) (d : Datum) (s m : Scene) (a : Answer) : Type 0 where
  pub epoch : List ℕ
  pub drawn : Draws draws_front (stream_of s.streams c) epoch s.epochs m.epochs
  pub streams : m.streams ≡ put_at s.streams c (Some (after_publish (used s c epoch) key d 0))
  pub answer : a ≡ Found outgoing.Published
  pub rest : m ≡ record s {
    streams = m.streams;
    epochs = m.epochs;
    due = due_after (is_some (repeated_by (used s c epoch) key)) c s.due;
  }

pub record IsAtLast (c key : List ℕ) (s m : Scene) (a : Answer) : Type 0 where
  pub last : IsSomeAnd (stream_of s.streams c) (λ x. IsStuck x key)
  pub denies : Denies (refusal_code AtLastOffset) s m a

abbrev pub publish_at : (channel key : List ℕ) → Datum → Scene → Scene → Answer → Type 0
publish_at c key d s m a = Publishes c key d s m a ⊎ IsAtLast c key s m a ⊎ HasNoEpoch c s m a

-- the stream is listed in the reply to a command
pub record Lists (c : List ℕ) (id : ℕ) (limit : ℤ) (since : Option Position) (s m : Scene) (a : Answer) : Type 0 where
  pub position : Position
  pub publications : List Placed
  pub between : Scene
  pub history : IsHistory (used s c position.epoch) since limit position publications
  pub drawn : Draws draws_front (stream_of s.streams c) position.epoch s.epochs between.epochs
  pub streams : between.streams ≡ put_at s.streams c (Some (used_at (used s c position.epoch) 0))
  pub rest : between ≡ record s { streams = between.streams; epochs = between.epochs }
  pub says : SaysAndBrings (reply_text id (outgoing.Past position publications)) between m
  pub answer : a ≡ Done

pub record IsOfAnotherEpoch (c : List ℕ) (since : Option Position) (s m : Scene) (a : Answer) : Type 0 where
  pub another : IsOfAnother (stream_of s.streams c) since
  pub denies : Denies (refusal_code OtherEpoch) s m a

abbrev pub history_at : List ℕ → ℕ → ℤ → Option Position → Scene → Scene → Answer → Type 0
history_at c id limit since s m a =
    Lists c id limit since s m a ⊎ IsOfAnotherEpoch c since s m a ⊎ HasNoEpoch c s m a

-- ---- every call

abbrev pub CallStep : Scene → Call → Answer → Scene → Type 0
CallStep s (call.Attach user) a m = attach_at s.number user s m a
CallStep s (call.Begin c id since) a m = begin_at s.number c id since s m a
CallStep s (call.Read c since) a m = read_at s.number c since s m a
CallStep s (call.Finish c) a m = finish_at s.number c s m × (a ≡ Done)
CallStep s (call.Leave c) a m = leave_at s.number c s m × (a ≡ Done)
CallStep s (call.Publish c key body info) a m = publish_at c key (record { body = body; info = Some info }) s m a
CallStep s (call.History c id limit since) a m = history_at c id limit since s m a
CallStep s (call.Presence c) a m = (m ≡ s) × (a ≡ Found (outgoing.Present (users_of (clients_of s.people c))))
CallStep s (call.Stats c) a m =
    (m ≡ s) × (a ≡ Found (outgoing.Counted (fin.len (clients_of s.people c)) (user_count (clients_of s.people c))))

-- ---- a pong, and a close

abbrev pub pong_at : Option ℕ → Scene → Scene → Type 0
pong_at None s m = m ≡ s
pong_at (Some k) s m =
    OnHub (λ old new. (attached_at new k ≡ option_map badge_ponged (attached_at old k)) × OthersStay k old new) s m

abbrev pub close_at : Option ℕ → CloseCode → Scene → Scene → Type 0
close_at None code s m = m ≡ record s { turned_away = Some code }
close_at (Some k) code s m = OnHub (One k (closes_now (Close (close_code_of code)))) s m

-- ---- every act

abbrev pub Step : Scene → Act → Option Answer → Scene → Type 0
Step s (Calls call) None m = ⊥
Step s (Calls call) (Some a) m = CallStep s call a m
Step s (Says text) None m = SaysAndBrings text s m
Step s (Says text) (Some a) m = ⊥
Step s PassesPong None m = pong_at s.number s m
Step s PassesPong (Some a) m = ⊥
Step s (Closes code) None m = close_at s.number code s m
Step s (Closes code) (Some a) m = ⊥

-- the same if no memory was refused; want of memory is remembered
pub record StepUnlessShort (s : Scene) (act : Act) (a : Option Answer) (m : Scene) : Type 0 where
  pub remembered : met_refused_memory s ≡ true → met_refused_memory m ≡ true
  pub step : met_refused_memory m ≡ false → Step s act a m
