-- What the calls of one node's hub make of all nodes.
use Rattle.std.specs.Prelude.{◌≡◌, ◌≢◌, ◌⊎◌, ◌+◌, ℕ, suc, true, false}
use Rattle.std.specs.Prelude.{Option, Some, option_and_then, option_map, List, [], ◌∷◌, slice_get}
use Rattle.cf_protocol.specs.Codes.{code_of}
use Rattle.cf_protocol.specs.Datum.{Placed}
use Rattle.cf_protocol.specs.Outgoing.{Failed, Outcome, Unsubscribed}
use Rattle.cf_protocol.specs.Position.{Position}
use Rattle.cf_protocol.specs.declared.codes.ErrorCode.{ErrorCode}
use Rattle.cf_protocol.specs.declared.codes.ErrorCode.TheVariants as error
use Rattle.cf_queue.specs.OutQueue.{Item, Close, Text}
use Rattle.cf_hub.specs.Finish.{FinishesAt}
use Rattle.cf_hub.specs.Hub.{Begins, Delivers, Meets, Node, One, OthersStay, SameNode, SameRest, attached_at, empty}
use Rattle.cf_hub.specs.Hub.{is_open, sub_at, IsBounded, IsFull, NoRoom, Opens}
use Rattle.cf_subscribers.specs.Follows.{AreFollows}
use Rattle.cf_hub.specs.Rows.{Agrees, sub_in}
use Rattle.cf_hub.specs.Session.{Attached}
use Rattle.cf_model.specs.Sessions.{checks, closes_now, is_off, is_unfinished, leaves, push, reads, takes_front}
use Rattle.cf_hub.specs.Subscriptions.{reading_of}
use Rattle.cf_hub.specs.WantOfMemory.{OrCloses}
use Rattle.cf_session.specs.SessionMachine.{reply_text}
use Rattle.cf_hub.specs.Wordings.{plain, reading}
use Rattle.cf_stream.specs.declared.answer.Recovery.{Recovery}
use Rattle.cf_protocol.specs.Datum.{Who}
use Rattle.cf_world.specs.BrokerTie.{who_by}
use Rattle.cf_world.specs.declared.clients.SessionAddress.{SessionAddress}

abbrev pub Hubs : Type 0
Hubs = ℕ → Option Node

-- hub n changes so, if it is there, and the others stay
pub record OneHub (n : ℕ) (P : Node → Node → Type 0) (old new : Hubs) (h : Node) : Type 0 where
  pub hub : Node
  pub now : new n ≡ Some hub
  pub changes : P h hub
  pub others : (j : ℕ) → j ≢ n → new j ≡ old j

abbrev pub AtHub : ℕ → (Node → Node → Type 0) → Hubs → Hubs → Type 0
AtHub n P old new = (h : Node) → old n ≡ Some h → OneHub n P old new h

-- of all hubs, that of node n goes from h to g
pub record Moves (n : ℕ) (h g : Node) (old new : Hubs) : Type 0 where
  pub was : old n ≡ Some h
  pub now : new n ≡ Some g
  pub others : (j : ℕ) → j ≢ n → new j ≡ old j

-- all hubs are as they were
abbrev pub AreSame : Hubs → Hubs → Type 0
AreSame old new = (j : ℕ) → new j ≡ old j

-- no subscription of a session waits for its reply
abbrev pub IsSettled : Option Attached → Type 0
IsSettled o = (c : List ℕ) → is_unfinished (sub_in o c) ≡ false

-- what a session's client takes next
abbrev pub front : Option Attached → Option Item
front o = option_and_then (λ (a : Attached). slice_get a.state.notes 0) o

-- no request for memory was refused
pub record Unrefused (P : Node → Node → Type 0) (h g : Node) : Type 0 where
  pub does : P h g
  pub same : SameNode h g
  pub none : g.refused ≡ 0

abbrev pub Finished : ℕ → List ℕ → Node → Node → Type 0
Finished k c = Unrefused (λ h g. Meets k (λ hit. FinishesAt hit c (sub_at h k c)) h g)

abbrev pub Delivered : List ℕ → List ℕ → Placed → Node → Node → Type 0
Delivered c e p = Unrefused (Delivers c e p)

abbrev pub Checked : ℕ → List ℕ → Option Position → Node → Node → Type 0
Checked k c top = Unrefused (Meets k (λ hit. OrCloses hit plain (checks plain c top)))

abbrev pub Told : ℕ → List ℕ → Node → Node → Type 0
Told k text = Unrefused (Meets k (λ hit. OrCloses hit plain (push plain (Text text))))

-- a call that takes no memory
pub record Quiet (P : Node → Node → Type 0) (h g : Node) : Type 0 where
  pub does : P h g
  pub same : SameRest h g

abbrev pub WasRead : ℕ → List ℕ → Recovery → Node → Node → Type 0
WasRead k c r = Quiet (One k (reads (reading r.publications.items) c (reading_of r)))

abbrev pub Left : ℕ → List ℕ → Node → Node → Type 0
Left k c = Quiet (One k (leaves c))

abbrev pub Closed : ℕ → ℕ → Node → Node → Type 0
Closed k code = Quiet (One k (closes_now (Close code)))

abbrev pub Taken : ℕ → Node → Node → Type 0
Taken k = Quiet (One k takes_front)

pub record Gone (k : ℕ) (h g : Node) : Type 0 where
  pub gone : attached_at g k ≡ Option.None
  pub others : OthersStay k h g
  pub same : SameRest h g

-- node n begins anew, under the next boot number
abbrev pub Renewed : ℕ → Node → Node → Type 0
Renewed n h g = g ≡ empty n (h.boot + 1)

-- nodes from this number on, in their first boot
abbrev pub AreNew : ℕ → List Node → Type 0
AreNew n [] = Unit {0}
AreNew n (h ∷ hs) = (h ≡ empty n 1) × AreNew (suc n) hs

-- what always holds of a hub
pub record IsSound (h : Node) : Type 0 where
  pub rows : AreFollows h.rows
  pub agrees : Agrees (attached_at h) h.rows
  pub bounded : IsBounded (attached_at h)

-- session k is new
pub record Sits (k : ℕ) (h g : Node) : Type 0 where
  pub sound : IsSound h
  pub room : NoRoom h → ⊥
  pub free : attached_at h k ≡ Option.None
  pub user : List ℕ
  pub moment : ℕ
  pub opens : Opens k user moment h g

-- there is no room for one more
pub record StaysFull (h g : Node) : Type 0 where
  pub sound : IsSound h
  pub full : NoRoom h
  pub stays : (k : ℕ) → attached_at g k ≡ attached_at h k
  pub same : SameNode h g
  pub refused : g.refused ≡ h.refused

-- node n has a new session, or none: it isn't there, or has no room
abbrev pub Attaches : ℕ → Option ℕ → Hubs → Hubs → Type 0
Attaches n Option.None old new =
    ((old n ≡ Option.None) × ((j : ℕ) → new j ≡ old j))
    ⊎ ((h : Node) × (old n ≡ Some h) × OneHub n StaysFull old new h)
Attaches n (Some k) old new = (h : Node) × (old n ≡ Some h) × OneHub n (Sits k) old new h

-- ---- a command is answered

-- the text that refuses command id
abbrev pub error_text : ℕ → ErrorCode → List ℕ
error_text id code = reply_text id (Failed (code_of code))

abbrev pub Answered : SessionAddress → ℕ → Outcome → Hubs → Hubs → Type 0
Answered s id o = AtHub s.node (Told s.session (reply_text id o))

-- the session leaves the channel, and is told so
pub record LeftTold (k : ℕ) (c : List ℕ) (id : ℕ) (h g : Node) : Type 0 where
  pub mid : Node
  pub left : Left k c h mid
  pub told : Told k (reply_text id Unsubscribed) mid g

-- an open session asks for a channel: it isn't subscribed, and there is room; it is subscribed, or asking; or there
-- is no room
pub record Began (k : ℕ) (c : List ℕ) (id : ℕ) (since : Option Position) (h g : Node) : Type 0 where
  pub off : is_off (sub_at h k c) ≡ true
  pub room : IsFull k h → ⊥
  pub begins : Begins k c id since h g

pub record AskedTwice (k : ℕ) (c : List ℕ) (id : ℕ) (h g : Node) : Type 0 where
  pub off : is_off (sub_at h k c) ≡ false
  pub told : Told k (error_text id error.AlreadySubscribed) h g

pub record AskedTooMuch (k : ℕ) (c : List ℕ) (id : ℕ) (h g : Node) : Type 0 where
  pub off : is_off (sub_at h k c) ≡ true
  pub full : IsFull k h
  pub told : Told k (error_text id error.LimitExceeded) h g

pub record Asks (k : ℕ) (c : List ℕ) (id : ℕ) (since : Option Position) (h g : Node) : Type 0 where
  pub sound : IsSound h
  pub one : is_open (attached_at h k) ≡ true
      → Began k c id since h g ⊎ (AskedTwice k c id h g ⊎ AskedTooMuch k c id h g)

-- who a session's client is
abbrev pub who_in : Option Attached → Option Who
who_in o = who_by (option_map (λ a. a.badge.client) o)
