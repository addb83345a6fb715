-- A node's sessions by number, and which session follows which channel.
pub use Rattle.cf_hub.specs.Turns.{is_in}
use Rattle.std.specs.Prelude.{◌≡◌, ◌≢◌, ◌≤◌, ◌<◌, ◌⊎◌, ℕ, ◌+◌, min, not, Bool, true, false, if◌then◌else◌, Option}
use Rattle.std.specs.Prelude.{Some, None, option_map, is_some, List, [], length, ◌++◌, ◌∷◌}
use Rattle.std.specs.BTreeMap.{is_at}
use Rattle.std.specs.Fmt.{decimal}
use Rattle.std.specs.Map.{lookup}
use Rattle.std.specs.Ordering.{nat_cmp}
use Rattle.cf_protocol.specs.Datum.{Placed}
use Rattle.cf_protocol.specs.Position.{Position}
use Rattle.cf_queue.specs.OutQueue.{Item}
use Rattle.cf_subscribers.specs.Follows.{Follow, channels_of, sessions_of, with_follow}
use Rattle.cf_model.specs.Streams.{most_channels, most_rows}
use Rattle.cf_hub.specs.Delivery.{fate_at, none, tally}
use Rattle.cf_hub.specs.declared.delivered.Delivered.{Delivered}
use Rattle.cf_hub.specs.Places.{Places, session_in}
use Rattle.cf_hub.specs.Rows.{Agrees, sub_in}
use Rattle.cf_hub.specs.Session.{Attached, Shown, attached_shown, attached_of, ticked, ticks}
use Rattle.cf_model.specs.Sessions.{SessionState, Subscription, begins, comes, is_off, opens}
use Rattle.cf_hub.specs.WantOfMemory.{Both, OrCloses, Serves}
use Rattle.cf_hub.specs.Turns.{Turns, first_turn, get_turns, gets_turn, no_turns, turns_left}
use Rattle.cf_hub.specs.Wordings.{Held, at_offset, delivering, plain}
use Rattle.cf_hub.specs.declared.refusal.HubRefusal.{HubRefusal}
use Rattle.cf_hub.specs.declared.refusal.HubRefusal.TheVariants as refusal
use Rattle.cf_hub.specs.declared.queued.Queued.{Queued}
use Rattle.cf_hub.specs.declared.queued.Queued.TheVariants as queued
use Rattle.cf_model.specs.Streams.{largest, most_sessions}

-- what contracts see of a hub: its node, its boot number, and how many client ids it has used; its sessions by
-- number; which session follows which channel; how many requests for memory were refused, up to the largest number of
-- 64 bits; and which sessions have got something to send
pub record Node : Type 0 where
  pub node : ℕ
  pub boot : ℕ
  pub used : ℕ
  pub sessions : List (ℕ × Shown)
  pub rows : List Follow
  pub refused : ℕ
  pub turns : Turns

-- the session of a number, if there is one
abbrev pub attached_at : Node → ℕ → Option Attached
attached_at h k = option_map attached_shown (lookup (is_at (nat_cmp k)) h.sessions)

abbrev pub attached_in : Places → ℕ → Option Attached
attached_in sessions k = option_map attached_of (session_in sessions k)

-- no session yet
abbrev pub empty : ℕ → ℕ → Node
empty node boot = record { node = node; boot = boot; used = 0; sessions = []; rows = []; refused = 0; turns = no_turns }

-- the numbers of all sessions are below that
abbrev pub IsBounded : (ℕ → Option Attached) → Type 0
IsBounded sessions = (k : ℕ) → most_sessions ≤ k → sessions k ≡ None

-- the numbers of all sessions are below the most, and each number below n has one
pub record AreNumbered (n : ℕ) (sessions : ℕ → Option Attached) : Type 0 where
  pub below : IsBounded sessions
  pub taken : (k : ℕ) → k < n → is_some (sessions k) ≡ true

-- no number from n on has a session
abbrev pub HasNoneFrom : ℕ → (ℕ → Option Attached) → Type 0
HasNoneFrom n sessions = (k : ℕ) → n ≤ k → sessions k ≡ None

-- k is the least number from n on that has a session
pub record IsNextFrom (n k : ℕ) (sessions : ℕ → Option Attached) : Type 0 where
  pub above : n ≤ k
  pub taken : is_some (sessions k) ≡ true
  pub between : (j : ℕ) → n ≤ j → j < k → sessions j ≡ None

-- ---- one session changes

-- what a move of states makes of a session
abbrev pub moves : (SessionState Held Item → SessionState Held Item) → Attached → Attached
moves f a = record a { state = f a.state }

-- the states are related, and the session is the same
abbrev pub InState : (SessionState Held Item → SessionState Held Item → Type 0) → Attached → Attached → Type 0
InState R a b = R a.state b.state × (b.badge ≡ a.badge)

-- the sessions of other numbers stay
abbrev pub OthersStay : ℕ → Node → Node → Type 0
OthersStay k old new = (j : ℕ) → j ≢ k → attached_at new j ≡ attached_at old j

-- session k goes to what the move makes of it, and the others stay
pub record One (k : ℕ) (move : SessionState Held Item → SessionState Held Item) (old new : Node) : Type 0 where
  pub here : attached_at new k ≡ option_map (moves move) (attached_at old k)
  pub others : OthersStay k old new
  pub agrees : Agrees (attached_at new) new.rows

-- the channel of session k; Off if there is no such session
abbrev pub sub_at : Node → ℕ → List ℕ → Subscription Held
sub_at h k c = sub_in (attached_at h k) c

abbrev pub is_open : Option Attached → Bool
is_open None = false
is_open (Some a) = not a.state.closed

-- what waits for a session's client
abbrev pub waits_in : Option Attached → List Item
waits_in None = []
waits_in (Some a) = a.state.notes

abbrev pub is_waiting : List Item → Bool
is_waiting [] = false
is_waiting (n ∷ ns) = true

-- ---- want of memory

-- the count of refused requests after n more
abbrev pub counted : ℕ → ℕ → ℕ
counted n refused = min (refused + n) largest

abbrev pub one_if : Bool → ℕ
one_if b = if b then 1 else 0

-- ---- a delivery

-- what a delivery makes of a session
abbrev pub Brings : Bool → List ℕ → List ℕ → Placed → Attached → Attached → Type 0
Brings refused c e p = InState (Serves refused (delivering p) c (comes (delivering p) c (at_offset e p)))

-- A delivery meets each session: the ones that are hit, for which memory was refused, follow the channel and are as
-- many as the refused requests at most, and all others go to what the machine makes of them.
pub record Delivers (c e : List ℕ) (p : Placed) (old new : Node) : Type 0 where
  pub hit : List ℕ
  pub hit_follow : (k : ℕ) → is_in k hit ≡ true → is_off (sub_at old k c) ≡ false
  pub each : (k : ℕ) → Both (Brings (is_in k hit) c e p) (attached_at old k) (attached_at new k)
  pub requests : ℕ
  pub few_hit : length hit ≤ requests
  pub count : new.refused ≡ counted requests old.refused

-- how many sessions it met by what it did with them, each follower once
abbrev pub tallied : List ℕ → List ℕ → Placed → Node → Node → Delivered
tallied c e p old new =
    tally (λ k. fate_at c (at_offset e p) (attached_at old k) (attached_at new k)) (sessions_of old.rows c) none

-- each follower gets its turn, in order
abbrev pub EachGetsTurn : List ℕ → Node → Node → Type 0
EachGetsTurn c old new = new.turns ≡ get_turns (sessions_of old.rows c) old.turns

-- a request for memory was refused, if so
abbrev pub met_refusal : Bool → Node → Node
met_refusal refused h = record h { refused = counted (one_if refused) h.refused }

-- node, boot number and client ids are as they were
pub record SameNode (old new : Node) : Type 0 where
  pub node : new.node ≡ old.node
  pub boot : new.boot ≡ old.boot
  pub used : new.used ≡ old.used

-- and no request for memory was refused
pub record SameRest (old new : Node) : Type 0 where
  pub node : new.node ≡ old.node
  pub boot : new.boot ≡ old.boot
  pub used : new.used ≡ old.used
  pub refused : new.refused ≡ old.refused

-- Session k meets a call that may want memory: R says what became of its state, if memory was refused for it or not.
pub record Meets (k : ℕ) (R : Bool → SessionState Held Item → SessionState Held Item → Type 0)
    (old new : Node) : Type 0 where
  pub hit : Bool
  pub here : Both (InState (R hit)) (attached_at old k) (attached_at new k)
  pub others : OthersStay k old new
  pub count : new.refused ≡ counted (one_if hit) old.refused
  pub agrees : Agrees (attached_at new) new.rows

-- what is answered to a text that is to be said
abbrev pub queued_in : Option Attached → Queued
queued_in None = queued.Gone
queued_in (Some a) = if a.state.closed then queued.Closed else queued.Kept

-- The tick meets each session: those that are hit, for which memory was refused, are as many as the refused requests
-- at most, and all others go to what it makes of them. Each gets its turn.
abbrev pub Pings : Bool → ℕ → Attached → Attached → Type 0
Pings hit now a b = OrCloses hit plain (ticks plain now a.badge) a.state b.state × (b.badge ≡ ticked now a.badge)

pub record Ticks (now : ℕ) (old new : Node) : Type 0 where
  pub hit : List ℕ
  pub each : (k : ℕ) → Both (Pings (is_in k hit) now) (attached_at old k) (attached_at new k)
  pub requests : ℕ
  pub few_hit : length hit ≤ requests
  pub count : new.refused ≡ counted requests old.refused
  pub all : List ℕ
  pub all_sessions : (k : ℕ) → is_in k all ≡ is_some (attached_at old k)
  pub turns : new.turns ≡ get_turns all old.turns
  pub agrees : Agrees (attached_at new) new.rows

-- ---- refusals

-- the least number that no session has
pub record IsLeastFree (h : Node) (k : ℕ) : Type 0 where
  pub free : attached_at h k ≡ None
  pub least : (j : ℕ) → j < k → is_some (attached_at h j) ≡ true

-- a client's id: its node, the boot number, and how many the node has used with it
abbrev pub client_id : ℕ → ℕ → ℕ → List ℕ
client_id node boot count = decimal node ++ (45 ∷ (decimal boot ++ (45 ∷ decimal count)))

-- a session that was just attached
abbrev pub fresh : List ℕ → List ℕ → ℕ → Attached
fresh client user now = record {
  badge = record { client = client; user = user; pinged = now; awaits_pong = false };
  state = opens;
}

-- session k is new, under the next client id, and the others stay
pub record Opens (k : ℕ) (user : List ℕ) (now : ℕ) (old new : Node) : Type 0 where
  pub here : attached_at new k ≡ Some (fresh (client_id old.node old.boot (old.used + 1)) user now)
  pub others : OthersStay k old new
  pub used : new.used ≡ old.used + 1
  pub node : new.node ≡ old.node
  pub boot : new.boot ≡ old.boot
  pub rows : new.rows ≡ old.rows
  pub refused : new.refused ≡ old.refused
  pub agrees : Agrees (attached_at new) new.rows

-- the node has all sessions that it may have, or no client id is left
abbrev pub NoRoom : Node → Type 0
NoRoom h = ((k : ℕ) → k < most_sessions → is_some (attached_at h k) ≡ true) ⊎ (h.used ≡ largest)

-- nothing changed
pub record IsSame (old new : Node) : Type 0 where
  pub sessions : (k : ℕ) → attached_at new k ≡ attached_at old k
  pub rows : new.rows ≡ old.rows
  pub rest : SameRest old new

-- a refused call changes nothing, but that want of memory is counted
abbrev pub after_refusal : HubRefusal → ℕ → ℕ
after_refusal refusal.NoSession n = n
after_refusal refusal.Already n = n
after_refusal refusal.TooMany n = n
after_refusal refusal.Memory n = counted 1 n

pub record IsRefused (e : HubRefusal) (old new : Node) : Type 0 where
  pub sessions : (k : ℕ) → attached_at new k ≡ attached_at old k
  pub rows : new.rows ≡ old.rows
  pub rest : SameNode old new
  pub refused : new.refused ≡ after_refusal e old.refused

-- the session has all channels that it may have, or the node all rows
abbrev pub IsFull : ℕ → Node → Type 0
IsFull k h = (most_channels ≤ length (channels_of h.rows k)) ⊎ (length h.rows ≡ most_rows)

-- session k asks for a channel, has a row for it behind all others, and all else stays
pub record Begins (k : ℕ) (c : List ℕ) (id : ℕ) (since : Option Position) (old new : Node) : Type 0 where
  pub one : One k (begins plain c id since) old new
  pub rows : new.rows ≡ with_follow old.rows c k
  pub rest : SameRest old new

-- k is the first whose turn it is and for whose client something waits; it and those before it have had their turn
pub record IsNextTurn (sessions : ℕ → Option Attached) (old new : Turns) (k : Option ℕ) : Type 0 where
  pub first : k ≡ first_turn (λ j. is_waiting (waits_in (sessions j))) old.numbers
  pub left : new.numbers ≡ turns_left (λ j. is_waiting (waits_in (sessions j))) old.numbers
  pub known : new.known ≡ old.known

-- session k meets a tick
pub record PingStep (now k : ℕ) (old new : Node) : Type 0 where
  pub hit : Bool
  pub here : Both (Pings hit now) (attached_at old k) (attached_at new k)
  pub others : OthersStay k old new
  pub count : new.refused ≡ counted (one_if hit) old.refused
  pub turns : new.turns ≡ gets_turn k old.turns
  pub agrees : Agrees (attached_at new) new.rows

-- session k is open, and whether its channel is off is so
abbrev pub IsOpenWith : (Bool → Type 0) → ℕ → List ℕ → Node → Type 0
IsOpenWith P k c h = (is_open (attached_at h k) ≡ true) × P (is_off (sub_at h k c))
