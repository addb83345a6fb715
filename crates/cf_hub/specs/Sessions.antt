-- What a call makes of one of a node's sessions: of the session itself, and of all of them by number.
use Rattle.std.specs.Prelude.{◌≡◌, ◌≢◌, ◌&&◌, ℕ, not, Bool, true, false, if◌then◌else◌, Option, IfSome}
use Rattle.std.specs.Prelude.{List, map, option_map}
use Rattle.cf_protocol.specs.Datum.{Placed}
use Rattle.cf_queue.specs.OutQueue.{Item, Text, Close}
use Rattle.cf_queue.specs.declared.refusal.QueueRefusal.{QueueRefusal}
use Rattle.cf_queue.specs.declared.refusal.QueueRefusal.TheVariants as refusal
use Rattle.cf_stream.specs.declared.answer.Recovery.{Recovery}
use Rattle.cf_hub.specs.Delivery.{fate_of}
use Rattle.cf_hub.specs.Finish.{FinishesAt}
use Rattle.cf_hub.specs.Hub.{InState, attached_in, moves}
use Rattle.cf_hub.specs.Places.{Places}
use Rattle.cf_hub.specs.Rows.{off_after, sub_in}
use Rattle.cf_hub.specs.Session.{Attached, Badge, badge_of, state_of, ticks}
use Rattle.cf_model.specs.Sessions.{Off, SessionState, closes_now, comes, is_off, push, put_sub, reads}
use Rattle.cf_model.specs.Sessions.{no_memory, slow}
use Rattle.cf_hub.specs.Subscriptions.{reading_of}
use Rattle.cf_hub.specs.WantOfMemory.{Both, OrCloses, SaysAll, Serves}
use Rattle.cf_hub.specs.Wordings.{Held, at_offset, delivering, plain, push_text, reading}
use Rattle.cf_hub.specs.declared.fate.Fate.{Fate}
use Rattle.cf_hub.specs.declared.fate.Fate.TheVariants.{Closed, Ended, Passed}
use Rattle.cf_hub.specs.declared.reply.Answered.{Answered}
use Rattle.cf_hub.specs.declared.session.AttachedSession.{AttachedSession}
use Rattle.cf_hub.specs.declared.step.Step.{Step}

abbrev pub Move : Type 0
Move = SessionState Held Item → SessionState Held Item

-- ---- moves

-- a text is said
abbrev pub says_one : List ℕ → Move
says_one t = push plain (Text t)

-- what comes of a text that is refused so
abbrev pub unsaid : QueueRefusal → Move
unsaid refusal.Closed s = s
unsaid refusal.Slow s = closes_now (Close slow) s
unsaid refusal.Memory s = closes_now (Close no_memory) s

abbrev pub wants_memory : QueueRefusal → Bool
wants_memory refusal.Closed = false
wants_memory refusal.Slow = false
wants_memory refusal.Memory = true

-- the read of a channel's stream is taken
abbrev pub takes_read : Recovery → List ℕ → Move
takes_read r c = reads (reading r.publications.items) c (reading_of r)

-- the client leaves a channel, if so
abbrev pub leaves_if : Bool → List ℕ → Move
leaves_if ends c s = if ends then put_sub c Off s else s

-- the pushes of these
abbrev pub pushes : List ℕ → List Placed → List Item
pushes c ps = map (λ p. Text (push_text c p)) ps

-- a ping is said if one is due
abbrev pub ticks_of : ℕ → AttachedSession → Move
ticks_of now s = ticks plain now (badge_of s)

-- ---- one session

-- the badge of a client that was just attached
abbrev pub new_badge : List ℕ → List ℕ → ℕ → Badge
new_badge client user now = record { client = client; user = user; pinged = now; awaits_pong = false }

-- its state goes to what the move makes of it
abbrev pub Moves : Move → AttachedSession → AttachedSession → Type 0
Moves move old new = state_of new ≡ move (state_of old)

-- its state goes to what the move makes of it; or memory was refused for it, and it is closed in place of that
abbrev pub Acts : Bool → Move → AttachedSession → AttachedSession → Type 0
Acts refused move old new = OrCloses refused plain move (state_of old) (state_of new)

-- a text is said, if there is one; or memory was refused for it, and it is closed in place of that
abbrev pub SaysText : Bool → Option (List ℕ) → AttachedSession → AttachedSession → Type 0
SaysText refused text old new =
    (t : List ℕ) → IfSome text (λ x. x ≡ t) → Acts refused (says_one t) old new

-- it is told these; or memory was refused amid them, and it is closed then
abbrev pub Tells : Bool → List Item → AttachedSession → AttachedSession → Type 0
Tells refused notes old new = SaysAll refused plain notes (state_of old) (state_of new)

-- it met a delivery
abbrev pub IsBrought : Bool → List ℕ → List ℕ → Placed → AttachedSession → AttachedSession → Type 0
IsBrought refused c e p old new =
    Serves refused (delivering p) c (comes (delivering p) c (at_offset e p)) (state_of old) (state_of new)

abbrev pub fate_brought : List ℕ → List ℕ → Placed → AttachedSession → AttachedSession → Fate
fate_brought c e p old new = fate_of c (at_offset e p) (state_of old) (state_of new)

-- its channels are off after as this fate at channel c says
abbrev pub EndsAs : Fate → List ℕ → AttachedSession → AttachedSession → Type 0
EndsAs f c old new =
    (d : List ℕ) → is_off ((state_of new).subs d) ≡ off_after f c d (is_off ((state_of old).subs d))

-- closed if the call closed it, else this
abbrev pub closed_or : Bool → AttachedSession → Fate → Fate
closed_or was_closed s f = if not was_closed && (state_of s).closed then Closed else f

-- what a finish did that closed nobody
abbrev pub finish_fate : Answered → Fate
finish_fate a = if a.released.insufficient then Ended else Passed

-- the channel's subscription is finished if there is one to finish
abbrev pub FinishesSession : Bool → List ℕ → AttachedSession → AttachedSession → Type 0
FinishesSession refused c old new = FinishesAt refused c ((state_of old).subs c) (state_of old) (state_of new)

-- ---- the session of a number

-- the sessions of other numbers are as they were
abbrev pub OthersStayIn : ℕ → Places → Places → Type 0
OthersStayIn k old new = (j : ℕ) → j ≢ k → attached_in new j ≡ attached_in old j

-- the session of k, if there is one, becomes this
abbrev pub BecomesIn : ℕ → (Attached → Attached) → Places → Places → Type 0
BecomesIn k f old new = attached_in new k ≡ option_map f (attached_in old k)

-- it makes this move
abbrev pub MovesIn : ℕ → Move → Places → Places → Type 0
MovesIn k move old new = BecomesIn k (moves move) old new

-- R stands between it before and after
abbrev pub MeetsIn : ℕ → (Attached → Attached → Type 0) → Places → Places → Type 0
MeetsIn k R old new = Both R (attached_in old k) (attached_in new k)

-- it makes this move, or is closed if memory was refused
abbrev pub ActsIn : ℕ → Step → Move → Places → Places → Type 0
ActsIn k step move old new = MeetsIn k (InState (OrCloses step.refused plain move)) old new

-- its channel's subscription is finished if there is one to finish
abbrev pub FinishesIn : ℕ → Step → List ℕ → Places → Places → Type 0
FinishesIn k step c old new = MeetsIn k (InState (FinishesAt step.refused c (sub_in (attached_in old k) c))) old new

-- its channels are off after as this fate at channel c says
abbrev pub EndsIn : ℕ → Fate → List ℕ → Places → Places → Type 0
EndsIn k f c old new =
    (d : List ℕ) → is_off (sub_in (attached_in new k) d) ≡ off_after f c d (is_off (sub_in (attached_in old k) d))
