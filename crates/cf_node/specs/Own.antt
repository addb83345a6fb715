-- What is done in a node's hub for a client: it befalls the client's own session, and no other. (This project's own
-- profile.)
use Rattle.std.specs.Prelude.{◌≡◌, ℕ, true, false, Option, Some, None, List, option_map}
use Rattle.cf_protocol.specs.Position.{Position}
use Rattle.cf_protocol.specs.declared.codes.ErrorCode.{ErrorCode}
use Rattle.cf_protocol.specs.declared.codes.ErrorCode.TheVariants as error
use Rattle.cf_queue.specs.OutQueue.{Text, Close}
use Rattle.cf_queue.specs.declared.queue.Out.{Out}
use Rattle.cf_model.specs.Sessions.{checks, closes_now, leaves, push}
use Rattle.cf_hub.specs.Finish.{FinishesAt}
use Rattle.cf_hub.specs.Hub.{Begins, IsFull, IsOpenWith, Meets, NoRoom, Node, One, Opens, OthersStay}
use Rattle.cf_hub.specs.Hub.{attached_at, sub_at}
use Rattle.cf_hub.specs.Session.{badge_ponged}
use Rattle.cf_hub.specs.WantOfMemory.{OrCloses}
use Rattle.cf_hub.specs.Wordings.{plain}
use Rattle.cf_dispatch.specs.Outlet.{Takes}

-- this befalls its own session, and where a client has none, nothing changes
abbrev pub ToOwn : (ℕ → Node → Node → Type 0) → Option ℕ → Node → Node → Type 0
ToOwn befalls None old new = new ≡ old
ToOwn befalls (Some k) old new = befalls k old new

-- a text waits for the client of session k, or the session is closed
abbrev pub Says : List ℕ → ℕ → Node → Node → Type 0
Says text k = Meets k (λ hit. OrCloses hit plain (push plain (Text text)))

-- what its subscription to a channel was asked for waits for its client, or the session is closed
abbrev pub Finishes : List ℕ → ℕ → Node → Node → Type 0
Finishes c k old new = Meets k (λ hit. FinishesAt hit c (sub_at old k c)) old new

-- it leaves a channel
abbrev pub Leaves : List ℕ → ℕ → Node → Node → Type 0
Leaves c k = One k (leaves c)

-- its subscription to a channel is checked against where the stream stands
abbrev pub Checks : List ℕ → Option Position → ℕ → Node → Node → Type 0
Checks c top k = Meets k (λ hit. OrCloses hit plain (checks plain c top))

-- it is closed with this code
abbrev pub Closes : ℕ → ℕ → Node → Node → Type 0
Closes code k = One k (closes_now (Close code))

-- it owes no answer to a ping, and the others stay
pub record Pongs (k : ℕ) (old new : Node) : Type 0 where
  pub here : attached_at new k ≡ option_map badge_ponged (attached_at old k)
  pub others : OthersStay k old new

-- it is gone, and the others stay
pub record Goes (k : ℕ) (old new : Node) : Type 0 where
  pub here : attached_at new k ≡ None
  pub others : OthersStay k old new

-- what was taken for it is what waited there in front, in order, and the others stay
abbrev pub MovesOwn : Option ℕ → Node → Node → (had has : List Out) → Type 0
MovesOwn None old new had has = new ≡ old
MovesOwn (Some k) old new had has = Takes k old new had has

-- it has begun what was asked for
abbrev pub BeginsOwn : Option ℕ → (channel : List ℕ) → (id : ℕ) → Option Position → Node → Node → Type 0
BeginsOwn None c id since old new = ⊥
BeginsOwn (Some k) c id since old new = Begins k c id since old new

-- it is new, and the others stay
abbrev pub OpensOwn : Option ℕ → (user : List ℕ) → (now : ℕ) → Node → Node → Type 0
OpensOwn None user now old new = ⊥
OpensOwn (Some k) user now old new = Opens k user now old new

-- the sessions of all others stay as they are; where a client has none of its own, all do
abbrev pub SparesOthers : Option ℕ → Node → Node → Type 0
SparesOthers None old new = (j : ℕ) → attached_at new j ≡ attached_at old j
SparesOthers (Some k) old new = OthersStay k old new

-- with which code it gets no session: 106 where the node has no room for one more, else 100
abbrev pub FailsToAttach : Node → ErrorCode → Type 0
FailsToAttach h error.Internal = Unit {0}
FailsToAttach h error.LimitExceeded = NoRoom h
FailsToAttach h other = ⊥

-- With which code no subscription of its session begins: 105 where that has the channel already, 106 where it hasn't,
-- and there is no room for one more; else 100.
abbrev pub FailsToBegin : Option ℕ → (channel : List ℕ) → Node → ErrorCode → Type 0
FailsToBegin own c h error.Internal = Unit {0}
FailsToBegin (Some k) c h error.AlreadySubscribed = IsOpenWith (λ off. off ≡ false) k c h
FailsToBegin (Some k) c h error.LimitExceeded = IsOpenWith (λ off. off ≡ true) k c h × IsFull k h
FailsToBegin own c h other = ⊥
