-- What calls on streams draw, when they are refused, and what they answer and change of the endless lists behind them.
-- (This project's own profile.)
use Rattle.std.specs.Prelude.{◌≡◌, ◌≢◌, ◌↔◌, ℕ, ℤ, true, List, Option, Some, Result, Ok, IfOk, IfErr, IsErrOf}
use Rattle.cf_protocol.specs.declared.position.Position.{Position}
use Rattle.cf_protocol.specs.Datum.{Datum}
use Rattle.cf_stream.specs.declared.answer.History.{History}
use Rattle.cf_stream.specs.declared.answer.Published.{Published}
use Rattle.cf_stream.specs.declared.answer.Recovery.{Recovery}
use Rattle.cf_stream.specs.declared.refusal.StreamRefusal.{StreamRefusal}
use Rattle.cf_stream.specs.declared.refusal.StreamRefusal.TheVariants.{AtLastOffset, WrongEpoch, NoEpoch, Memory}
use Rattle.cf_stream.specs.ChannelLists.{ChangesAt, ListsAt, PublishesAt, ReadsAt, life_read, life_with}
use Rattle.cf_stream.specs.FreshEpochs.{Draws, LacksEpoch}
use Rattle.cf_stream.specs.Stream.{Shown, IsAtLast, IsStuck, answer_to, repeated_by}
use Rattle.cf_stream.specs.Streams.{StreamMap, IsOfAnother, repeat_at, size_at}

-- ---- `epochs`: what a call draws, at a channel that has this stream, or none

-- an answer in this epoch: drawn if no stream stood; no epoch only if none stood and none was drawn; at another
-- refusal nothing was drawn
pub record DrawsToOpen {E X : Type 0} (draws : E → Option (List ℕ) → E → Type 0) (stood : Option Shown)
    (old new : E)
    (result : Result X StreamRefusal) (epoch : X → List ℕ) : Type 0 where
  pub drawn : IfOk result (λ x. Draws draws stood (epoch x) old new)
  pub no_epoch : IsErrOf result NoEpoch → LacksEpoch draws stood old new
  pub undrawn : IfErr result (λ e. e ≢ NoEpoch → new ≡ old)

-- ---- `refusals`: when each is given, and which is never

-- of a publish to one stream: a repeat has none; the last offset exactly if the stream is there; else memory alone
pub record RefusalsOfOne (s : Shown) (key : List ℕ) (result : Result Published StreamRefusal) : Type 0 where
  pub repeat : (o : ℕ) → repeated_by s key ≡ Some o → result ≡ Ok (answer_to s key)
  pub last : IsErrOf result AtLastOffset ↔ IsStuck s key
  pub else_memory : IfErr result (λ e. e ≢ AtLastOffset → e ≡ Memory)

-- of a publish to a channel: a repeat has none; the last offset exactly if the stream is there; never a wrong epoch
pub record RefusalsOfPublish (stood : Option Shown) (key : List ℕ) (result : Result Published StreamRefusal)
    : Type 0 where
  pub repeat : (p : Position) → repeat_at stood key ≡ Some p
      → result ≡ Ok (record { position = p; repeated = true })
  pub last : IsErrOf result AtLastOffset ↔ IsAtLast stood key
  pub never : IfErr result (λ e. e ≢ WrongEpoch)

-- of a history: a wrong epoch exactly if the position is of another epoch, or there is no stream for it; never the
-- last offset
pub record RefusalsOfHistory (stood : Option Shown) (since : Option Position) (result : Result History StreamRefusal)
    : Type 0 where
  pub wrong_epoch : IsErrOf result WrongEpoch ↔ IsOfAnother stood since
  pub never : IfErr result (λ e. e ≢ AtLastOffset)

-- ---- `lists`: the answer read off the channel's endless list, and how that list goes on; all others stay

-- a publish: the list has the datum too, unless it was a repeat
pub record ListsOfPublish (channel key : List ℕ) (d : Datum) (old new : StreamMap) (p : Published) : Type 0 where
  pub answer : PublishesAt old channel key p.position p.repeated
  pub changes : ChangesAt old new channel (life_with (size_at old.namespaces channel) key d p.position.epoch)

-- a read: the list is as it was, or opens
pub record ListsOfRead (channel : List ℕ) (since : Option Position) (old new : StreamMap)
    (r : Recovery) : Type 0 where
  pub answer : ReadsAt old channel since r.position r.recovered r.publications.items
  pub changes : ChangesAt old new channel (life_read r.position.epoch)

-- a history: the same
pub record ListsOfHistory (channel : List ℕ) (since : Option Position) (limit : ℤ) (old new : StreamMap)
    (h : History) : Type 0 where
  pub answer : ListsAt old channel since limit h.position h.publications.items
  pub changes : ChangesAt old new channel (life_read h.position.epoch)
