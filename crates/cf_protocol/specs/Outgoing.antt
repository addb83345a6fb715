-- What goes out to a client, as contracts see it. (Centrifugo's client protocol: `Reply`, its results, and `Push`.)
use Rattle.std.specs.Prelude.{ℕ, List, Bool}
use Rattle.cf_protocol.specs.Position.{Position}
use Rattle.std.specs.FinMap.{FinMap}
use Rattle.std.specs.Ordering.{nat_cmp}
use Rattle.std.specs.Cmp.Lexicographic.{slice_cmp}
use Rattle.cf_protocol.specs.Datum.{Placed}

abbrev pub Users : Type 0
Users = FinMap (slice_cmp nat_cmp) (List ℕ)

-- the result of a command
pub data Outcome : Type 0 where
  Connected : (client : List ℕ) → Outcome
  Subscribed : (position : Position) → (publications : List Placed) → (recovered : Bool) → (was_recovering : Bool)
      → Outcome
  Unsubscribed : Outcome
  Published : Outcome
  -- the user of each client, by the client's id
  Present : (users : Users) → Outcome
  Counted : (clients : ℕ) → (users : ℕ) → Outcome
  Past : (position : Position) → (publications : List Placed) → Outcome
  Pinged : Outcome
  Failed : (code : ℕ) → Outcome

-- what comes unasked for on a channel
pub data Pushed : Type 0 where
  Publication : (publication : Placed) → Pushed
  Unsubscribe : (code : ℕ) → Pushed

-- one text to the client; it holds one reply or one push
pub data Outgoing : Type 0 where
  Ping : Outgoing
  Answer : (id : ℕ) → (result : Outcome) → Outgoing
  Push : (channel : List ℕ) → (push : Pushed) → Outgoing
