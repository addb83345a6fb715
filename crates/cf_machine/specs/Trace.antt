-- What the clients' applications got in a run. Each entry has its event's number, the client, and what it was told.
-- (Centrifugo's client protocol: subscribed, publication, unsubscribed and error events.)
use Rattle.std.specs.Prelude.{ℕ, Bool, List}
use Rattle.cf_protocol.specs.declared.position.Position.{Position}

pub data Item : Type 0 where
  -- a subscription stands at this position; whether its client asked from a position, and whether the stream held all
  -- between
  Subscribed : (channel : List ℕ) → (was_recovering : Bool) → (recovered : Bool) → (position : Position)
      → Item
  -- a publication, at its place
  Published : (channel : List ℕ) → (position : Position) → (body : List ℕ) → Item
  -- the subscription ended, and its client has to ask again
  Resubscribing : (channel : List ℕ) → (code : ℕ) → Item
  -- an ask, a publish or a history was refused
  Refused : (channel : List ℕ) → (code : ℕ) → Item
  -- a history, with so many publications
  Listed : (channel : List ℕ) → (position : Position) → (count : ℕ) → Item
  -- the connection was closed
  Closed : (code : ℕ) → Item

pub record Entry : Type 0 where
  -- the number of the event that brought it, from 1
  pub at : ℕ
  pub client : List ℕ
  pub item : Item
