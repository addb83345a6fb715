-- What an application gets from its client. (Centrifugo's client protocol: subscribed, publication, unsubscribed and
-- error events; ping.)
use Rattle.std.specs.Prelude.{ℕ, Bool, List}
use Rattle.cf_protocol.specs.Position.{Position}
use Rattle.cf_protocol.specs.Datum.{Placed}

pub data AppItem : Type 0 where
  -- a subscription stands at this position; whether its client asked from a position, and whether the stream held all
  -- between
  Subscribed : (channel : List ℕ) → (was_recovering : Bool) → (recovered : Bool) → (position : Position)
      → AppItem
  -- a publication, at its place
  Published : (channel : List ℕ) → (position : Position) → (body : List ℕ) → AppItem
  -- the subscription ended, and its client has to ask again
  Resubscribing : (channel : List ℕ) → (code : ℕ) → AppItem
  -- an ask, a publish or a history was refused
  Refused : (channel : List ℕ) → (code : ℕ) → AppItem
  -- a history, with so many publications
  Listed : (channel : List ℕ) → (position : Position) → (count : ℕ) → AppItem
  -- the server's ping, which has to be answered
  PongDue : AppItem

-- a publication of a channel in an epoch
abbrev pub published : List ℕ → List ℕ → Placed → AppItem
published c epoch q = Published c (record { epoch = epoch; offset = q.offset }) q.datum.body
