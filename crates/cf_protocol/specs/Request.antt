-- A command as contracts see it. (Centrifugo's client protocol: `Command` and its requests.)
-- A text is its bytes, and so is a body, the compact text of `data`.
use Rattle.std.specs.Prelude.{ℕ, ℤ, List, Bool, Option}
use Rattle.cf_protocol.specs.Position.{Position}

-- what a publish brings as its data
pub data Data : Type 0 where
  Absent : Data
  TooDeep : Data
  Body : (body : List ℕ) → Data

pub data Request : Type 0 where
  Pong : Request
  Connect : (token : List ℕ) → Request
  -- a client that asks to recover gives the position from which it goes on
  Subscribe : (channel : List ℕ) → (since : Option Position) → Request
  Unsubscribe : (channel : List ℕ) → Request
  -- under a key, or under the empty one, which is none
  Publish : (channel : List ℕ) → (key : List ℕ) → (body : Data) → Request
  Presence : (channel : List ℕ) → Request
  PresenceStats : (channel : List ℕ) → Request
  History : (channel : List ℕ) → (limit : ℤ) → (since : Option Position) → (reverse : Bool) → Request
  Ping : Request
  Send : Request
  -- `rpc`, `refresh` or `sub_refresh`, which are not served
  Other : Request

pub record Command : Type 0 where
  pub id : ℕ
  pub request : Request
