-- What is on its way to a client, in positions and without data. Each note stands for one text, by what was published
-- at its positions.
use Rattle.std.specs.Prelude.{ℕ, zero, suc, ◌-◌, List, Bool, Option, Some, None, option_map, slice_get, take, drop}
use Rattle.cf_protocol.specs.Position.{Position}
use Rattle.cf_protocol.specs.Datum.{Datum, Placed, numbered}
use Rattle.cf_protocol.specs.Outgoing.{Outgoing, Ping, Answer, Push, Subscribed, Unsubscribed, Published, Past}
use Rattle.cf_protocol.specs.Outgoing.{Failed, Publication, Unsubscribe}

-- What a read of a stream answers: its epoch and top, and if it was recovered the offset from which it was, else
-- its top. (Centrifugo, history and recovery; the exact rule is this project's own profile.)
pub record Reading : Type 0 where
  pub epoch : List ℕ
  pub low : ℕ
  pub top : ℕ
  pub recovered : Bool

pub data Note : Type 0 where
  -- the reply to a subscribe, with the publications at low + 1 to top
  Reply : (channel : List ℕ) → (id : ℕ) → (was_recovering : Bool) → (reading : Reading) → Note
  -- the push of the publication there
  Pub : (channel : List ℕ) → (at : Position) → Note
  -- the unsubscribe push of a client that must ask again
  End : (channel : List ℕ) → Note
  -- the reply to a refused command, which was for this channel
  Fails : (channel : List ℕ) → (id : ℕ) → (code : ℕ) → Note
  -- the reply to a publish, and to an unsubscribe
  Put : (id : ℕ) → Note
  Left : (id : ℕ) → Note
  -- the reply to a history, with so many publications from low + 1 on
  Listed : (channel : List ℕ) → (id : ℕ) → (at : Position) → (low : ℕ) → (count : ℕ) → Note
  PingDue : Note
  Close : (code : ℕ) → Note

-- ---- a note with its data

-- the publications of each channel and epoch, in order
abbrev pub Lists : Type 0
Lists = List ℕ → List ℕ → List Datum

-- so many publications of a list from offset low + 1 on
abbrev pub placed_from : List Datum → ℕ → ℕ → List Placed
placed_from ds low count = numbered low (take count (drop low ds))

-- the publication at an offset of a list; 0 is no place
abbrev pub placed_at : List Datum → ℕ → Option Placed
placed_at ds zero = None
placed_at ds (suc o) = option_map (λ d. record { offset = suc o; datum = d }) (slice_get ds o)

-- insufficient state: the client must ask again
abbrev pub insufficient : ℕ
insufficient = 2500

-- What the note says with the data filled in; None for a close, which is no text, and for a place that is not listed.
abbrev pub outgoing_of : Lists → Note → Option Outgoing
outgoing_of lists (Reply c id was r) =
    Some
    (Answer id
    (Subscribed (record { epoch = r.epoch; offset = r.top }) (placed_from (lists c r.epoch) r.low
    (r.top - r.low)) r.recovered was))
outgoing_of lists (Pub c p) = option_map (λ d. Push c (Publication d)) (placed_at (lists c p.epoch) p.offset)
outgoing_of lists (End c) = Some (Push c (Unsubscribe insufficient))
outgoing_of lists (Fails c id code) = Some (Answer id (Failed code))
outgoing_of lists (Put id) = Some (Answer id Published)
outgoing_of lists (Left id) = Some (Answer id Unsubscribed)
outgoing_of lists (Listed c id p low count) = Some (Answer id (Past p (placed_from (lists c p.epoch) low count)))
outgoing_of lists PingDue = Some Ping
outgoing_of lists (Close code) = None
