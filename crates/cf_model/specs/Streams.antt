-- A channel's stream in numbers: how many publications it ever accepted, and how many of the last it still holds.
-- What it answers to who comes back, or asks for its history, is reckoned from these alone.
use Rattle.std.specs.Prelude.{ℕ, List, ◌+◌, min, Bool, ℤ, pos, negsuc, ◌-◌, max, nat_le, ◌&&◌, true, false}
use Rattle.std.specs.Prelude.{if◌then◌else◌, Option, Some, None}
use Rattle.cf_protocol.specs.Fields.{max_u32}
use Rattle.cf_protocol.specs.Datum.{Datum}
use Rattle.cf_protocol.specs.declared.position.Position.{Position}
use Rattle.cf_protocol.specs.Settings.{namespace_of}
use Rattle.std.specs.Str.{bytes_eq}
use Rattle.cf_protocol.specs.Note.{Reading}

-- How many there are at most of what is counted. (This project's own profile.)

abbrev pub largest : ℕ
largest = 18446744073709551615

-- the most sessions of a node, and the most channels of a session
abbrev pub most_sessions : ℕ
most_sessions = 16384

abbrev pub most_channels : ℕ
most_channels = 128

-- the most that a node has
abbrev pub most_rows : ℕ
most_rows = 65536

abbrev pub last_id : ℕ
last_id = max_u32

-- A channel's stream with the list that it stands over. (Centrifugo, history and recovery.)

-- a stream's epoch, the data published in it, the keys under which they were, each at its datum's place, and how many
-- of the last data are held
pub record Life : Type 0 where
  pub epoch : List ℕ
  pub list : List Datum
  pub keys : List (List ℕ)
  pub held : ℕ

-- A channel's stream in numbers. What was published stands in the channel's publication list.
-- (Centrifugo, history and recovery: stream position, history size.)

-- the stream's epoch, how many publications it ever accepted, and how many of the last of these it still holds
pub record StreamState : Type 0 where
  pub epoch : List ℕ
  pub top : ℕ
  pub held : ℕ

-- no publication has a higher offset (2 ^ 53 - 1; this project's own profile)
abbrev pub last_offset : ℕ
last_offset = 9007199254740991

-- a stream that opens
abbrev pub opens_in : List ℕ → StreamState
opens_in epoch = record { epoch = epoch; top = 0; held = 0 }

-- where it stands
abbrev pub position_of : StreamState → Position
position_of stream = record { epoch = stream.epoch; offset = stream.top }

-- with one publication more, if at most so many are held
abbrev pub with_one_more : ℕ → StreamState → StreamState
with_one_more size stream = record stream { top = stream.top + 1; held = min (stream.held + 1) size }

-- with at most so many held
abbrev pub with_at_most : ℕ → StreamState → StreamState
with_at_most count stream = record stream { held = min stream.held count }

-- the channel is of the namespace of this name
abbrev pub in_namespace : List ℕ → List ℕ → Bool
in_namespace name channel = bytes_eq (namespace_of channel) name

-- What a stream answers to a read and to a history, in offsets.
-- (Centrifugo, history and recovery; that at most 300 are recovered or listed is this project's own profile.)

-- the most publications that one reply brings
abbrev pub most_in_reply : ℕ
most_in_reply = 300

-- Whether the stream still holds everything after this position, and can bring it in one reply:
-- the position is of its epoch, not above its top, and at most held and at most 300 below it.
abbrev pub still_held : Position → StreamState → Bool
still_held since stream =
    bytes_eq since.epoch stream.epoch &&
    (nat_le since.offset stream.top && nat_le (stream.top - since.offset) (min stream.held most_in_reply))

-- What a read for recovery finds: from that position on if all that follows it is still held, and else the top
-- alone.
abbrev pub read_of : Option Position → StreamState → Reading
read_of None stream = record { epoch = stream.epoch; low = stream.top; top = stream.top; recovered = false }
read_of (Some since) stream =
    if still_held since stream
    then record { epoch = stream.epoch; low = since.offset; top = stream.top; recovered = true }
    else record { epoch = stream.epoch; low = stream.top; top = stream.top; recovered = false }

-- how many publications a history's limit allows: at most 300, also if it is negative
abbrev pub allowed_by : ℤ → ℕ
allowed_by (pos count) = min count most_in_reply
allowed_by (negsuc count) = most_in_reply

-- what a history brings: where the stream stands, and the publications from low + 1 on, so many
pub record Listing : Type 0 where
  pub at : Position
  pub low : ℕ
  pub count : ℕ

-- the publications above this offset that are still held, the first ones by the limit
abbrev pub listed_above : ℕ → ℤ → StreamState → Listing
listed_above offset limit stream =
    record {
      at = record { epoch = stream.epoch; offset = stream.top };
      low = max offset (stream.top - stream.held);
      count = min (allowed_by limit) (stream.top - max offset (stream.top - stream.held));
    }

-- What a history answers; None if it is since a position of another epoch.
abbrev pub history_of : Option Position → ℤ → StreamState → Option Listing
history_of None limit stream = Some (listed_above 0 limit stream)
history_of (Some since) limit stream =
    if bytes_eq since.epoch stream.epoch then Some (listed_above since.offset limit stream) else None
