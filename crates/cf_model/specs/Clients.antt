-- What a client knows of its channels, and what each note that it takes makes of that.
-- It looks for no gap and no repeat: it believes what it is sent.
use Rattle.std.specs.Prelude.{ℕ, suc, ◌==◌, ◌&&◌, ◌||◌, Bool, true, false, if◌then◌else◌, Option, Some, None, List}
use Rattle.std.specs.Prelude.{[], ◌∷◌}
use Rattle.std.specs.Str.{bytes_eq}
use Rattle.cf_protocol.specs.Names.{with}
use Rattle.cf_protocol.specs.Position.{Position}
use Rattle.cf_protocol.specs.Note.{Reading, Note, Reply, Pub, End, Fails, Put as Accepted, Listed, Close}

-- one channel of a client
pub data Mode : Type 0 where
  -- perhaps with the last position that it had there
  Idle : (last : Option Position) → Mode
  -- it waits for the reply to the command of this id, which asked from a position if from one
  Asking : (id : ℕ) → (from : Option Position) → (last : Option Position) → Mode
  -- subscribed, and this far
  Live : (at : Position) → Mode

pub record Client : Type 0 where
  -- the id of the next command
  pub fresh : ℕ
  -- by channel
  pub modes : List ℕ → Mode
  -- the ids of the publishes and histories that are not answered yet
  pub calls : List ℕ

abbrev pub last_of : Mode → Option Position
last_of (Idle last) = last
last_of (Asking id from last) = last
last_of (Live at) = Some at

abbrev pub idle : Mode → Mode
idle mode = Idle (last_of mode)

abbrev pub is_idle : Mode → Bool
is_idle (Idle last) = true
is_idle (Asking id from last) = false
is_idle (Live at) = false

-- the position at which a reading ends
abbrev pub read_to : Reading → Position
read_to reading = record { epoch = reading.epoch; offset = reading.top }

-- Ids count from 1 on each connection, and 1 is that of the connect.
abbrev pub first_id : ℕ
first_id = 2

abbrev pub no_channel : List ℕ → Mode
no_channel channel = Idle None

-- a client that never connected
abbrev pub new_client : Client
new_client = record { fresh = first_id; modes = no_channel; calls = [] }

-- ---- what it does of itself

abbrev pub asks : List ℕ → Option Position → Client → Client
asks channel from client =
    record client {
      fresh = suc client.fresh;
      modes = with client.modes channel (Asking client.fresh from (last_of (client.modes channel)));
    }

abbrev pub leaves : List ℕ → Client → Client
leaves channel client =
    record client { fresh = suc client.fresh; modes = with client.modes channel (idle (client.modes channel)) }

-- it publishes, or asks for a history
abbrev pub calls_for : Client → Client
calls_for client = record client { fresh = suc client.fresh; calls = client.fresh ∷ client.calls }

-- its connection is gone
abbrev pub reconnects : Client → Client
reconnects client = record { fresh = first_id; modes = λ channel. idle (client.modes channel); calls = [] }

-- ---- what it takes

-- A push names an offset and no epoch: the client keeps the epoch that it has.
abbrev pub moved_on : Position → Position → Position
moved_on at published = record { epoch = at.epoch; offset = published.offset }

-- What a note makes of a channel. A reply counts if it answers the ask that is out, a push while the channel is
-- live.
abbrev pub takes : List ℕ → Mode → Note → Mode
takes channel (Idle last) note = Idle last
takes channel (Asking id from last) (Reply named answered was reading) =
    if bytes_eq named channel && (answered == id) then Live (read_to reading) else Asking id from last
takes channel (Asking id from last) (Fails named answered code) =
    if bytes_eq named channel && (answered == id) then Idle last else Asking id from last
takes channel (Asking id from last) (Close code) = Idle last
takes channel (Asking id from last) note = Asking id from last
takes channel (Live at) (Pub named published) =
    if bytes_eq named channel then Live (moved_on at published) else Live at
takes channel (Live at) (End named) = if bytes_eq named channel then Idle (Some at) else Live at
takes channel (Live at) (Close code) = Idle (Some at)
takes channel (Live at) note = Live at

abbrev pub is_out : ℕ → List ℕ → Bool
is_out id [] = false
is_out id (first ∷ ids) = (first == id) || is_out id ids

abbrev pub without : ℕ → List ℕ → List ℕ
without id [] = []
without id (first ∷ ids) = if first == id then without id ids else first ∷ without id ids

-- the calls that are still out
abbrev pub answers : List ℕ → Note → List ℕ
answers ids (Fails named answered code) = without answered ids
answers ids (Accepted answered) = without answered ids
answers ids (Listed named answered at low count) = without answered ids
answers ids note = ids

-- a note other than a close
abbrev pub hears : Note → Client → Client
hears note client =
    record {
      fresh = client.fresh;
      modes = λ channel. takes channel (client.modes channel) note;
      calls = answers client.calls note;
    }
