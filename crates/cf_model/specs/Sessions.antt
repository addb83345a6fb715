-- One session on its node: how far it is with each channel, and what waits for its client.
-- What it says is left open at first, and then said in positions, with no data.
use Rattle.std.specs.Prelude.{ℕ, ◌+◌, nat_le, Bool, true, false, if◌then◌else◌, is_some, Option, Some, None, List, []}
use Rattle.std.specs.Prelude.{◌∷◌, ◌++◌, sum_by, drop, zero, suc, length}
use Rattle.cf_protocol.specs.Names.{with}
use Rattle.cf_protocol.specs.Note.{Reading, Lists, Note, Reply, Pub, End, PingDue, Close}
use Rattle.cf_protocol.specs.Position.{Position}
use Rattle.cf_model.specs.Recovery.{Verdict, Drop, Pass, Insufficient, verdict, next}
use Rattle.cf_model.specs.Recovery.{Checked, Fine, Behind, Ended, position_check}
use Rattle.cf_protocol.specs.Written.{note_text}
use Rattle.cf_model.specs.Recovery.{arrives}
use Rattle.cf_model.specs.Recovery.{falls_short, run_length}

-- One session on its node: how far it is with each channel, and what waits for its client. Generic in what a note is
-- (N) and in how the publications are kept that come before a reply (B), so that the same words speak of notes and
-- positions and of the texts and publications that the code has. (Centrifugo's client protocol, history and recovery;
-- the limits, and that a session that is closed still gives what waits, are this project's own profile.)

-- one channel of a session
pub data Subscription (B : Type 0) : Type 0 where
  Off : Subscription B
  -- asked for by the command of this id, from that position if from one; the buffer has what came since
  Asked : (id : ℕ) → (since : Option Position) → (buffer : B) → Subscription B
  -- the stream was read
  Ready : (id : ℕ) → (was_recovering : Bool) → (reading : Reading) → (buffer : B) → Subscription B
  -- the reply was given, and what followed up to this position; and where a check found it behind
  On : (at : Position) → (behind_at : Option ℕ) → Subscription B

pub record SessionState (B N : Type 0) : Type 0 where
  -- by channel
  pub subs : List ℕ → Subscription B
  -- what waits for the client, the front first
  pub notes : List N
  pub closed : Bool

-- ---- how things are said and kept

pub record Wording (B N : Type 0) : Type 0 where
  -- the reply to a subscribe
  pub reply : (channel : List ℕ) → (id : ℕ) → (was_recovering : Bool) → (reading : Reading) → (buffer : B)
      → N
  -- what follows it: the pushes of what came meanwhile, how many offsets they go on, and whether something is missing
  -- then
  pub run : (channel : List ℕ) → (reading : Reading) → (buffer : B) → List N
  pub reach : (reading : Reading) → (buffer : B) → ℕ
  pub falls_short : (reading : Reading) → (buffer : B) → Bool
  -- the push of a publication, the unsubscribe push, the ping, a close by its code
  pub place : (channel : List ℕ) → (at : Position) → N
  pub end : (channel : List ℕ) → N
  pub ping : N
  pub close : (code : ℕ) → N
  -- how many bytes a note has
  pub weight : N → ℕ
  -- the buffer: nothing came yet, one more came, the stream was read, memory for it was refused
  pub empty : B
  pub with_one : (at : Position) → B → B
  pub with_read : B → B
  pub given_up : B → B

-- the close of a client that is too slow, the one when memory is refused, and the one of a client that answers no ping
abbrev pub slow : ℕ
slow = 3008

abbrev pub no_memory : ℕ
no_memory = 3004

abbrev pub no_pong : ℕ
no_pong = 3012

-- the most bytes that wait for one client
abbrev pub most_waiting : ℕ
most_waiting = 1048576

-- ---- what waits for the client

abbrev pub all_off : {B : Type 0} → List ℕ → Subscription B
all_off channel = Off

abbrev pub opens : {B N : Type 0} → SessionState B N
opens = record { subs = all_off; notes = []; closed = false }

-- The session is closed: all its subscriptions end, and this is the last note.
abbrev pub closes : {B N : Type 0} → N → SessionState B N → SessionState B N
closes note session = record { subs = all_off; notes = session.notes ++ note ∷ []; closed = true }

-- the same, unless it was closed before
abbrev pub closes_now : {B N : Type 0} → N → SessionState B N → SessionState B N
closes_now note session = if session.closed then session else closes note session

-- A note is added. One that would pass the limit closes the session in place of it; after a close none is added.
abbrev pub push : {B N : Type 0} → Wording B N → N → SessionState B N → SessionState B N
push wording note session =
    if session.closed then session
    else if nat_le (sum_by wording.weight session.notes + wording.weight note) most_waiting
    then record session { notes = session.notes ++ note ∷ [] }
    else closes (wording.close slow) session

-- these, one after another
abbrev pub says : {B N : Type 0} → Wording B N → List N → SessionState B N → SessionState B N
says wording [] session = session
says wording (note ∷ notes) session = says wording notes (push wording note session)

-- the front note goes
abbrev pub takes_front : {B N : Type 0} → SessionState B N → SessionState B N
takes_front session = record session { notes = drop 1 session.notes }

-- ---- one channel changes

abbrev pub put_sub : {B N : Type 0} → List ℕ → Subscription B → SessionState B N → SessionState B N
put_sub channel subscription session = record session { subs = with session.subs channel subscription }

-- a subscription is asked for
abbrev pub begins : {B N : Type 0} → Wording B N → List ℕ → ℕ → Option Position → SessionState B N
    → SessionState B N
begins wording channel id since session = put_sub channel (Asked id since wording.empty) session

-- the client leaves a channel
abbrev pub leaves : {B N : Type 0} → List ℕ → SessionState B N → SessionState B N
leaves channel session = put_sub channel Off session

-- the stream was read for it
abbrev pub read_at : {B N : Type 0} → Wording B N → List ℕ → Reading → Subscription B → SessionState B N
    → SessionState B N
read_at wording channel reading Off session = session
read_at wording channel reading (Asked id since buffer) session =
    put_sub channel (Ready id (is_some since) reading (wording.with_read buffer)) session
read_at wording channel reading (Ready id was earlier buffer) session = session
read_at wording channel reading (On at behind_at) session = session

abbrev pub reads : {B N : Type 0} → Wording B N → List ℕ → Reading → SessionState B N → SessionState B N
reads wording channel reading session = read_at wording channel reading (session.subs channel) session

-- A publication is delivered: it is kept before the reply; after it, it is dropped if it is known, passed on if
-- it is the next one, and else the subscription ends.
abbrev pub by_verdict : {B N : Type 0} → Wording B N → List ℕ → Position → Option ℕ → Verdict
    → SessionState B N
    → SessionState B N
by_verdict wording channel came behind_at Drop session = session
by_verdict wording channel came behind_at Pass session =
    push wording (wording.place channel came) (put_sub channel (On came behind_at) session)
by_verdict wording channel came behind_at Insufficient session =
    push wording (wording.end channel) (put_sub channel Off session)

abbrev pub come_at : {B N : Type 0} → Wording B N → List ℕ → Position → Subscription B → SessionState B N
    → SessionState B N
come_at wording channel came Off session = session
come_at wording channel came (Asked id since buffer) session =
    put_sub channel (Asked id since (wording.with_one came buffer)) session
come_at wording channel came (Ready id was reading buffer) session =
    put_sub channel (Ready id was reading (wording.with_one came buffer)) session
come_at wording channel came (On at behind_at) session =
    by_verdict wording channel came behind_at (verdict at came) session

abbrev pub comes : {B N : Type 0} → Wording B N → List ℕ → Position → SessionState B N → SessionState B N
comes wording channel came session = come_at wording channel came (session.subs channel) session

-- The reply is given, then the run of what came meanwhile, and an end if that falls short.
abbrev pub finished : {B N : Type 0} → Wording B N → Reading → B → Subscription B
finished wording reading buffer =
    if wording.falls_short reading buffer then Off
    else On (record { epoch = reading.epoch; offset = reading.top + wording.reach reading buffer }) None

abbrev pub finish_notes : {B N : Type 0} → Wording B N → List ℕ → ℕ → Bool → Reading → B → List N
finish_notes wording channel id was reading buffer =
    wording.reply channel id was reading buffer ∷
    (wording.run channel reading buffer ++ (if wording.falls_short reading buffer
    then wording.end channel ∷ []
    else []))

abbrev pub finish_at : {B N : Type 0} → Wording B N → List ℕ → Subscription B → SessionState B N
    → SessionState B N
finish_at wording channel Off session = session
finish_at wording channel (Asked id since buffer) session = session
finish_at wording channel (Ready id was reading buffer) session =
    says wording (finish_notes wording channel id was reading buffer)
    (put_sub channel (finished wording reading buffer) session)
finish_at wording channel (On at behind_at) session = session

abbrev pub finishes : {B N : Type 0} → Wording B N → List ℕ → SessionState B N → SessionState B N
finishes wording channel session = finish_at wording channel (session.subs channel) session

-- the position check
abbrev pub by_check : {B N : Type 0} → Wording B N → List ℕ → Position → Checked → SessionState B N
    → SessionState B N
by_check wording channel at Fine session = put_sub channel (On at None) session
by_check wording channel at Behind session = put_sub channel (On at (Some at.offset)) session
by_check wording channel at Ended session = push wording (wording.end channel) (put_sub channel Off session)

abbrev pub check_at : {B N : Type 0} → Wording B N → List ℕ → Option Position → Subscription B
    → SessionState B N
    → SessionState B N
check_at wording channel top Off session = session
check_at wording channel top (Asked id since buffer) session = session
check_at wording channel top (Ready id was reading buffer) session = session
check_at wording channel top (On at behind_at) session =
    by_check wording channel at (position_check top at behind_at) session

abbrev pub checks : {B N : Type 0} → Wording B N → List ℕ → Option Position → SessionState B N
    → SessionState B N
checks wording channel top session = check_at wording channel top (session.subs channel) session

-- ---- asking about subscriptions

abbrev pub is_off : {B : Type 0} → Subscription B → Bool
is_off Off = true
is_off (Asked id since buffer) = false
is_off (Ready id was reading buffer) = false
is_off (On at behind_at) = false

abbrev pub is_asked : {B : Type 0} → Subscription B → Bool
is_asked Off = false
is_asked (Asked id since buffer) = true
is_asked (Ready id was reading buffer) = false
is_asked (On at behind_at) = false

abbrev pub is_ready : {B : Type 0} → Subscription B → Bool
is_ready Off = false
is_ready (Asked id since buffer) = false
is_ready (Ready id was reading buffer) = true
is_ready (On at behind_at) = false

abbrev pub is_unfinished : {B : Type 0} → Subscription B → Bool
is_unfinished Off = false
is_unfinished (Asked id since buffer) = true
is_unfinished (Ready id was reading buffer) = true
is_unfinished (On at behind_at) = false

-- How a session speaks in notes: what it says stands in positions, with no data, and of what came before a reply it
-- keeps the positions alone. A note weighs as much as its one written text, by the publication lists; a close has no
-- weight.

unfoldable pub note_length : Lists → Note → ℕ
note_length lists note = length (note_text lists note)

-- the pushes of so many publications after a position
abbrev pub pushes : List ℕ → Position → ℕ → List Note
pushes channel at zero = []
pushes channel at (suc count) = Pub channel (next at) ∷ pushes channel (next at) count

abbrev pub spoken : Lists → Wording (List Position) Note
spoken lists =
    record {
      reply = λ channel id was reading arrived. Reply channel id was reading;
      run = λ channel reading arrived. pushes channel (record { epoch = reading.epoch; offset = reading.top })
          (run_length arrived reading);
      reach = λ reading arrived. run_length arrived reading;
      falls_short = λ reading arrived. falls_short arrived reading;
      place = Pub;
      end = End;
      ping = PingDue;
      close = Close;
      weight = note_length lists;
      empty = [];
      with_one = arrives;
      with_read = λ arrived. arrived;
      given_up = λ arrived. arrived;
    }
