-- What a turn of a wire did, event by event, each by what `tungstenite` promises of the call behind it.
-- (RFC 6455: the messages of a WebSocket, its pings, pongs and close.)
use Rattle.std.specs.Prelude.{◌≡◌, ◌≤◌, ◌<◌, ◌⊎◌, ℕ, ◌+◌, ◌-◌, List, [], ◌∷◌, length, Bool, true, false, Option, None}
use Rattle.std.specs.Prelude.{Some, Result, Ok, Err, ⊤}
use Rattle.websocket.specs.Connection.{Connection, Effect, can_write}
use Rattle.websocket.specs.declared.error.Error.{Error as FrameError}
use Rattle.tungstenite.specs.CloseCode.{close_code_number}
use Rattle.tungstenite.specs.Connection.{write_step, close_step}
use Rattle.tungstenite.specs.Content as content
use Rattle.tungstenite.specs.Content.{Content, text, binary, ping, pong}
use Rattle.tungstenite.specs.Failure.{IsIo, WriteFails}
use Rattle.tungstenite.specs.Socket.{Socket, Reads, Writes, Flushed, content_of}
use Rattle.tungstenite.specs.declared.message.Message.{Message}
use Rattle.tungstenite.specs.declared.error.Error.{Error}
use Rattle.tungstenite.specs.declared.error.Error.TheVariants.{Capacity, OutOfMemory, WriteBufferFull}
use Rattle.cf_protocol.specs.Codes.{close_code_of}
use Rattle.cf_protocol.specs.declared.codes.CloseCode.TheVariants.{BadRequest}
use Rattle.cf_queue.specs.declared.queue.Out.{Out}
use Rattle.cf_queue.specs.declared.queue.Out.TheVariants.{Text, Close}
use Rattle.cf_wire.specs.CloseFrame.{frame_of}
use Rattle.cf_wire.specs.Stages.{WireState, stage_after, close_in, code_of_fault, settled}
use Rattle.cf_wire.specs.declared.end.Stage.{Stage}
use Rattle.cf_wire.specs.declared.end.Stage.TheVariants.{Open, Unflushed}
use Rattle.cf_wire.specs.declared.end.TurnEnd.{TurnEnd}
use Rattle.cf_wire.specs.declared.end.TurnEnd.TheVariants as turn

pub data Event : Type 0 where
  -- a text message was read, and heard
  heard : (text : List ℕ) → Event
  -- a ping or a pong was read
  passed : Event
  -- the peer's close was read
  ended : (code : ℕ) → Event
  -- what came is no text, or too long to be read: the wire closes
  rejected : Event
  -- a read gave this error and no message, and the peer was told where it made the error
  failed : (error : Error) → Event
  -- the desk had nothing
  none : Event
  -- something was taken from the desk, and its frame is on the stream; or the socket answered this error
  sent : (out : Out) → Event
  refused : (out : Out) → (error : Error) → Event
  -- what waited is on the stream; or the socket answered this error
  flushed : Event
  tried : (error : Error) → Event

-- 1 where a message was read
abbrev pub is_read : Event → ℕ
is_read (heard t) = 1
is_read passed = 1
is_read (ended code) = 1
is_read rejected = 1
is_read other = 0

-- 1 where a message was read or sent
abbrev pub is_move : Event → ℕ
is_move (heard t) = 1
is_move passed = 1
is_move (ended code) = 1
is_move rejected = 1
is_move (sent o) = 1
is_move other = 0

-- the bytes of the text that was heard
abbrev pub weight : Event → ℕ
weight (heard t) = length t
weight other = 0

-- how many messages were read; how many were read or sent; how many bytes of text were heard
abbrev pub reads : List Event → ℕ
reads [] = 0
reads (e ∷ es) = is_read e + reads es

abbrev pub moves : List Event → ℕ
moves [] = 0
moves (e ∷ es) = is_move e + moves es

abbrev pub bytes : List Event → ℕ
bytes [] = 0
bytes (e ∷ es) = weight e + bytes es

-- the bytes heard before the last message that was read
abbrev pub bytes_before : List Event → ℕ
bytes_before [] = 0
bytes_before (heard t ∷ es) = bytes es
bytes_before (passed ∷ es) = bytes es
bytes_before (ended code ∷ es) = bytes es
bytes_before (rejected ∷ es) = bytes es
bytes_before (e ∷ es) = bytes_before es

-- something did not come, or did not go
abbrev pub is_stop : Event → Bool
is_stop rejected = true
is_stop (failed e) = true
is_stop (refused o e) = true
is_stop (tried e) = true
is_stop other = false

-- a turn reads at most so many messages
abbrev pub most_reads : ℕ
most_reads = 64

-- once so many bytes of text were heard a turn reads no further message
abbrev pub most_bytes : ℕ
most_bytes = 65536

-- the desk had nothing, its newest event
abbrev pub IsEmptied : List Event → Type 0
IsEmptied (none ∷ es) = ⊤
IsEmptied other = ⊥

-- a turn is idle only where its newest event did not come or go, or where the desk had nothing and is not ready
abbrev pub Rests : List Event → Bool → Type 0
Rests [] is_ready = ⊥
Rests (none ∷ es) is_ready = is_ready ≡ false
Rests (e ∷ es) is_ready = is_stop e ≡ true

-- there may be more only after so many messages or bytes
abbrev pub IsUsedUp : List Event → Type 0
IsUsedUp es = (most_reads ≤ moves es) ⊎ (most_bytes ≤ bytes es)

-- the end of a turn after these events, the newest first, by whether the desk is ready then
abbrev pub EndFits : TurnEnd → List Event → Bool → Type 0
EndFits turn.Idle es is_ready = Rests es is_ready
EndFits turn.More es is_ready = IsUsedUp es
EndFits other es is_ready = ⊤

-- how far a part of a turn has come: it goes on; the desk had nothing; or the turn ends so
pub data Reached : Type 0 where
  going : Reached
  emptied : Reached
  over : (end : TurnEnd) → Reached

abbrev pub Fits : Reached → List Event → Bool → Type 0
Fits going es is_ready = ⊤
Fits emptied es is_ready = IsEmptied es
Fits (over end) es is_ready = EndFits end es is_ready

-- messages that are passed over
abbrev pub is_signal : Content → Bool
is_signal (ping bytes) = true
is_signal (pong bytes) = true
is_signal other = false

-- the code of a close; 1005 where it has none
abbrev pub code_in : Content → Option ℕ
code_in (content.close None) = Some 1005
code_in (content.close (Some frame)) = Some (close_code_number frame.0)
code_in other = None

-- a binary message, or a message that is too long to be read
abbrev pub is_bad : Result Message Error → Type 0
is_bad (Ok m) = (bytes : List ℕ) × (content_of m ≡ binary bytes)
is_bad (Err (Capacity cause)) = ⊤
is_bad (Err other) = ⊥

-- the code with which a wire closes by itself
abbrev pub bad_message : ℕ
bad_message = close_code_of BadRequest

-- what a `send` or a `close` of the socket asks of its connection
abbrev pub step_of : Connection → Out → Result Effect FrameError
step_of conn (Text t) = write_step conn (text t)
step_of conn (Close code) = close_step conn (frame_of code)

module _ {S : Type 0} where
  -- what a `send` or a `close` of the socket does
  abbrev pub Puts : (S → Option (List ℕ)) → Socket S → Out → Socket S → Type 0
  Puts contents old out new = Writes contents old new (step_of old.conn out)

  -- what a `send`, or a `write` and a `flush`, that answered this error left
  abbrev pub SendFails : (S → Option (List ℕ)) → Socket S → Result Effect FrameError → Socket S → Error → Type 0
  SendFails contents old step new e =
      WriteFails step e × (e ≡ WriteBufferFull → new ≡ old) × (IsIo e → Writes contents old new step)
      × (e ≡ OutOfMemory → new ≡ old)

  -- a message that was sent so: it is on the stream, or the socket answered an error; and the stage behind it
  abbrev pub Sends : (S → Option (List ℕ)) → Socket S → Content → Option ℕ → Socket S → Stage → Type 0
  Sends contents old what close new stage =
      (Writes contents old new (write_step old.conn what) × (new.output ≡ []) × (stage ≡ settled close))
      ⊎ ((e : Error) × SendFails contents old (write_step old.conn what) new e
      × (stage ≡ stage_after e (Unflushed close)))

  -- it answered Ok: the frame is on the stream
  abbrev pub Lands : (S → Option (List ℕ)) → Socket S → Out → Socket S → Stage → Type 0
  Lands contents old out new stage =
      Puts contents old out new × (new.output ≡ []) × (stage ≡ settled (close_in out))

  -- it answered this error: where the stream failed the frame is on it or waits, and refused memory changed nothing;
  -- nor did any other error while the connection could write. Once a read has failed only `close` still writes, and of
  -- one that finds its output full `tungstenite` says nothing
  abbrev pub Fails : (S → Option (List ℕ)) → Socket S → Out → Socket S → Error → Type 0
  Fails contents old out new e =
      WriteFails (step_of old.conn out) e × (IsIo e → Puts contents old out new) × (e ≡ OutOfMemory → new ≡ old)
      × (can_write old.conn.state ≡ true → IsIo e ⊎ (new ≡ old))

  -- whatever it answered to what the desk gave: the frame is on the stream or waits there, behind what waited before,
  -- or nothing changed
  abbrev pub PutsOrKeeps : (S → Option (List ℕ)) → Socket S → Out → Socket S → Type 0
  PutsOrKeeps contents old out new = Puts contents old out new ⊎ (new ≡ old)

  abbrev pub Refuses : (S → Option (List ℕ)) → Socket S → Out → Socket S → Error → Stage → Type 0
  Refuses contents old out new e stage =
      Fails contents old out new e × (stage ≡ stage_after e (Unflushed (close_in out)))

  abbrev pub Settles : (S → Option (List ℕ)) → Socket S → Out → Socket S → Stage → Type 0
  Settles contents old out new stage =
      Lands contents old out new stage ⊎ ((e : Error) × Refuses contents old out new e stage)

  -- after a flush: all that waited is on the stream, or the stream failed
  abbrev pub FlushLeaves : Option ℕ → Socket S → Stage → Type 0
  FlushLeaves close new stage =
      ((new.output ≡ []) × (stage ≡ settled close))
      ⊎ ((e : Error) × IsIo e × (stage ≡ stage_after e (Unflushed close)))

  -- a close of this code was asked of the socket: its frame is on the stream, or the socket answered an error
  abbrev pub Tells : (S → Option (List ℕ)) → Socket S → ℕ → Socket S → Type 0
  Tells contents old code new =
      (Puts contents old (Close code) new × (new.output ≡ [])) ⊎ ((e : Error) × Fails contents old (Close code) new e)

  -- the same where there is a code
  abbrev pub TellsIf : (S → Option (List ℕ)) → Socket S → Option ℕ → Socket S → Type 0
  TellsIf contents old None new = new ≡ old
  TellsIf contents old (Some code) new = Tells contents old code new

-- a desk and a wire
pub record Place (D S : Type 0) : Type 0 where
  pub desk : D
  pub wire : WireState S

module _ {D S : Type 0} where
  abbrev pub place : D → WireState S → Place D S
  place d w = record { desk = d; wire = w }

  module _ (hears : D → List ℕ → D → Type 0) (gives : D → Option Out → D → Type 0) (ready : D → Bool)
      (remaining contents : S → Option (List ℕ)) where
    -- The desk and what one event needs of it: something is read only while it is ready.
    abbrev pub DeskDoes : Event → D → D → Type 0
    DeskDoes (heard t) d e = (ready d ≡ true) × hears d t e
    DeskDoes passed d e = (ready d ≡ true) × (e ≡ d)
    DeskDoes (ended code) d e = (ready d ≡ true) × (e ≡ d)
    DeskDoes rejected d e = (ready d ≡ true) × (e ≡ d)
    DeskDoes (failed error) d e = (ready d ≡ true) × (e ≡ d)
    DeskDoes none d e = gives d None e
    DeskDoes (sent o) d e = gives d (Some o) e
    DeskDoes (refused o error) d e = gives d (Some o) e
    DeskDoes flushed d e = e ≡ d
    DeskDoes (tried error) d e = e ≡ d

    -- Where a message waits only `flushed` and `tried` happen, and where the wire is spent nothing does.
    abbrev pub WireDoes : Event → WireState S → WireState S → Type 0
    WireDoes (heard t) v w =
        (v.stage ≡ Open) × (w.stage ≡ Open)
        × ((m : Message) × Reads remaining v.socket w.socket (Ok m) × (content_of m ≡ text t))
    WireDoes passed v w =
        (v.stage ≡ Open) × (w.stage ≡ Open)
        × ((m : Message) × Reads remaining v.socket w.socket (Ok m) × (is_signal (content_of m) ≡ true))
    WireDoes (ended code) v w =
        (v.stage ≡ Open) × (w.stage ≡ Unflushed (Some code))
        × ((m : Message) × Reads remaining v.socket w.socket (Ok m) × (code_in (content_of m) ≡ Some code))
    WireDoes rejected v w =
        (v.stage ≡ Open)
        × ((r : Result Message Error) × (mid : Socket S) × is_bad r × Reads remaining v.socket mid r
        × Settles contents mid (Close bad_message) w.socket w.stage)
    WireDoes (failed e) v w =
        (v.stage ≡ Open)
        × ((mid : Socket S) × Reads remaining v.socket mid (Err e)
        × TellsIf contents mid (code_of_fault e) w.socket)
        × (w.stage ≡ stage_after e Open)
    WireDoes none v w = (v.stage ≡ Open) × (w ≡ v)
    WireDoes (sent o) v w = (v.stage ≡ Open) × Lands contents v.socket o w.socket w.stage
    WireDoes (refused o e) v w =
        (v.stage ≡ Open) × Refuses contents v.socket o w.socket e w.stage
        × PutsOrKeeps contents v.socket o w.socket
    WireDoes flushed v w =
        (close : Option ℕ) × (v.stage ≡ Unflushed close) × Flushed contents v.socket w.socket
        × (w.socket.output ≡ [])
        × (w.stage ≡ settled close)
    WireDoes (tried e) v w =
        (close : Option ℕ) × (v.stage ≡ Unflushed close) × Flushed contents v.socket w.socket × IsIo e
        × (w.stage ≡ stage_after e (Unflushed close))

    -- what a list of events does, the newest first
    abbrev pub Did : List Event → Place D S → Place D S → Type 0
    Did [] p q = q ≡ p
    Did (e ∷ es) p q = (mid : Place D S) × Did es p mid × DeskDoes e mid.desk q.desk × WireDoes e mid.wire q.wire

    -- a part of a turn: at least `low` messages were read or sent, and at most `high` read; of `left` bytes `rest`
    -- are left
    pub record Part (low high left rest : ℕ) (reached : Reached) (p q : Place D S) : Type 0 where
      pub events : List Event
      pub did : Did events p q
      pub busy : low ≤ moves events
      pub bound : reads events ≤ high
      pub spends : rest ≡ left - bytes events
      pub light : (reads events ≡ 0) ⊎ (bytes_before events < left)
      pub fits : Fits reached events (ready q.desk)

    -- a turn that ends so
    pub record Turns (end : TurnEnd) (p q : Place D S) : Type 0 where
      pub events : List Event
      pub did : Did events p q
      pub bound : reads events ≤ most_reads
      pub light : bytes_before events < most_bytes
      pub fits : EndFits end events (ready q.desk)

abbrev pub reached_by : {A : Type 0} → Result A TurnEnd → Reached
reached_by (Ok x) = going
reached_by (Err end) = over end

-- the same where the desk is asked until it has nothing
abbrev pub reached_emptied : {A : Type 0} → Result A TurnEnd → Reached
reached_emptied (Ok x) = emptied
reached_emptied (Err end) = over end

-- 1 where a message was read
abbrev pub read_in : {A : Type 0} → Result A TurnEnd → ℕ
read_in (Ok x) = 1
read_in (Err end) = 0
