-- Where a wire stands, and how a turn ends.
use Rattle.std.specs.Prelude.{◌≡◌, ℕ, Bool, true, false, if◌then◌else◌, Option, Some, None}
use Rattle.std.specs.IoError.{error_kind}
use Rattle.std.specs.declared.io.ErrorKind.{ErrorKind}
use Rattle.std.specs.declared.io.ErrorKind.TheVariants as kind
use Rattle.tungstenite.specs.Socket.{Socket}
use Rattle.websocket.specs.declared.error.ProtocolError.{ProtocolError}
use Rattle.websocket.specs.declared.error.ProtocolError.TheVariants.{ResetWithoutClosingHandshake}
use Rattle.tungstenite.specs.declared.error.Error.{Error}
use Rattle.tungstenite.specs.declared.error.Error.TheVariants as error
use Rattle.cf_queue.specs.declared.queue.Out.{Out}
use Rattle.cf_queue.specs.declared.queue.Out.TheVariants as out
use Rattle.cf_wire.specs.declared.end.TurnEnd.{TurnEnd}
use Rattle.cf_wire.specs.declared.end.TurnEnd.TheVariants as turn
use Rattle.cf_wire.specs.declared.end.WireEnd.{WireEnd}
use Rattle.cf_wire.specs.declared.end.WireEnd.TheVariants as wire
use Rattle.cf_wire.specs.declared.end.Stage.{Stage}
use Rattle.cf_wire.specs.declared.end.Stage.TheVariants.{Open, Unflushed, Over}

-- a WebSocket and its stage
pub record WireState (S : Type 0) : Type 0 where
  pub socket : Socket S
  pub stage : Stage

abbrev pub is_open : Stage → Bool
is_open Open = true
is_open (Unflushed close) = false
is_open (Over end) = false

abbrev pub is_over : Stage → Bool
is_over Open = false
is_over (Unflushed close) = false
is_over (Over end) = true

abbrev pub is_unflushed : Stage → Bool
is_unflushed Open = false
is_unflushed (Unflushed close) = true
is_unflushed (Over end) = false

-- This project's own profile: a fault of the stream that says "would block" waits, refused memory is told as memory,
-- and any other fault as a failure of the stream.
abbrev pub waits_by_kind : ErrorKind → Bool
waits_by_kind kind.WouldBlock = true
waits_by_kind _ = false

abbrev pub waits_by : Error → Bool
waits_by (error.Io cause) = waits_by_kind (error_kind cause)
waits_by other = false

abbrev pub end_by_kind : ErrorKind → WireEnd
end_by_kind kind.OutOfMemory = wire.Memory
end_by_kind _ = wire.StreamFault

abbrev pub end_by : Error → WireEnd
end_by error.OutOfMemory = wire.Memory
end_by (error.Io cause) = end_by_kind (error_kind cause)
end_by other = wire.StreamFault

-- where an error of the socket leaves a wire that waits at this stage if the stream would block
abbrev pub stage_after : Error → Stage → Stage
stage_after e waiting = if waits_by e then waiting else Over (end_by e)

-- The code of the close that a peer is told after a read with this error: 1002 where it sent what is no frame, or one
-- that may not come there, and 1007 where a text or the reason of a close is not UTF-8. (RFC 6455, sections 7.1.7,
-- 7.4.1
-- and 8.1.) None where the stream ended or failed, or memory was refused.
abbrev pub code_of_cause : ProtocolError → Option ℕ
code_of_cause ResetWithoutClosingHandshake = None
code_of_cause other = Some 1002

abbrev pub code_of_fault : Error → Option ℕ
code_of_fault error.Utf8 = Some 1007
code_of_fault (error.Protocol cause) = code_of_cause cause
code_of_fault other = None

-- the code of what goes out, where it is a close
abbrev pub close_in : Out → Option ℕ
close_in (out.Text text) = None
close_in (out.Close code) = Some code

-- once all that waited is on the stream: after a close the wire is spent
abbrev pub settled : Option ℕ → Stage
settled None = Open
settled (Some code) = Over (wire.Closed code)

-- the end of a turn of a wire that is spent
abbrev pub told : WireEnd → TurnEnd
told (wire.Closed code) = turn.Closed code
told wire.StreamFault = turn.StreamFault
told wire.Memory = turn.Memory

-- what a turn answers, and where it leaves the wire
abbrev pub Agrees : TurnEnd → Stage → Type 0
Agrees turn.Idle stage = is_over stage ≡ false
Agrees turn.More stage = is_over stage ≡ false
Agrees (turn.Closed code) stage = stage ≡ Over (wire.Closed code)
Agrees turn.StreamFault stage = stage ≡ Over wire.StreamFault
Agrees turn.Memory stage = stage ≡ Over wire.Memory

-- the same, for what ends a turn before its last message
abbrev pub Halts : TurnEnd → Stage → Type 0
Halts turn.Idle stage = is_over stage ≡ false
Halts turn.More stage = ⊥
Halts (turn.Closed code) stage = stage ≡ Over (wire.Closed code)
Halts turn.StreamFault stage = stage ≡ Over wire.StreamFault
Halts turn.Memory stage = stage ≡ Over wire.Memory

-- the same where something was to be sent: a message waits, or the wire is spent
abbrev pub Stops : TurnEnd → Stage → Type 0
Stops end stage = Halts end stage × (is_open stage ≡ false)
