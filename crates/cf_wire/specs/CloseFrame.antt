-- The close frame of a close code: the code, and the reason that stands beside it. (RFC 6455, section 5.5.1.)
use Rattle.std.specs.Prelude.{ℕ, List, Option, Some}
use Rattle.tungstenite.specs.CloseCode.{close_code_of}
use Rattle.websocket.specs.declared.protocol.frame.coding.CloseCode.{CloseCode}
use Rattle.cf_protocol.specs.Codes.{close_reason_by}

abbrev pub frame_of : ℕ → Option (CloseCode × List ℕ)
frame_of n = Some (close_code_of n, close_reason_by n)
