-- Which texts and closes the protocol refuses: those of a connection that can't write, and the codes that may not be sent.
use Rattle.std.proofs.Common.{◌≡◌, ◌∙◌, ◌≤◌, ◌++◌, ℕ, List, [], ◌==◌, length, Bool, true, false, if◌then◌else◌, Option, None}
use Rattle.std.proofs.Common.{Some, Result, Ok, Err, refl, sym, ap, arith}
use Rattle.std.specs.Prelude.{cond}
use Rattle.std.specs.Int.{w16, to_be_bytes}
use Rattle.websocket.specs.CloseCode.{close_code_number, close_code_of, is_allowed}
use Rattle.websocket.specs.Connection.{Connection, Effect, can_write, closing_state, check_can_write, check_control_size}
use Rattle.websocket.specs.Connection.{check_close, close_to, close_step, write_active, write_step}
use Rattle.websocket.specs.Content.{close_payload, text, close}
use Rattle.websocket.specs.Frame.{Checked, after_check}
use Rattle.websocket.specs.declared.protocol.frame.coding.Control.TheVariants as Control
use Rattle.websocket.specs.declared.protocol.frame.coding.OpCode.TheVariants as Op
use Rattle.websocket.specs.declared.error.Error.{Error as FrameError}
use Rattle.websocket.specs.declared.error.Error.TheVariants as frame
use Rattle.websocket.specs.declared.error.ProtocolError.TheVariants.{InvalidCloseCode}
use Rattle.websocket.specs.declared.protocol.frame.coding.CloseCode.{CloseCode as FrameCode}
use Rattle.websocket.specs.declared.protocol.state.WebSocketState.{WebSocketState}
use Rattle.websocket.specs.declared.protocol.state.WebSocketState.TheVariants as State
use Rattle.websocket.proofs.DecodeLemmas.{ltb_false}
use Rattle.websocket.proofs.RoundTripLemmas.{close_code_number-close_code_of}
use Rattle.cf_protocol.specs.Codes.{close_reason_of, close_reason_by, reason_or}
use Rattle.cf_protocol.specs.Codes.{close_code_of as code_number}
use Rattle.cf_protocol.specs.declared.codes.CloseCode.{CloseCode}
use Rattle.cf_protocol.specs.declared.codes.CloseCode.TheVariants as ours
use Rattle.cf_wire.specs.CloseFrame.{frame_of}

-- ---- whether the connection can write

while_active : (state : WebSocketState) (r : Result Effect FrameError) → can_write state ≡ true
    → after_check (check_can_write state) r ≡ r
while_active State.Active r h = refl
while_active State.ClosedByUs r h = absurd (cc h)
while_active State.ClosedByPeer r h = absurd (cc h)
while_active State.CloseAcknowledged r h = absurd (cc h)
while_active State.Failed r h = absurd (cc h)
while_active State.Terminated r h = absurd (cc h)

pub text_never : (conn : Connection) (s : List ℕ) → can_write conn.state ≡ true → (x : FrameError)
    → write_step conn (text s) ≡ Err x → ⊥
text_never conn s h x is = absurd (cc (sym (while_active conn.state (write_active conn (text s)) h) ∙ is))

pub close_active : (conn : Connection) (f : Option (FrameCode × List ℕ)) → can_write conn.state ≡ true
    → write_step conn (close f) ≡ close_step conn f
close_active conn f h = while_active conn.state (close_step conn f) h

-- ---- whether a close may be sent

-- a close of a connection that can write goes by its frame alone
abbrev closing : Connection → Option (FrameCode × List ℕ) → Effect
closing conn f = record {
  message = None;
  reply = Some (record { opcode = Op.Control Control.Close; payload = close_payload f });
  next = record conn { state = State.ClosedByUs };
}

by_frame : (conn : Connection) (f : Option (FrameCode × List ℕ)) (state : WebSocketState) → can_write state ≡ true
    → close_to conn f (closing_state state) ≡ after_check (check_close f) (Ok (closing conn f))
by_frame conn f State.Active h = refl
by_frame conn f State.ClosedByUs h = absurd (cc h)
by_frame conn f State.ClosedByPeer h = absurd (cc h)
by_frame conn f State.CloseAcknowledged h = absurd (cc h)
by_frame conn f State.Failed h = absurd (cc h)
by_frame conn f State.Terminated h = absurd (cc h)

-- our reasons are short
of_code_short : (c : CloseCode) → length (close_reason_of c) ≤ 100
of_code_short ours.Shutdown = omega arith
of_code_short ours.InternalError = omega arith
of_code_short ours.Slow = omega arith
of_code_short ours.NoPong = omega arith
of_code_short ours.InvalidToken = omega arith
of_code_short ours.BadRequest = omega arith

either_short : (b : Bool) (x y : List ℕ) → length x ≤ 100 → length y ≤ 100 → length (if b then x else y) ≤ 100
either_short true x y h i = h
either_short false x y h i = i

or_short : (c : CloseCode) (n : ℕ) (y : List ℕ) → length y ≤ 100 → length (reason_or c n y) ≤ 100
or_short c n y h = either_short (n == code_number c) (close_reason_of c) y (of_code_short c) h

none_short : length {A = ℕ} [] ≤ 100
none_short = omega arith

reason_short : (n : ℕ) → length (close_reason_by n) ≤ 100
reason_short n =
    or_short ours.Shutdown n _ (or_short ours.InternalError n _ (or_short ours.Slow n _
    (or_short ours.NoPong n _ (or_short ours.InvalidToken n _ (or_short ours.BadRequest n _ none_short)))))

payload_short : (m : ℕ) (r : List ℕ) → length r ≤ 100 → length (to_be_bytes w16 m ++ r) ≤ 125
payload_short m r h = omega (arith, h)

size_ok : (bytes : List ℕ) → length bytes ≤ 125 → check_control_size bytes ≡ Ok tt
size_ok bytes h = rw (ltb_false 125 (length bytes) h) refl

size_fits : (n : ℕ) → check_control_size (close_payload (frame_of n)) ≡ Ok tt
size_fits n =
    size_ok (close_payload (frame_of n)) (payload_short (close_code_number (close_code_of n)) (close_reason_by n)
    (reason_short n))

number_same : (n : ℕ) → is_allowed (close_code_of (close_code_number (close_code_of n))) ≡ is_allowed (close_code_of n)
number_same n = ap (λ m. is_allowed (close_code_of m)) (close_code_number-close_code_of n)

both_fit : (size done other : Checked FrameError) (allowed : Bool) → size ≡ Ok tt → allowed ≡ true
    → after_check size (cond allowed done other) ≡ done
both_fit size done other allowed h i = rw (h, i) refl

one_barred : (size done other : Checked FrameError) (allowed : Bool) → size ≡ Ok tt → allowed ≡ false
    → after_check size (cond allowed done other) ≡ other
one_barred size done other allowed h i = rw (h, i) refl

abbrev barred_by : ℕ → Checked FrameError
barred_by m = Err (frame.Protocol (InvalidCloseCode m))

check_allowed : (n : ℕ) → is_allowed (close_code_of n) ≡ true → check_close (frame_of n) ≡ Ok tt
check_allowed n h =
    both_fit (check_control_size (close_payload (frame_of n))) (Ok tt) (barred_by (close_code_number (close_code_of n)))
    (is_allowed (close_code_of (close_code_number (close_code_of n)))) (size_fits n) (number_same n ∙ h)

check_barred : (n : ℕ) → is_allowed (close_code_of n) ≡ false → check_close (frame_of n) ≡ barred_by n
check_barred n h =
    one_barred (check_control_size (close_payload (frame_of n))) (Ok tt)
    (barred_by (close_code_number (close_code_of n)))
    (is_allowed (close_code_of (close_code_number (close_code_of n)))) (size_fits n) (number_same n ∙ h)
    ∙ ap barred_by (close_code_number-close_code_of n)

after_same : (c d : Checked FrameError) (r : Result Effect FrameError) → c ≡ d → after_check c r ≡ after_check d r
after_same c d r h = rw h refl

pub close_never : (conn : Connection) (n : ℕ) → can_write conn.state ≡ true → is_allowed (close_code_of n) ≡ true
    → (x : FrameError) → close_step conn (frame_of n) ≡ Err x → ⊥
close_never conn n h allowed x is =
    let fits : close_step conn (frame_of n) ≡ Ok (closing conn (frame_of n)) =
    by_frame conn (frame_of n) conn.state h
    ∙ after_same (check_close (frame_of n)) (Ok tt) (Ok (closing conn (frame_of n))) (check_allowed n allowed) in
    absurd (cc (sym is ∙ fits))

pub close_barred : (conn : Connection) (n : ℕ) → can_write conn.state ≡ true → is_allowed (close_code_of n) ≡ false
    → close_step conn (frame_of n) ≡ Err (frame.Protocol (InvalidCloseCode n))
close_barred conn n h barred =
    by_frame conn (frame_of n) conn.state h
    ∙ after_same (check_close (frame_of n)) (Err (frame.Protocol (InvalidCloseCode n))) (Ok (closing conn (frame_of n)))
    (check_barred n barred)
