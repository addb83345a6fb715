-- How events make a turn, and how turns join.
use Rattle.std.proofs.Common.{◌≡◌, ◌∙◌, ℕ, ◌+◌, ◌-◌, length, ◌≤◌, ◌<◌, List, [], ◌∷◌, ◌++◌, Bool, if◌then◌else◌, Option}
use Rattle.std.proofs.Common.{None, Some, Result, Ok, Err, OnOk, IfErr, true, false, ◌⊎◌, inl, inr, refl, sym, ap}
use Rattle.std.proofs.Common.{subst, arith}
use Rattle.websocket.specs.CloseCode.{close_code_of, is_allowed}
use Rattle.websocket.specs.Connection.{Effect, can_write}
use Rattle.websocket.specs.declared.error.Error.{Error as FrameError}
use Rattle.websocket.specs.declared.error.Error.TheVariants as frame
use Rattle.websocket.specs.declared.error.ProtocolError.TheVariants.{InvalidCloseCode}
use Rattle.tungstenite.specs.Connection.{write_step, close_step}
use Rattle.tungstenite.specs.Content as content
use Rattle.tungstenite.specs.Content.{Content, text}
use Rattle.tungstenite.specs.Failure.{IsIo, IsOutside, WriteFails}
use Rattle.tungstenite.specs.Socket.{Socket, Reads, Writes, Flushed, content_of}
use Rattle.tungstenite.specs.declared.message.Message.{Message}
use Rattle.tungstenite.specs.declared.error.Error.{Error}
use Rattle.tungstenite.specs.declared.error.Error.TheVariants as fault
use Rattle.tungstenite.specs.declared.error.Error.TheVariants.{WriteBufferFull, OutOfMemory}
use Rattle.websocket.specs.declared.protocol.frame.coding.CloseCode.{CloseCode}
use Rattle.cf_queue.specs.declared.queue.Out.{Out}
use Rattle.cf_queue.specs.declared.queue.Out.TheVariants.{Text, Close}
use Rattle.cf_wire.specs.CloseFrame.{frame_of}
use Rattle.cf_wire.specs.Stages.{WireState, is_open, is_over, waits_by, end_by, stage_after, close_in, code_of_fault}
use Rattle.cf_wire.specs.Stages.{settled, Halts, Stops}
use Rattle.cf_wire.specs.Turn.{Event, heard, passed, ended, rejected, failed, none, sent, refused, flushed, tried}
use Rattle.cf_wire.specs.Turn.{reads, moves, bytes, bytes_before, is_stop, most_reads, most_bytes, IsEmptied, Rests}
use Rattle.cf_wire.specs.Turn.{IsUsedUp, EndFits, Reached, going, emptied, over, Fits, is_bad, is_signal, code_in}
use Rattle.cf_wire.specs.Turn.{bad_message, step_of, Puts, PutsOrKeeps, Fails, SendFails, Sends, Settles, Tells, TellsIf, FlushLeaves}
use Rattle.cf_wire.specs.Turn.{Place, place, DeskDoes, WireDoes, Did, Part, Turns, reached_by, read_in}
use Rattle.cf_wire.specs.declared.end.Stage.{Stage}
use Rattle.cf_wire.specs.declared.end.Stage.TheVariants.{Open, Unflushed, Over}
use Rattle.cf_wire.specs.declared.end.WireEnd.{WireEnd}
use Rattle.cf_wire.specs.declared.end.WireEnd.TheVariants as wire
use Rattle.cf_wire.specs.declared.end.TurnEnd.{TurnEnd}
use Rattle.cf_wire.specs.declared.end.TurnEnd.TheVariants as turn
use Rattle.tungstenite.proofs.SocketLemmas.{writes-sent}
use Rattle.cf_wire.proofs.Closing.{text_never, close_active, close_never, close_barred}

-- ---- counts

reads_append : (es fs : List Event) → reads (es ++ fs) ≡ reads es + reads fs
reads_append [] fs = omega arith
reads_append (e ∷ es) fs = omega (arith, reads_append es fs)

moves_append : (es fs : List Event) → moves (es ++ fs) ≡ moves es + moves fs
moves_append [] fs = omega arith
moves_append (e ∷ es) fs = omega (arith, moves_append es fs)

bytes_append : (es fs : List Event) → bytes (es ++ fs) ≡ bytes es + bytes fs
bytes_append [] fs = omega arith
bytes_append (e ∷ es) fs = omega (arith, bytes_append es fs)

bytes_zero : (es : List Event) → reads es ≡ 0 → bytes es ≡ 0
bytes_zero [] h = refl
bytes_zero (heard t ∷ es) h = absurd (omega (arith, h))
bytes_zero (passed ∷ es) h = absurd (omega (arith, h))
bytes_zero (ended c ∷ es) h = absurd (omega (arith, h))
bytes_zero (rejected ∷ es) h = absurd (omega (arith, h))
bytes_zero (failed x ∷ es) h = omega (arith, bytes_zero es (omega (arith, h)))
bytes_zero (none ∷ es) h = omega (arith, bytes_zero es (omega (arith, h)))
bytes_zero (sent o ∷ es) h = omega (arith, bytes_zero es (omega (arith, h)))
bytes_zero (refused o x ∷ es) h = omega (arith, bytes_zero es (omega (arith, h)))
bytes_zero (flushed ∷ es) h = omega (arith, bytes_zero es (omega (arith, h)))
bytes_zero (tried x ∷ es) h = omega (arith, bytes_zero es (omega (arith, h)))

before_zero : (es : List Event) → reads es ≡ 0 → bytes_before es ≡ 0
before_zero [] h = refl
before_zero (heard t ∷ es) h = absurd (omega (arith, h))
before_zero (passed ∷ es) h = absurd (omega (arith, h))
before_zero (ended c ∷ es) h = absurd (omega (arith, h))
before_zero (rejected ∷ es) h = absurd (omega (arith, h))
before_zero (failed x ∷ es) h = before_zero es (omega (arith, h))
before_zero (none ∷ es) h = before_zero es (omega (arith, h))
before_zero (sent o ∷ es) h = before_zero es (omega (arith, h))
before_zero (refused o x ∷ es) h = before_zero es (omega (arith, h))
before_zero (flushed ∷ es) h = before_zero es (omega (arith, h))
before_zero (tried x ∷ es) h = before_zero es (omega (arith, h))

before_bound : (es : List Event) → bytes_before es ≤ bytes es
before_bound [] = omega arith
before_bound (heard t ∷ es) = omega arith
before_bound (passed ∷ es) = omega arith
before_bound (ended c ∷ es) = omega arith
before_bound (rejected ∷ es) = omega arith
before_bound (failed x ∷ es) = omega (arith, before_bound es)
before_bound (none ∷ es) = omega (arith, before_bound es)
before_bound (sent o ∷ es) = omega (arith, before_bound es)
before_bound (refused o x ∷ es) = omega (arith, before_bound es)
before_bound (flushed ∷ es) = omega (arith, before_bound es)
before_bound (tried x ∷ es) = omega (arith, before_bound es)

before_quiet : (es fs : List Event) → reads es ≡ 0 → bytes_before (es ++ fs) ≡ bytes_before fs
before_quiet [] fs h = refl
before_quiet (heard t ∷ es) fs h = absurd (omega (arith, h))
before_quiet (passed ∷ es) fs h = absurd (omega (arith, h))
before_quiet (ended c ∷ es) fs h = absurd (omega (arith, h))
before_quiet (rejected ∷ es) fs h = absurd (omega (arith, h))
before_quiet (failed x ∷ es) fs h = before_quiet es fs (omega (arith, h))
before_quiet (none ∷ es) fs h = before_quiet es fs (omega (arith, h))
before_quiet (sent o ∷ es) fs h = before_quiet es fs (omega (arith, h))
before_quiet (refused o x ∷ es) fs h = before_quiet es fs (omega (arith, h))
before_quiet (flushed ∷ es) fs h = before_quiet es fs (omega (arith, h))
before_quiet (tried x ∷ es) fs h = before_quiet es fs (omega (arith, h))

before_append : (es fs : List Event) → bytes_before (es ++ fs) ≤ bytes_before es + bytes fs
before_append [] fs = omega (arith, before_bound fs)
before_append (heard t ∷ es) fs = omega (arith, bytes_append es fs)
before_append (passed ∷ es) fs = omega (arith, bytes_append es fs)
before_append (ended c ∷ es) fs = omega (arith, bytes_append es fs)
before_append (rejected ∷ es) fs = omega (arith, bytes_append es fs)
before_append (failed x ∷ es) fs = before_append es fs
before_append (none ∷ es) fs = before_append es fs
before_append (sent o ∷ es) fs = before_append es fs
before_append (refused o x ∷ es) fs = before_append es fs
before_append (flushed ∷ es) fs = before_append es fs
before_append (tried x ∷ es) fs = before_append es fs

light_then : (left rest : ℕ) (es fs : List Event) → rest ≡ left - bytes fs → (reads fs ≡ 0) ⊎ (bytes_before fs < left)
    → (reads es ≡ 0) ⊎ (bytes_before es < rest)
    → (reads (es ++ fs) ≡ 0) ⊎ (bytes_before (es ++ fs) < left)
light_then left rest es fs is (inl a) (inl b) = inl (omega (arith, reads_append es fs, a, b))
light_then left rest es fs is (inr a) (inl b) = inr (omega (arith, before_quiet es fs b, a))
light_then left rest es fs is a (inr b) = inr (omega (arith, before_append es fs, b, is))

light_all : (es : List Event) → (reads es ≡ 0) ⊎ (bytes_before es < most_bytes) → bytes_before es < most_bytes
light_all es (inl h) = omega (arith, before_zero es h)
light_all es (inr h) = h

-- ---- ends

rests_stop : (e : Event) (es : List Event) (b : Bool) → is_stop e ≡ true → Rests (e ∷ es) b
rests_stop (heard t) es b h = h
rests_stop passed es b h = h
rests_stop (ended c) es b h = h
rests_stop rejected es b h = h
rests_stop (failed x) es b h = h
rests_stop none es b h = absurd (cc h)
rests_stop (sent o) es b h = h
rests_stop (refused o x) es b h = h
rests_stop flushed es b h = h
rests_stop (tried x) es b h = h

rests_append : (es fs : List Event) (b : Bool) → Rests es b → Rests (es ++ fs) b
rests_append [] fs b h = absurd h
rests_append (heard t ∷ es) fs b h = h
rests_append (passed ∷ es) fs b h = h
rests_append (ended c ∷ es) fs b h = h
rests_append (rejected ∷ es) fs b h = h
rests_append (failed x ∷ es) fs b h = h
rests_append (none ∷ es) fs b h = h
rests_append (sent o ∷ es) fs b h = h
rests_append (refused o x ∷ es) fs b h = h
rests_append (flushed ∷ es) fs b h = h
rests_append (tried x ∷ es) fs b h = h

emptied_append : (es fs : List Event) → IsEmptied es → IsEmptied (es ++ fs)
emptied_append [] fs h = absurd h
emptied_append (heard t ∷ es) fs h = absurd h
emptied_append (passed ∷ es) fs h = absurd h
emptied_append (ended c ∷ es) fs h = absurd h
emptied_append (rejected ∷ es) fs h = absurd h
emptied_append (failed x ∷ es) fs h = absurd h
emptied_append (none ∷ es) fs h = tt
emptied_append (sent o ∷ es) fs h = absurd h
emptied_append (refused o x ∷ es) fs h = absurd h
emptied_append (flushed ∷ es) fs h = absurd h
emptied_append (tried x ∷ es) fs h = absurd h

rests_emptied : (es : List Event) (b : Bool) → IsEmptied es → b ≡ false → Rests es b
rests_emptied [] b h is = absurd h
rests_emptied (heard t ∷ es) b h is = absurd h
rests_emptied (passed ∷ es) b h is = absurd h
rests_emptied (ended c ∷ es) b h is = absurd h
rests_emptied (rejected ∷ es) b h is = absurd h
rests_emptied (failed x ∷ es) b h is = absurd h
rests_emptied (none ∷ es) b h is = is
rests_emptied (sent o ∷ es) b h is = absurd h
rests_emptied (refused o x ∷ es) b h is = absurd h
rests_emptied (flushed ∷ es) b h is = absurd h
rests_emptied (tried x ∷ es) b h is = absurd h

used_append : (es fs : List Event) → IsUsedUp es → IsUsedUp (es ++ fs)
used_append es fs (inl h) = inl (omega (arith, moves_append es fs, h))
used_append es fs (inr h) = inr (omega (arith, bytes_append es fs, h))

end_append : (end : TurnEnd) (es fs : List Event) (b : Bool) → EndFits end es b → EndFits end (es ++ fs) b
end_append turn.Idle es fs b h = rests_append es fs b h
end_append turn.More es fs b h = used_append es fs h
end_append (turn.Closed code) es fs b h = tt
end_append turn.StreamFault es fs b h = tt
end_append turn.Memory es fs b h = tt

fits_append : (reached : Reached) (es fs : List Event) (b : Bool) → Fits reached es b → Fits reached (es ++ fs) b
fits_append going es fs b h = tt
fits_append emptied es fs b h = emptied_append es fs h
fits_append (over end) es fs b h = end_append end es fs b h

fits_stop : (end : TurnEnd) (stage : Stage) (e : Event) (es : List Event) (b : Bool) → Halts end stage
    → is_stop e ≡ true → EndFits end (e ∷ es) b
fits_stop turn.Idle stage e es b halts h = rests_stop e es b h
fits_stop turn.More stage e es b halts h = absurd halts
fits_stop (turn.Closed code) stage e es b halts h = tt
fits_stop turn.StreamFault stage e es b halts h = tt
fits_stop turn.Memory stage e es b halts h = tt

-- a stage that is settled is opened or over
never_settled : (close : Option ℕ) (stage : Stage) → stage ≡ settled close → is_over stage ≡ false
    → is_open stage ≡ false → ⊥
never_settled None stage is spent opened = absurd (cc (sym (ap is_open is), opened))
never_settled (Some code) stage is spent opened = absurd (cc (sym (ap is_over is), spent))

-- so what settled was not idle
fits_settled : (end : TurnEnd) (close : Option ℕ) (stage : Stage) (e : Event) (es : List Event) (b : Bool)
    → stage ≡ settled close → Stops end stage → EndFits end (e ∷ es) b
fits_settled turn.Idle close stage e es b is h = absurd (never_settled close stage is h.0 h.1)
fits_settled turn.More close stage e es b is h = absurd h.0
fits_settled (turn.Closed code) close stage e es b is h = tt
fits_settled turn.StreamFault close stage e es b is h = tt
fits_settled turn.Memory close stage e es b is h = tt

closed_if : (b : Bool) (stage : Stage) (end : WireEnd) → is_open stage ≡ false
    → is_open (if b then stage else Over end) ≡ false
closed_if true stage end h = h
closed_if false stage end h = refl

-- an error leaves no wire open that was to wait for the stream
open_not_after : (stage : Stage) (e : Error) (close : Option ℕ) → stage ≡ Open → stage ≡ stage_after e (Unflushed close)
    → ⊥
open_not_after stage e close a b =
    absurd (cc (sym (ap is_open a) ∙ ap is_open b, closed_if (waits_by e) (Unflushed close) (end_by e) refl))

-- ---- what the socket answered

io_outside : (e : Error) → IsIo e → IsOutside e
io_outside (fault.Io cause) h = tt
io_outside e h = absurd h

io_not_full : (e : Error) → IsIo e → e ≡ WriteBufferFull → ⊥
io_not_full e h is = subst IsIo is h

io_not_memory : (e : Error) → IsIo e → e ≡ OutOfMemory → ⊥
io_not_memory e h is = subst IsIo is h

module _ {S : Type 0} where
  pub settles : (contents : S → Option (List ℕ)) (old mid new : Socket S) (out : Out) (stage : Stage)
      (answer : Result (Unit {0}) Error)
      → OnOk answer (Puts contents old out mid) → OnOk answer (mid.output ≡ [])
      → IfErr answer (Fails contents old out mid)
      → new ≡ mid → OnOk answer (stage ≡ settled (close_in out))
      → IfErr answer (λ e. stage ≡ stage_after e (Unflushed (close_in out)))
      → Settles contents old out new stage
  settles contents old mid new out stage (Ok u) puts empty fails same ok err =
      inl (subst (Puts contents old out) (sym same) puts, ap (λ (s : Socket S). s.output) same ∙ empty, ok)
  settles contents old mid new out stage (Err e) puts empty fails same ok err =
      let P : Socket S → Type 0 = λ x. Fails contents old out x e in
      inr (e, (subst P (sym same) fails, err))

  -- why a write failed that the protocol doesn't refuse: the stream failed, or nothing changed
  certain : (step : Result Effect FrameError) (e : Error) (old new : Socket S) → WriteFails step e
      → ((x : FrameError) → step ≡ Err x → ⊥) → (e ≡ WriteBufferFull → new ≡ old) → (e ≡ OutOfMemory → new ≡ old)
      → IsIo e ⊎ (new ≡ old)
  certain step e old new (inl is) never full memory = inr (full is)
  certain step (fault.Io cause) old new (inr (inl outside)) never full memory = inl tt
  certain step fault.OutOfMemory old new (inr (inl outside)) never full memory = inr (memory refl)
  certain step e old new (inr (inl outside)) never full memory = absurd outside
  certain step e old new (inr (inr why)) never full memory = absurd (never why.0 why.1)

  -- what a `send` or a `write` promises of an error
  pub sends_not : (contents : S → Option (List ℕ)) (old mid new : Socket S) (what : Content) (close : Option ℕ)
      (stage : Stage) (e : Error)
      → WriteFails (write_step old.conn what) e → (e ≡ WriteBufferFull → mid ≡ old)
      → (IsIo e → Writes contents old mid (write_step old.conn what)) → (e ≡ OutOfMemory → mid ≡ old)
      → new ≡ mid → stage ≡ stage_after e (Unflushed close) → Sends contents old what close new stage
  sends_not contents old mid new what close stage e fault full io memory same ends =
      let P : Socket S → Type 0 = λ x. SendFails contents old (write_step old.conn what) x e in
      inr (e, subst P (sym same) (fault, full, io, memory), ends)

  -- a `write`, and a `flush` behind it
  pub sends_written : (contents : S → Option (List ℕ)) (old mid new : Socket S) (what : Content) (close : Option ℕ)
      (stage : Stage) → Writes contents old mid (write_step old.conn what) → Flushed contents mid new
      → FlushLeaves close new stage → Sends contents old what close new stage
  sends_written contents old mid new what close stage wrote gone (inl left) =
      inl (writes-sent contents old mid new (write_step old.conn what) wrote gone, left.0, left.1)
  sends_written contents old mid new what close stage wrote gone (inr fails) =
      inr (
        fails.0,
        (
          inr (inl (io_outside fails.0 fails.1)),
          (λ is. absurd (io_not_full fails.0 fails.1 is)),
          (λ _. writes-sent contents old mid new (write_step old.conn what) wrote gone),
          λ is. absurd (io_not_memory fails.0 fails.1 is),
        ),
        fails.2,
      )

  -- by what was asked for, where the protocol doesn't refuse that
  settles_sent : (contents : S → Option (List ℕ)) (old new : Socket S) (what : Content) (out : Out) (stage : Stage)
      → write_step old.conn what ≡ step_of old.conn out
      → (can_write old.conn.state ≡ true → (x : FrameError) → step_of old.conn out ≡ Err x → ⊥)
      → Sends contents old what (close_in out) new stage → Settles contents old out new stage
  settles_sent contents old new what out stage same never (inl came) =
      inl (subst (Writes contents old new) same came.0, came.1, came.2)
  settles_sent contents old new what out stage same never (inr fails) =
      let F : Result Effect FrameError → Type 0 = λ r. SendFails contents old r new fails.0 in
      let why : F (step_of old.conn out) = subst F same fails.1 in
      inr (
        fails.0,
        (
          (
            why.0,
            why.2,
            why.3,
            λ writes. certain (step_of old.conn out) fails.0 old new why.0 (never writes) why.1 why.3,
          ),
          fails.2,
        ),
      )

  pub settles_text : (contents : S → Option (List ℕ)) (old new : Socket S) (s : List ℕ) (what : Content)
      (stage : Stage) → what ≡ text s → Sends contents old what None new stage → Settles contents old (Text s) new stage
  settles_text contents old new s what stage is answered =
      settles_sent contents old new what (Text s) stage (ap (write_step old.conn) is) (text_never old.conn s) answered

  -- nothing is asked of a connection that can't write
  pub settles_unasked : (contents : S → Option (List ℕ)) (old new : Socket S) (out : Out) (stage : Stage)
      → new ≡ old → stage ≡ Over wire.StreamFault → Settles contents old out new stage
  settles_unasked contents old new out stage same ends =
      inr (WriteBufferFull, ((inl refl, (λ (h : IsIo WriteBufferFull). absurd h), (λ _. same), λ _. inr same), ends))

  -- ---- a close

  pub settles_close : (contents : S → Option (List ℕ)) (old new : Socket S) (code : ℕ) (what : Content)
      (stage : Stage) → what ≡ content.close (frame_of code) → can_write old.conn.state ≡ true
      → is_allowed (close_code_of code) ≡ true → Sends contents old what (Some code) new stage
      → Settles contents old (Close code) new stage
  settles_close contents old new code what stage is writes allowed answered =
      let same : write_step old.conn what ≡ close_step old.conn (frame_of code) =
      ap (write_step old.conn) is ∙ close_active old.conn (frame_of code) writes in
      settles_sent contents old new what (Close code) stage same (λ _. close_never old.conn code writes allowed)
      answered

  -- a code that may not be sent: the protocol would refuse it
  fails_unasked : (contents : S → Option (List ℕ)) (old new : Socket S) (code : ℕ)
      → can_write old.conn.state ≡ true → is_allowed (close_code_of code) ≡ false → new ≡ old
      → Fails contents old (Close code) new (fault.Protocol (InvalidCloseCode code))
  fails_unasked contents old new code writes barred same = (
    inr (inr (frame.Protocol (InvalidCloseCode code), close_barred old.conn code writes barred, refl)),
    (λ h. absurd h),
    (λ _. same),
    λ _. inr same,
  )

  pub settles_barred : (contents : S → Option (List ℕ)) (old new : Socket S) (code : ℕ) (stage : Stage)
      → can_write old.conn.state ≡ true → is_allowed (close_code_of code) ≡ false → new ≡ old
      → stage ≡ stage_after (fault.Protocol (InvalidCloseCode code)) (Unflushed (Some code))
      → Settles contents old (Close code) new stage
  settles_barred contents old new code stage writes barred same ends =
      inr (fault.Protocol (InvalidCloseCode code), (fails_unasked contents old new code writes barred same, ends))

  -- once the connection can't write
  pub puts_spent : (contents : S → Option (List ℕ)) (old new : Socket S) (code : ℕ)
      (f : Option (CloseCode × List ℕ)) (answer : Result (Unit {0}) Error) → f ≡ frame_of code
      → OnOk answer (Writes contents old new (close_step old.conn f)) → OnOk answer (Puts contents old (Close code) new)
  puts_spent contents old new code f (Ok u) is puts = rw is at puts
  puts_spent contents old new code f (Err e) is puts = tt

  pub fails_spent : (contents : S → Option (List ℕ)) (old new : Socket S) (code : ℕ)
      (f : Option (CloseCode × List ℕ)) (answer : Result (Unit {0}) Error)
      → f ≡ frame_of code → can_write old.conn.state ≡ false
      → IfErr answer (WriteFails (close_step old.conn f))
      → IfErr answer (λ e. IsIo e → Writes contents old new (close_step old.conn f))
      → IfErr answer (λ e. e ≡ OutOfMemory → new ≡ old)
      → IfErr answer (Fails contents old (Close code) new)
  fails_spent contents old new code f (Ok u) is spent fault io memory = tt
  fails_spent contents old new code f (Err e) is spent fault io memory = (
    rw is at fault,
    (λ (h : IsIo e). rw is at (io h)),
    memory,
    λ writes. absurd (cc (sym writes, spent)),
  )

  kept_either : (contents : S → Option (List ℕ)) (old new : Socket S) (out : Out) (e : Error)
      → Fails contents old out new e → IsIo e ⊎ (new ≡ old) → PutsOrKeeps contents old out new
  kept_either contents old new out e fails (inl io) = inl (fails.1 io)
  kept_either contents old new out e fails (inr same) = inr same

  kept_by : (contents : S → Option (List ℕ)) (old new : Socket S) (out : Out) (e : Error) → Fails contents old out new e
      → can_write old.conn.state ≡ true → PutsOrKeeps contents old out new
  kept_by contents old new out e fails sure = kept_either contents old new out e fails (fails.3 sure)

  -- of a connection that can write, whatever was answered
  pub kept_of : (contents : S → Option (List ℕ)) (old new : Socket S) (out : Out) (stage : Stage)
      → Settles contents old out new stage → can_write old.conn.state ≡ true → PutsOrKeeps contents old out new
  kept_of contents old new out stage (inl lands) sure = inl lands.0
  kept_of contents old new out stage (inr fails) sure = kept_by contents old new out fails.0 fails.1.0 sure

  pub tells_settled : (contents : S → Option (List ℕ)) (old new : Socket S) (code : ℕ) (stage : Stage)
      → Settles contents old (Close code) new stage → Tells contents old code new
  tells_settled contents old new code stage (inl lands) = inl (lands.0, lands.1)
  tells_settled contents old new code stage (inr fails) = inr (fails.0, fails.1.0)

-- a close's code and reason
abbrev pub framed : CloseCode → List ℕ → Option (CloseCode × List ℕ)
framed code reason = Some (code, reason)

pub frame_same : (a b : CloseCode) (x y : List ℕ) → a ≡ b → x ≡ y → framed a x ≡ framed b y
frame_same a b x y h i = ap (λ c. framed c x) h ∙ ap (framed b) i

-- ---- turns

module _ {D S : Type 0} (hears : D → List ℕ → D → Type 0) (gives : D → Option Out → D → Type 0) (ready : D → Bool)
    (remaining contents : S → Option (List ℕ)) where
  did_then : (es fs : List Event) (p q r : Place D S) → Did hears gives ready remaining contents fs p q
      → Did hears gives ready remaining contents es q r → Did hears gives ready remaining contents (es ++ fs) p r
  did_then [] fs p q r a b = let P : Place D S → Type 0 = λ x. Did hears gives ready remaining contents fs p x in
      subst P (sym b) a
  did_then (e ∷ es) fs p q r a b = (b.0, did_then es fs p q b.0 a b.1, b.2, b.3)

  pub turns_none : (left : ℕ) (p : Place D S) → Part hears gives ready remaining contents 0 0 left left going p p
  turns_none left p =
      record {
        events = [];
        did = refl;
        busy = omega arith;
        bound = omega arith;
        spends = omega arith;
        light = inl refl;
        fits = tt;
      }

  pub turns_one : (e : Event) (low high left rest : ℕ) (reached : Reached) (p q : Place D S)
      → DeskDoes hears gives ready remaining contents e p.desk q.desk
      → WireDoes hears gives ready remaining contents e p.wire q.wire
      → low ≤ moves (e ∷ []) → reads (e ∷ []) ≤ high → rest ≡ left - bytes (e ∷ []) → (reads (e ∷ []) ≡ 0)
      ⊎ (bytes_before (e ∷ []) < left) → Fits reached (e ∷ []) (ready q.desk)
      → Part hears gives ready remaining contents low high left rest reached p q
  turns_one e low high left rest reached p q d w busy bound spends light fits =
      record {
        events = e ∷ [];
        did = (p, refl, d, w);
        busy = busy;
        bound = bound;
        spends = spends;
        light = light;
        fits = fits;
      }

  pub turns_then : (l m low h k high left mid rest : ℕ) (first reached : Reached) (p q r : Place D S)
      → Part hears gives ready remaining contents l h left mid first p q
      → Part hears gives ready remaining contents m k mid rest reached q r → low ≤ l + m → h + k ≤ high
      → Part hears gives ready remaining contents low high left rest reached p r
  turns_then l m low h k high left mid rest first reached p q r a b busy bound = record {
    events = b.events ++ a.events;
    did = did_then b.events a.events p q r a.did b.did;
    busy = omega (arith, moves_append b.events a.events, a.busy, b.busy, busy);
    bound = omega (arith, reads_append b.events a.events, a.bound, b.bound, bound);
    spends = omega (arith, bytes_append b.events a.events, a.spends, b.spends);
    light = light_then left mid b.events a.events a.spends a.light b.light;
    fits = fits_append reached b.events a.events (ready r.desk) b.fits;
  }

  -- where nothing was read no byte of what was left is spent
  pub turns_quiet : (low high left rest : ℕ) (reached : Reached) (p q : Place D S)
      → Part hears gives ready remaining contents low 0 0 0 reached p q → rest ≡ left
      → Part hears gives ready remaining contents low high left rest reached p q
  turns_quiet low high left rest reached p q a same = record {
    events = a.events;
    did = a.did;
    busy = a.busy;
    bound = omega (arith, a.bound);
    spends = omega (arith, same, bytes_zero a.events (omega (arith, a.bound)));
    light = inl (omega (arith, a.bound));
    fits = a.fits;
  }

  -- the same under another name of how far it came
  pub turns_as : (low high left rest : ℕ) (reached named : Reached) (p q : Place D S)
      → Part hears gives ready remaining contents low high left rest reached p q → reached ≡ named
      → Part hears gives ready remaining contents low high left rest named p q
  turns_as low high left rest reached named p q a same = let P : Reached → Type 0 =
      λ m. Part hears gives ready remaining contents low high left rest m p q in subst P same a

  -- there may be more
  pub turns_sent_much : (low l : ℕ) (reached : Reached) (p q : Place D S)
      → Part hears gives ready remaining contents l 0 0 0 reached p q → most_reads ≤ l → low ≡ 0
      → Part hears gives ready remaining contents low 0 0 0 (over turn.More) p q
  turns_sent_much low l reached p q a much is = record {
    events = a.events;
    did = a.did;
    busy = omega (arith, is);
    bound = a.bound;
    spends = a.spends;
    light = a.light;
    fits = inl (omega (arith, a.busy, much));
  }

  -- ---- whole turns

  pub turns_done : (low high rest : ℕ) (end : TurnEnd) (p q : Place D S)
      → Part hears gives ready remaining contents low high most_bytes rest (over end) p q → high ≤ most_reads
      → Turns hears gives ready remaining contents end p q
  turns_done low high rest end p q a bound =
      record {
        events = a.events;
        did = a.did;
        bound = omega (arith, a.bound, bound);
        light = light_all a.events a.light;
        fits = a.fits;
      }

  pub turns_go_on : (low high rest : ℕ) (reached : Reached) (p q : Place D S)
      → Part hears gives ready remaining contents low high most_bytes rest reached p q → high ≤ most_reads
      → (most_reads ≤ low) ⊎ (rest ≡ 0) → Turns hears gives ready remaining contents turn.More p q
  turns_go_on low high rest reached p q a bound (inl h) =
      record {
        events = a.events;
        did = a.did;
        bound = omega (arith, a.bound, bound);
        light = light_all a.events a.light;
        fits = inl (omega (arith, a.busy, h));
      }
  turns_go_on low high rest reached p q a bound (inr h) =
      record {
        events = a.events;
        did = a.did;
        bound = omega (arith, a.bound, bound);
        light = light_all a.events a.light;
        fits = inr (omega (arith, a.spends, h));
      }

  pub turns_wait : (low high rest : ℕ) (p q : Place D S)
      → Part hears gives ready remaining contents low high most_bytes rest emptied p q → high ≤ most_reads
      → ready q.desk ≡ false → Turns hears gives ready remaining contents turn.Idle p q
  turns_wait low high rest p q a bound is =
      record {
        events = a.events;
        did = a.did;
        bound = omega (arith, a.bound, bound);
        light = light_all a.events a.light;
        fits = rests_emptied a.events (ready q.desk) a.fits is;
      }

  pub turns_after : (low : ℕ) (reached : Reached) (end : TurnEnd) (p q r : Place D S)
      → Part hears gives ready remaining contents low 0 0 0 reached p q
      → Turns hears gives ready remaining contents end q r → Turns hears gives ready remaining contents end p r
  turns_after low reached end p q r a b = record {
    events = b.events ++ a.events;
    did = did_then b.events a.events p q r a.did b.did;
    bound = omega (arith, reads_append b.events a.events, a.bound, b.bound);
    light = omega (arith, before_append b.events a.events, bytes_zero a.events (omega (arith, a.bound)), b.light);
    fits = end_append end b.events a.events (ready r.desk) b.fits;
  }

  -- ---- by what was sent

  pub out_open : (d e : D) (v w : WireState S) (out : Out) → v.stage ≡ Open → gives d (Some out) e
      → Settles contents v.socket out w.socket w.stage → w.stage ≡ Open
      → Part hears gives ready remaining contents 1 0 0 0 going (place d v) (place e w)
  out_open d e v w out is h (inl lands) opened =
      turns_one (sent out) 1 0 0 0 going _ _ h (is, lands) (omega arith) (omega arith) (omega arith) (inl (omega arith))
      tt
  out_open d e v w out is h (inr fails) opened = absurd (open_not_after w.stage fails.0 (close_in out) opened fails.1.1)

  pub out_stopped : (d e : D) (v w : WireState S) (out : Out) (end : TurnEnd) → v.stage ≡ Open → gives d (Some out) e
      → Settles contents v.socket out w.socket w.stage → PutsOrKeeps contents v.socket out w.socket
      → Stops end w.stage → Part hears gives ready remaining contents 0 0 0 0 (over end) (place d v) (place e w)
  out_stopped d e v w out end is h (inl lands) kept stops =
      turns_one (sent out) 0 0 0 0 (over end) _ _ h (is, lands) (omega arith) (omega arith) (omega arith)
      (inl (omega arith)) (fits_settled end (close_in out) w.stage (sent out) [] (ready e) lands.2 stops)
  out_stopped d e v w out end is h (inr fails) kept stops =
      turns_one (refused out fails.0) 0 0 0 0 (over end) _ _ h (is, fails.1, kept) (omega arith) (omega arith)
      (omega arith)
      (inl (omega arith)) (fits_stop end w.stage (refused out fails.0) [] (ready e) stops.0 refl)

  -- ---- by what was flushed

  pub flush_turns : (d : D) (v w : WireState S) (close : Option ℕ) (r : Result (Unit {0}) TurnEnd)
      → v.stage ≡ Unflushed close → Flushed contents v.socket w.socket
      → FlushLeaves close w.socket w.stage → OnOk r (w.stage ≡ Open) → IfErr r (λ end. Stops end w.stage)
      → Part hears gives ready remaining contents 0 0 0 0 (reached_by r) (place d v) (place d w)
  flush_turns d v w close (Ok u) is f (inl leaves) opened stops =
      turns_one flushed 0 0 0 0 going _ _ refl (close, is, f, leaves.0, leaves.1) (omega arith) (omega arith)
      (omega arith) (inl (omega arith)) tt
  flush_turns d v w close (Ok u) is f (inr fails) opened stops =
      absurd (open_not_after w.stage fails.0 close opened fails.2)
  flush_turns d v w close (Err end) is f (inl leaves) opened stops =
      turns_one flushed 0 0 0 0 (over end) _ _ refl (close, is, f, leaves.0, leaves.1) (omega arith) (omega arith)
      (omega arith) (inl (omega arith)) (fits_settled end close w.stage flushed [] (ready d) leaves.1 stops)
  flush_turns d v w close (Err end) is f (inr fails) opened stops =
      turns_one (tried fails.0) 0 0 0 0 (over end) _ _ refl (close, is, f, fails.1, fails.2) (omega arith) (omega arith)
      (omega arith) (inl (omega arith)) (fits_stop end w.stage (tried fails.0) [] (ready d) stops.0 refl)

  -- ---- by what was read

  turns_at : (low high left rest : ℕ) (reached : Reached) (d : D) (u v : WireState S) (q : Place D S) → u ≡ v
      → Part hears gives ready remaining contents low high left rest reached (place d u) q
      → Part hears gives ready remaining contents low high left rest reached (place d v) q
  turns_at low high left rest reached d u v q same h =
      let P : WireState S → Type 0 =
      λ x. Part hears gives ready remaining contents low high left rest reached (place d x) q in
      subst P same h

  stage_at : (u v : WireState S) → u ≡ v → v.stage ≡ Open → u.stage ≡ Open
  stage_at u v same is = ap (λ (x : WireState S). x.stage) same ∙ is

  -- a message was acted on at the stage that was found
  pub acted_turns : (low high left rest : ℕ) (reached : Reached) (d : D) (u v : WireState S) (q : Place D S) → u ≡ v
      → v.stage ≡ Open
      → Part hears gives ready remaining contents low high left rest reached
      (place d (record { socket = u.socket; stage = Open })) q
      → Part hears gives ready remaining contents low high left rest reached (place d v) q
  acted_turns low high left rest reached d u v q same is h =
      let found : WireState S = record { socket = u.socket; stage = Open } in
      let at : found ≡ u = λ i. record { socket = u.socket; stage = sym (stage_at u v same is) i } in
      turns_at low high left rest reached d found v q (at ∙ same) h

  pub heard_turns : (d e : D) (u v w : WireState S) (m : Message) (t : List ℕ) (left rest : ℕ) → u ≡ v → v.stage ≡ Open
      → ready d ≡ true → 0 < left → w.stage ≡ u.stage
      → Reads remaining u.socket w.socket (Ok m) → content_of m ≡ text t → hears d t e → rest ≡ left - length t
      → Part hears gives ready remaining contents 1 1 left rest going (place d v) (place e w)
  heard_turns d e u v w m t left rest same is free room stays read says h spends =
      let at : u.stage ≡ Open = stage_at u v same is in
      turns_at 1 1 left rest going d u v _ same
      (turns_one (heard t) 1 1 left rest going _ _ (free, h) (at, stays ∙ at, (m, read, says)) (omega arith)
      (omega arith) (omega (arith, spends)) (inr (omega (arith, room))) tt)

  pub passed_turns : (d : D) (u v w : WireState S) (m : Message) (left rest : ℕ) → u ≡ v → v.stage ≡ Open
      → ready d ≡ true → 0 < left → rest ≡ left → w.stage ≡ u.stage
      → Reads remaining u.socket w.socket (Ok m) → is_signal (content_of m) ≡ true
      → Part hears gives ready remaining contents 1 1 left rest going (place d v) (place d w)
  passed_turns d u v w m left rest same is free room stay stays read says =
      let at : u.stage ≡ Open = stage_at u v same is in
      turns_at 1 1 left rest going d u v _ same
      (turns_one passed 1 1 left rest going _ _ (free, refl) (at, stays ∙ at, (m, read, says)) (omega arith)
      (omega arith) (omega (arith, stay)) (inr (omega (arith, room))) tt)

  reject_here : (d : D) (v w : WireState S) (mid : Socket S) (m : Result Message Error) (r : Result (Unit {0}) TurnEnd)
      (left rest : ℕ) → ready d ≡ true → 0 < left → rest ≡ left
      → v.stage ≡ Open → is_bad m → Reads remaining v.socket mid m
      → Settles contents mid (Close bad_message) w.socket w.stage → IfErr r (λ end. Stops end w.stage)
      → Part hears gives ready remaining contents (read_in r) 1 left rest (reached_by r) (place d v) (place d w)
  reject_here d v w mid m (Ok u) left rest free room stay is bad read put stops =
      turns_one rejected 1 1 left rest going _ _ (free, refl) (is, (m, mid, bad, read, put)) (omega arith) (omega arith)
      (omega (arith, stay)) (inr (omega (arith, room))) tt
  reject_here d v w mid m (Err end) left rest free room stay is bad read put stops =
      turns_one rejected 0 1 left rest (over end) _ _ (free, refl) (is, (m, mid, bad, read, put)) (omega arith)
      (omega arith) (omega (arith, stay)) (inr (omega (arith, room)))
      (fits_stop end w.stage rejected [] (ready d) stops.0 refl)

  pub reject_turns : (d : D) (u v w : WireState S) (mid : Socket S) (m : Result Message Error) (code : ℕ)
      (r : Result (Unit {0}) TurnEnd) (left rest : ℕ) → u ≡ v → v.stage ≡ Open
      → ready d ≡ true → 0 < left → rest ≡ left → is_bad m
      → Reads remaining u.socket mid m → code ≡ bad_message → Settles contents mid (Close code) w.socket w.stage
      → IfErr r (λ end. Stops end w.stage)
      → Part hears gives ready remaining contents (read_in r) 1 left rest (reached_by r) (place d v) (place d w)
  reject_turns d u v w mid m code r left rest same is free room stay bad read number put stops =
      let P : ℕ → Type 0 = λ n. Settles contents mid (Close n) w.socket w.stage in
      turns_at _ _ _ _ _ d u v _ same (reject_here d u w mid m r left rest free room stay (stage_at u v same is) bad
      read (subst P number put) stops)

  close_here : (d : D) (v x w : WireState S) (code : ℕ) (r : Result (Unit {0}) TurnEnd) (left rest : ℕ) → ready d ≡ true
      → 0 < left → rest ≡ left → WireDoes hears gives ready remaining contents (ended code) v x
      → Flushed contents x.socket w.socket → FlushLeaves (Some code) w.socket w.stage → OnOk r (w.stage ≡ Open)
      → IfErr r (λ end. Stops end w.stage)
      → Part hears gives ready remaining contents (read_in r) 1 left rest (reached_by r) (place d v) (place d w)
  close_here d v x w code (Ok u) left rest free room stay did f leaves opened stops =
      turns_then 1 0 1 1 0 1 left left rest going going _ (place d x) _
      (turns_one (ended code) 1 1 left left going _ _ (free, refl) did (omega arith) (omega arith) (omega arith)
      (inr (omega (arith, room))) tt)
      (turns_quiet 0 0 left rest going _ _ (flush_turns d x w (Some code) (Ok u) did.1 f leaves opened stops) stay)
      (omega arith) (omega arith)
  close_here d v x w code (Err end) left rest free room stay did f leaves opened stops =
      turns_then 1 0 0 1 0 1 left left rest going (over end) _ (place d x) _
      (turns_one (ended code) 1 1 left left going _ _ (free, refl) did (omega arith) (omega arith) (omega arith)
      (inr (omega (arith, room))) tt)
      (turns_quiet 0 0 left rest (over end) _ _ (flush_turns d x w (Some code) (Err end) did.1 f leaves opened stops)
      stay) (omega arith) (omega arith)

  pub close_turns : (d : D) (u v w : WireState S) (mid : Socket S) (m : Message) (code : ℕ)
      (r : Result (Unit {0}) TurnEnd) (left rest : ℕ) → u ≡ v → v.stage ≡ Open
      → ready d ≡ true → 0 < left → rest ≡ left → Reads remaining u.socket mid (Ok m)
      → code_in (content_of m) ≡ Some code → Flushed contents mid w.socket → FlushLeaves (Some code) w.socket w.stage
      → OnOk r (w.stage ≡ Open) → IfErr r (λ end. Stops end w.stage)
      → Part hears gives ready remaining contents (read_in r) 1 left rest (reached_by r) (place d v) (place d w)
  close_turns d u v w mid m code r left rest same is free room stay read says f leaves opened stops =
      turns_at _ _ _ _ _ d u v _ same
      (close_here d u (record { socket = mid; stage = Unflushed (Some code) }) w code r left rest free room stay
      (stage_at u v same is, refl, (m, read, says)) f leaves opened stops)

  pub fail_turns : (d : D) (u v w : WireState S) (mid : Socket S) (e : Error) (end : TurnEnd) (left rest : ℕ) → u ≡ v
      → v.stage ≡ Open
      → ready d ≡ true → 0 < left → rest ≡ left → Reads remaining u.socket mid (Err e)
      → TellsIf contents mid (code_of_fault e) w.socket → w.stage ≡ stage_after e Open → Halts end w.stage
      → Part hears gives ready remaining contents 0 1 left rest (over end) (place d v) (place d w)
  fail_turns d u v w mid e end left rest same is free room stay read tells left_at halts =
      turns_at _ _ _ _ _ d u v _ same
      (turns_one (failed e) 0 1 left rest (over end) _ _ (free, refl)
      (stage_at u v same is, (mid, read, tells), left_at)
      (omega arith) (omega arith) (omega (arith, stay)) (inl (omega arith))
      (fits_stop end w.stage (failed e) [] (ready d) halts refl))
