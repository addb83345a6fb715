-- Which answer is written to a client when. (RFC 6455, 4.2; what a head asks for and the texts are those of
-- `cf_handshake`.)
use Rattle.std.specs.Prelude.{◌≡◌, ◌⊎◌, ℕ, Bool, true, false, List, take, drop, ⊤, Option, None, Some}
use Rattle.std.specs.Io.KnownBytes.{Appends}
use Rattle.httparse.specs.Grammar.{RequestHead}
use Rattle.cf_handshake.specs.Answers.{opening_text, refusal_text}
use Rattle.cf_handshake.specs.Asks.{Asks, IsUnread, IsWhole, request_of}
use Rattle.cf_handshake.specs.declared.answer.Opening.{Opening}
use Rattle.cf_handshake.specs.declared.answer.HandshakeError.{HandshakeError}
use Rattle.cf_handshake.specs.declared.answer.HandshakeError.TheVariants.{BadRequest}
use Rattle.cf_handshake.specs.declared.asked.HeadAsk.{HeadAsk}
use Rattle.cf_handshake.specs.declared.asked.HeadAsk.TheVariants as asked
use Rattle.cf_wire.specs.Heads.{Comes}
use Rattle.cf_wire.specs.Stages.{WireState}
use Rattle.cf_wire.specs.declared.accept.RefusedStream.{RefusedStream}
use Rattle.cf_wire.specs.declared.accept.WireFault.{WireFault}
use Rattle.cf_wire.specs.declared.accept.WireFault.TheVariants.{Handshake, Health, StreamFault, Memory}

-- what a head asks for, and what bytes that are no head do
pub record HeadAsks (head : List ℕ) (asks : HeadAsk) : Type 0 where
  pub read : (h : RequestHead) → IsWhole head h → Asks (request_of h) asks
  pub unread : IsUnread head → asks ≡ asked.Refused BadRequest

-- some of the text was written, from its beginning
abbrev pub AppendsSome : Option (List ℕ) → Option (List ℕ) → List ℕ → Type 0
AppendsSome old new text = (n : ℕ) × Appends old new (take n text)

-- all of the text was written, or some of it
abbrev pub AppendsBy : Bool → Option (List ℕ) → Option (List ℕ) → List ℕ → Type 0
AppendsBy true old new text = Appends old new text
AppendsBy false old new text = AppendsSome old new text

module _ {S : Type 0} (contents : S → Option (List ℕ)) where
  -- the refusal is written, whole where it says so
  abbrev pub Tells : S → HandshakeError → RefusedStream S → Type 0
  Tells old refusal refused = AppendsBy refused.answered (contents old) (contents refused.stream) (refusal_text refusal)

  -- a head that asks for a WebSocket is answered by its opening, and what was read behind it is the first input
  abbrev pub OpensBy : S → List ℕ → List ℕ → WireState S → Type 0
  OpensBy old head rest wire =
      (opening : Opening) × HeadAsks head (asked.Socket opening)
      × Appends (contents old) (contents wire.socket.stream) (opening_text opening) × (wire.socket.input ≡ rest)

  -- why a head opens none: it is refused, and told so; or it asks for the health, and nothing is written
  abbrev pub RefusesFor : WireFault → S → List ℕ → RefusedStream S → Type 0
  RefusesFor Handshake old head refused =
      (refusal : HandshakeError) × HeadAsks head (asked.Refused refusal) × Tells old refusal refused
  RefusesFor Health old head refused = HeadAsks head asked.Health × (refused.stream ≡ old)
  RefusesFor StreamFault old head refused = ⊤
  RefusesFor Memory old head refused = ⊤

  abbrev pub RefusesBy : S → List ℕ → RefusedStream S → Type 0
  RefusesBy old head refused = RefusesFor refused.fault old head refused

  module _ (remaining : S → Option (List ℕ)) where
    -- a head is read up to its end, and answered by an opening
    pub record Opens (old : S) (wire : WireState S) : Type 0 where
      pub mid : S
      pub bytes : List ℕ
      pub end : ℕ
      pub comes : Comes remaining old mid bytes (Some end)
      pub opens : OpensBy mid (take end bytes) (drop end bytes) wire

    -- a head is read up to its end, and refused
    pub record RefusesHead (old : S) (refused : RefusedStream S) : Type 0 where
      pub mid : S
      pub bytes : List ℕ
      pub end : ℕ
      pub comes : Comes remaining old mid bytes (Some end)
      pub refuses : RefusesBy mid (take end bytes) refused

    -- more is read than a head may have, and nothing is written
    pub record IsTooLong (old : S) (refused : RefusedStream S) : Type 0 where
      pub bytes : List ℕ
      pub comes : Comes remaining old refused.stream bytes None

    -- why there is no wire: a head is too long, or refused; or it asks for the health; or the stream failed, or
    -- memory was refused
    abbrev pub RefusesAt : WireFault → S → RefusedStream S → Type 0
    RefusesAt Handshake old refused = IsTooLong old refused ⊎ RefusesHead old refused
    RefusesAt Health old refused = RefusesHead old refused
    RefusesAt StreamFault old refused = ⊤
    RefusesAt Memory old refused = ⊤

    abbrev pub Refuses : S → RefusedStream S → Type 0
    Refuses old refused = RefusesAt refused.fault old refused
