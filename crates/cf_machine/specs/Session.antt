-- A client's session in the machine: that of cf_model, with notes for what waits and, before a reply, the places that
-- came. It has no texts and no data.
use Rattle.std.specs.Prelude.{List}
use Rattle.cf_protocol.specs.Position.{Position}
use Rattle.cf_protocol.specs.Note.{Note}
use Rattle.cf_model.specs.Sessions.{SessionState, Subscription, Wording}

abbrev pub Sub : Type 0
Sub = Subscription (List Position)

abbrev pub Session : Type 0
Session = SessionState (List Position) Note

abbrev pub Words : Type 0
Words = Wording (List Position) Note
