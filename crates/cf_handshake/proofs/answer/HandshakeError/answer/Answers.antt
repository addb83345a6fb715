-- Each arm's text is reckoned out, with the digits of its length unfolded.
use Rattle.std.proofs.Common.{refl}
use Rattle.std.specs.Fmt.{digits}
use Rattle.cf_handshake.proofs.answer.HandshakeError.answer.Goals as goal

pub returns-in-BadRequest : goal.returns-in-BadRequest
unfolding digits
returns-in-BadRequest c = rw c.in-BadRequest.is refl

pub returns-in-UpgradeRequired : goal.returns-in-UpgradeRequired
unfolding digits
returns-in-UpgradeRequired c = rw c.in-UpgradeRequired.is refl
