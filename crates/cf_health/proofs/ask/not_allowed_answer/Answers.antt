-- The text is reckoned out, with the digits of its length unfolded.
use Rattle.std.proofs.Common.{refl}
use Rattle.std.specs.Fmt.{digits}
use Rattle.cf_health.proofs.ask.not_allowed_answer.Goals as goal

pub returns : goal.returns
unfolding digits
returns c = refl
