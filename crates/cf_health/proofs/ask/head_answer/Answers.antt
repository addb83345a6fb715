-- Each branch's text is reckoned out, with the digits of its length unfolded.
use Rattle.std.proofs.Common.{refl}
use Rattle.std.specs.Fmt.{digits}
use Rattle.cf_health.proofs.ask.head_answer.Goals as goal

pub returns-then-is_well : goal.returns-then-is_well
unfolding digits
returns-then-is_well c = rw c.if-is_well.true refl

pub returns-else-is_well : goal.returns-else-is_well
unfolding digits
returns-else-is_well c = rw c.if-is_well.false refl
