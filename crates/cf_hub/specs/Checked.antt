-- What a position check answers, as the code has it.
use Rattle.std.specs.Prelude.{ℕ, Option, Some, None}
use Rattle.cf_protocol.specs.Position.{Position}
use Rattle.cf_model.specs.Recovery.{Checked, Fine, Behind, Ended, position_check}
use Rattle.cf_model.specs.Sessions.{Subscription, Off, Asked, Ready, On}
use Rattle.cf_hub.specs.declared.checked.Checked.{Checked as Answer}
use Rattle.cf_hub.specs.declared.checked.Checked.TheVariants as answer
use Rattle.cf_hub.specs.declared.subscription.Progress.{Progress}
use Rattle.cf_hub.specs.declared.subscription.Progress.TheVariants as code

abbrev pub answer_of : Checked → Answer
answer_of Fine = answer.Fine
answer_of Behind = answer.Behind
answer_of Ended = answer.Ended

-- nothing if there is no finished subscription
abbrev pub check_answer : {B : Type 0} → Option Position → Subscription B → Answer
check_answer top Off = answer.Nothing
check_answer top (Asked id since b) = answer.Nothing
check_answer top (Ready id was r b) = answer.Nothing
check_answer top (On p behind_at) = answer_of (position_check top p behind_at)

-- where a finished subscription was found behind, after a check that answers so
abbrev pub behind_after : Answer → Position → Option ℕ
behind_after answer.Nothing at = None
behind_after answer.Fine at = None
behind_after answer.Behind at = Some at.offset
behind_after answer.Ended at = None

abbrev pub after_check : Answer → Progress → Progress
after_check a (code.Asked id since waiting) = code.Asked id since waiting
after_check a (code.Ready id was recovery waiting) = code.Ready id was recovery waiting
after_check a (code.On at behind_at) = code.On at (behind_after a at)

-- where a finished subscription stands, and where it was found behind
pub record Stand : Type 0 where
  pub at : Position
  pub behind_at : Option ℕ

abbrev pub stand_of : {B : Type 0} → Subscription B → Option Stand
stand_of Off = None
stand_of (Asked id since b) = None
stand_of (Ready id was r b) = None
stand_of (On at behind_at) = Some (record { at = at; behind_at = behind_at })

-- where a finished subscription stands
abbrev pub position_in : {B : Type 0} → Subscription B → Option Position
position_in Off = None
position_in (Asked id since b) = None
position_in (Ready id was r b) = None
position_in (On at behind_at) = Some at
