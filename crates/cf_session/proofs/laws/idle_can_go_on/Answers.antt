-- The lemma of this name in `proofs/Playing`.
use Rattle.cf_session.proofs.Playing.{idle_can_go_on}
use Rattle.cf_session.proofs.laws.idle_can_go_on.Goals as goal

pub returns : goal.returns
returns c = idle_can_go_on
