-- The law of the theory, with its arguments in order.
use Rattle.cf_running_ties.proofs.Seen.{sound}
use Rattle.cf_running_ties.proofs.laws.what_is_seen_is_sound.Goals as goal

pub returns : goal.returns
returns c = λ config seen good. sound config seen good
