-- The law of the theory, cited by name.
use Rattle.cf_running.proofs.Subscribing.{what_was_read}
use Rattle.cf_running.proofs.laws.told_is_what_was_read.Goals as goal

pub returns : goal.returns
returns c = what_was_read
