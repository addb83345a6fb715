-- The law of the theory, cited by name.
use Rattle.cf_machine.proofs.Headline.{safe_run}
use Rattle.cf_machine.proofs.laws.safe_always.Goals as goal

pub returns : goal.returns
returns c = safe_run
