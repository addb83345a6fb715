-- The law of the theory, cited by name.
use Rattle.cf_machine.proofs.Accounts.{safe_loose}
use Rattle.cf_machine.proofs.laws.safe_loose.Goals as goal

pub returns : goal.returns
returns c = safe_loose
