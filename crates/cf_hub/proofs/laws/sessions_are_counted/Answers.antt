-- The law of the theory, cited by name.
use Rattle.cf_hub.proofs.Counts.{counts_sessions}
use Rattle.cf_hub.proofs.laws.sessions_are_counted.Goals as goal

pub returns : goal.returns
returns c = counts_sessions
