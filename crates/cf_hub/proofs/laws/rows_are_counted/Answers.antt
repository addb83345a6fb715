-- Each clause is a law of the theory, cited by name.
use Rattle.cf_hub.proofs.Counts.{counts_all, counts_session}
use Rattle.cf_hub.proofs.laws.rows_are_counted.Goals as goal

pub returns-clause-session : goal.returns-clause-session
returns-clause-session c = counts_session

pub returns-clause-all : goal.returns-clause-all
returns-clause-all c = counts_all
