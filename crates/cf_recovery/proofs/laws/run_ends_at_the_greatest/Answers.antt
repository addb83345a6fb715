-- Each clause is a law of the theory, cited by name.
use Rattle.cf_recovery.proofs.Runs.{reached, furthest, none, sufficient}
use Rattle.cf_recovery.proofs.laws.run_ends_at_the_greatest.Goals as goal

pub returns-clause-reached : goal.returns-clause-reached
returns-clause-reached c = reached

pub returns-clause-greatest : goal.returns-clause-greatest
returns-clause-greatest c = furthest

pub returns-clause-overfull : goal.returns-clause-overfull
returns-clause-overfull c = none

pub returns-clause-sufficient : goal.returns-clause-sufficient
returns-clause-sufficient c = sufficient
