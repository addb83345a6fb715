-- Both clauses are laws of the theory, cited by name.
use Rattle.cf_recovery.proofs.Runs.{member, once}
use Rattle.cf_recovery.proofs.laws.arrivals_are_a_set.Goals as goal

pub returns-clause-member : goal.returns-clause-member
returns-clause-member c = member

pub returns-clause-once : goal.returns-clause-once
returns-clause-once c = once
