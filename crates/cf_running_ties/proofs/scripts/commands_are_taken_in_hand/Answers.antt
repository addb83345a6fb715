-- Each clause is a law of the theory, cited by name.
use Rattle.cf_running_ties.proofs.Handling.{begins, calls, leaves, refused}
use Rattle.cf_running_ties.proofs.scripts.commands_are_taken_in_hand.Goals as goal

pub returns-clause-refused : goal.returns-clause-refused
returns-clause-refused c = refused

pub returns-clause-begins : goal.returns-clause-begins
returns-clause-begins c = begins

pub returns-clause-leaves : goal.returns-clause-leaves
returns-clause-leaves c = leaves

pub returns-clause-calls : goal.returns-clause-calls
returns-clause-calls c = calls
