-- Both clauses are laws of the theory, cited by name.
use Rattle.cf_machine.proofs.Headline.{notes_lead, positions_listed}
use Rattle.cf_machine.proofs.laws.notes_lead.Goals as goal

pub returns-clause-lead : goal.returns-clause-lead
returns-clause-lead c = notes_lead

pub returns-clause-listed : goal.returns-clause-listed
returns-clause-listed c = positions_listed
