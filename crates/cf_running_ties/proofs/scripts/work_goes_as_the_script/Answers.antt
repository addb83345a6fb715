-- Each clause is a law of the theory, cited by name.
use Rattle.cf_running_ties.proofs.Handling.{broker_refuses, errs, finished, gives_up, listed, published, reads, said}
use Rattle.cf_running_ties.proofs.scripts.work_goes_as_the_script.Goals as goal

pub returns-clause-refused : goal.returns-clause-refused
returns-clause-refused c = broker_refuses

pub returns-clause-reads : goal.returns-clause-reads
returns-clause-reads c = reads

pub returns-clause-published : goal.returns-clause-published
returns-clause-published c = published

pub returns-clause-listed : goal.returns-clause-listed
returns-clause-listed c = listed

pub returns-clause-gives_up : goal.returns-clause-gives_up
returns-clause-gives_up c = gives_up

pub returns-clause-finished : goal.returns-clause-finished
returns-clause-finished c = finished

pub returns-clause-said : goal.returns-clause-said
returns-clause-said c = said

pub returns-clause-fails : goal.returns-clause-fails
returns-clause-fails c = errs
