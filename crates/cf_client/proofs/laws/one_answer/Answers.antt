-- Each clause is a law of the theory, cited by name.
use Rattle.cf_client.proofs.Apart.{asked_apart, left_apart, called_apart, reconnected_apart, texts_apart, one_outcome}
use Rattle.cf_client.proofs.laws.one_answer.Goals as goal

pub returns-clause-ask : goal.returns-clause-ask
returns-clause-ask c = asked_apart

pub returns-clause-leave : goal.returns-clause-leave
returns-clause-leave c = left_apart

pub returns-clause-call : goal.returns-clause-call
returns-clause-call c = called_apart

pub returns-clause-reconnect : goal.returns-clause-reconnect
returns-clause-reconnect c = reconnected_apart

pub returns-clause-texts : goal.returns-clause-texts
returns-clause-texts c = texts_apart

pub returns-clause-one : goal.returns-clause-one
returns-clause-one c = one_outcome
