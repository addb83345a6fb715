-- Both clauses are laws of the theory, cited by name.
use Rattle.cf_json.proofs.Compacts.{compact_value, value_regular}
use Rattle.cf_json.proofs.squeeze.compact_reads_back.Goals as goal

pub returns-clause-back : goal.returns-clause-back
returns-clause-back c = λ t r h. compact_value t r h

pub returns-clause-regular : goal.returns-clause-regular
returns-clause-regular c = λ t s r h. value_regular t s r h
