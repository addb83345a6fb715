-- Each clause is a law of the theory, the first from what the JSON crate promises of a compact text.
use Rattle.cf_running_ties.proofs.Heard.{heard_all, names, replies}
use Rattle.cf_running_ties.proofs.laws.what_is_heard_is_regular.Goals as goal

pub returns-clause-commands : goal.returns-clause-commands
returns-clause-commands c = heard_all c.compact_reads_back.ensures.back c.compact_reads_back.ensures.regular

pub returns-clause-names : goal.returns-clause-names
returns-clause-names c = names

pub returns-clause-replies : goal.returns-clause-replies
returns-clause-replies c = replies
