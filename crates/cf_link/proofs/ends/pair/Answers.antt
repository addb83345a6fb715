-- A new log is allowed to begin (`begins`) and to have two sides (`forks`).
use Rattle.std.proofs.Common.{rules, ap, ◌∙◌}
use Rattle.crossbeam_queue.specs.Passes.{ruled_capacity}
use Rattle.cf_link.proofs.Rules.{begins, forks}
use Rattle.cf_link.proofs.ends.pair.Goals as goal

pub ruled-requires-clause-rule : goal.ruled-requires-clause-rule
ruled-requires-clause-rule g c = begins

pub another-second-requires-clause-rule : goal.another-second-requires-clause-rule
another-second-requires-clause-rule g c = forks _ _ (search rules) (search rules)

pub returns-clause-capacity : goal.returns-clause-capacity
returns-clause-capacity g c = ap ruled_capacity c.in_ok-line-2.ensures.ok ∙ c.in_ok-line.ensures.0
