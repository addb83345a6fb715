-- What was taken stays as it is in a turn that only sends, and else grows as `go_on` has it grow.
use Rattle.cf_node.proofs.Growing.{grows_none}
use Rattle.cf_node.proofs.desk.SessionDesk.begin.Goals as goal

-- nothing is taken out
pub returns-then-not-hears : goal.returns-then-not-hears
returns-then-not-hears g c = grows_none c.args.self.now.outbox.outs.items

-- what is taken comes behind
pub returns : goal.returns
returns g c = c.go_on.ensures.grows
