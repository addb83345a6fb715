-- For another session nothing is taken; for the client's own nothing is owed only if `take_for` took all.
use Rattle.std.proofs.Common.{arith}
use Rattle.cf_node.proofs.Waiting.{owes_none, takes_nothing}
use Rattle.cf_node.proofs.desk.SessionDesk.take_waiting.Goals as goal

-- nothing is taken for another
pub returns-then-not-is_of-clause-takes : goal.returns-then-not-is_of-clause-takes
returns-then-not-is_of-clause-takes g c =
    takes_nothing c.args.session c.args.hub.now.node c.args.self.now.outbox.outs.items

-- the session is the client's own
pub returns-clause-other : goal.returns-clause-other
returns-clause-other g c = λ other. absurd (grind arith)

-- what may wait is owed
pub returns-clause-all : goal.returns-clause-all
returns-clause-all g c =
    λ none. c.take_for-taken.ensures.all (owes_none _ c.take_for-taken.result (assumption) none)
