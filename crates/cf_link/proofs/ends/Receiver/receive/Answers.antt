-- The theory allows the take (`gets`), and what is received shows in the log (`shows_received`).
use Rattle.cf_link.proofs.Rules.{gets, shows_received}
use Rattle.cf_link.proofs.ends.Receiver.receive.Goals as goal

pub pop_as-requires-clause-rule : goal.pop_as-requires-clause-rule
pop_as-requires-clause-rule g c = (gets _ _ c.self.invariant.1, shows_received _ _ c.self.invariant.1)
