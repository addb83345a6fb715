-- The theory allows the send (`sends`), and what is sent shows in the log (`shows_sent`).
use Rattle.cf_link.proofs.Rules.{sends, shows_sent}
use Rattle.cf_link.proofs.ends.Sender.send.Goals as goal

pub push_as-requires-clause-rule : goal.push_as-requires-clause-rule
push_as-requires-clause-rule g c = (sends _ _ _ _ c.self.invariant.1, shows_sent _ _ c.self.invariant.1)
