-- The theory's `hears_received` allows what the sender takes over.
use Rattle.cf_link.proofs.Rules.{hears_received}
use Rattle.cf_link.proofs.ends.Sender.hear.Goals as goal

pub absorb-requires-clause-rule : goal.absorb-requires-clause-rule
absorb-requires-clause-rule g c = hears_received _ _ _ _
