-- The theory's `hears_sent` allows what the receiver takes over.
use Rattle.cf_link.proofs.Rules.{hears_sent}
use Rattle.cf_link.proofs.ends.Receiver.hear.Goals as goal

pub absorb-requires-clause-rule : goal.absorb-requires-clause-rule
absorb-requires-clause-rule g c = hears_sent _ _ _ _
