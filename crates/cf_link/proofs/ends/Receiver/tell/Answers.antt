-- The theory's `tells` allows a second pass with the same view.
use Rattle.cf_link.proofs.Rules.{tells}
use Rattle.cf_link.proofs.ends.Receiver.tell.Goals as goal

pub another-pass-requires-clause-rule : goal.another-pass-requires-clause-rule
another-pass-requires-clause-rule g c = tells _ _
