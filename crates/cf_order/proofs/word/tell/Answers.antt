-- The theory's `tells` allows the look that brings the pass up to the count.
use Rattle.cf_order.proofs.Steps.{tells}
use Rattle.cf_order.proofs.word.tell.Goals as goal

pub load-requires : goal.load-requires
load-requires c = (c.requires.0, c.requires.1, tells _ _ _)
