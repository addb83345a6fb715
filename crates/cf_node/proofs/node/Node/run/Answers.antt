-- What the scope's closure requires of names and epochs are the method's own bounds.
use Rattle.std.proofs.Common.{rules}
use Rattle.cf_node.proofs.node.Node.run.Goals as goal

pub scoped-requires : goal.scoped-requires
scoped-requires g c =
    record { at = λ a. search (rules, c.type_bounds.send-N, c.type_bounds.sync-N, c.type_bounds.send-E) }
