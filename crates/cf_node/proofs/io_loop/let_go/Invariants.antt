-- The loop keeps nothing, and ends since each round takes a connection out.
use Rattle.std.specs.Prelude.{vec_len}
use Rattle.cf_node.proofs.io_loop.let_go.Given as goal

abbrev pub invariant-loop-connection : goal.invariant-loop-connection
invariant-loop-connection g l = Unit {0}

abbrev pub decreases-loop-connection : goal.decreases-loop-connection
decreases-loop-connection g l = vec_len l.slots
