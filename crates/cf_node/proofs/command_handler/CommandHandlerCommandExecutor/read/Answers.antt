-- The backend read for what began, and left that as it was, so what was read may be handed over for it.
use Rattle.cf_node.proofs.command_handler.CommandHandlerCommandExecutor.read.Goals as goal

-- what was read for what began
pub read_done-requires-clause-read : goal.read_done-requires-clause-read
read_done-requires-clause-read g c = rw c.in-Ok.ensures.same c.in-Ok.ensures.read
