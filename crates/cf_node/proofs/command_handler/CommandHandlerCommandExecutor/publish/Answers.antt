-- An accepted publish is done with the answer that the backend gave, and the backend promises what it is.
use Rattle.cf_node.proofs.command_handler.CommandHandlerCommandExecutor.publish.Goals as goal

-- what was answered to the publish of that channel, key and body
pub returns-in-Ok-clause-does : goal.returns-in-Ok-clause-does
returns-in-Ok-clause-does g c = (c.in-Ok.field-0, c.in-Ok.ensures)
