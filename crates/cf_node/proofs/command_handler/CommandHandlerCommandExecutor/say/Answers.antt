-- The condition that the hub has on a text is the method's own.
use Rattle.cf_node.proofs.command_handler.CommandHandlerCommandExecutor.say.Goals as goal

-- the text that the session says is a reply
pub say-goes_on-requires : goal.say-goes_on-requires
say-goes_on-requires g c = c.requires
