-- What the members add to a new writer is the whole text.
use Rattle.cf_protocol.specs.Written.{command_text}
use Rattle.cf_protocol.proofs.Writings.{whole}
use Rattle.cf_protocol.proofs.write.command.write_command.Goals as goal

pub returns : goal.returns
unfolding command_text
returns c = whole c.into_text.result c.new-writer.ensures c.write_members.ensures c.into_text.ensures
