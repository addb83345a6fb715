-- The members are written one behind the other, and each call says what it adds.
use Rattle.cf_protocol.proofs.Writings.{then, inside}
use Rattle.cf_protocol.proofs.write.command.write_on_channel.Goals as goal

pub returns : goal.returns
returns c = then c.write_id.ensures (inside c.open.ensures c.text_member.ensures c.value.ensures)
