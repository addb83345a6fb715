-- The members are written one behind the other, and each call says what it adds.
use Rattle.cf_protocol.proofs.Writings.{then, inside}
use Rattle.cf_protocol.proofs.write.command.write_publish.Goals as goal

pub returns : goal.returns
returns c = then c.write_id.ensures (inside c.open.ensures
    (then c.text_member.ensures (then c.write_data.ensures c.text_member-2.ensures)) c.value.ensures)
