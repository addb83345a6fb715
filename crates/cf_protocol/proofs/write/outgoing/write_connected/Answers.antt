-- The members are written one behind the other, and each call says what it adds.
use Rattle.cf_protocol.proofs.Writings.{then, inside}
use Rattle.cf_protocol.proofs.write.outgoing.write_connected.Goals as goal

pub returns : goal.returns
returns c =
    then (inside c.open.ensures (then c.text_member.ensures
    (then c.whole_member.ensures (then c.flag_member.ensures c.text_member-2.ensures))) c.value.ensures)
    c.write_id.ensures
