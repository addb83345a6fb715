-- The members are written one behind the other, and each call says what it adds.
use Rattle.cf_protocol.proofs.Writings.{then, inside}
use Rattle.cf_protocol.proofs.write.command.write_history.Goals as goal

pub returns : goal.returns
returns c =
    inside c.open.ensures (then c.text_member.ensures
    (then c.signed_member.ensures (then c.flag_member.ensures c.write_since.ensures))) c.value.ensures
