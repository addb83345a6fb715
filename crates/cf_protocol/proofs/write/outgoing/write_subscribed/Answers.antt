-- The members are written one behind the other, and each call says what it adds.
use Rattle.cf_protocol.proofs.Writings.{then, inside}
use Rattle.cf_protocol.proofs.write.outgoing.write_subscribed.Goals as goal

pub returns : goal.returns
returns c =
    inside c.open.ensures
    (then c.write_position.ensures (then c.flag_member.ensures
    (then c.write_publications.ensures (then c.flag_member-2.ensures
    (then c.flag_member-3.ensures c.flag_member-4.ensures)))))
    c.value.ensures
