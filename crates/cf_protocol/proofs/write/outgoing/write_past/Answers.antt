-- The members are written one behind the other, and each call says what it adds.
use Rattle.cf_protocol.proofs.Writings.{then, inside}
use Rattle.cf_protocol.proofs.write.outgoing.write_past.Goals as goal

pub returns : goal.returns
returns c = then (inside c.open.ensures (then c.write_position.ensures c.write_publications.ensures) c.value.ensures)
    c.write_id.ensures
