-- The members are written one behind the other, and each call says what it adds.
use Rattle.cf_protocol.proofs.Writings.{nothing, then, inside}
use Rattle.cf_protocol.proofs.write.command.write_bare.Goals as goal

pub returns : goal.returns
returns c = then c.write_id.ensures (inside c.open.ensures (nothing c.open.new.self) c.value.ensures)
