-- The two members are written one behind the other, and each call says what it adds.
use Rattle.cf_protocol.proofs.Writings.{then}
use Rattle.cf_protocol.proofs.write.command.write_position.Goals as goal

pub returns : goal.returns
returns c = then (rw c.as_str.ensures.characters at c.text_member.ensures) c.whole_member.ensures
