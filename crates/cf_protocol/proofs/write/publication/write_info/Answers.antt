-- The two members are written one behind the other, and each call says what it adds.
use Rattle.cf_protocol.proofs.Writings.{then}
use Rattle.cf_protocol.proofs.write.publication.write_info.Goals as goal

pub returns : goal.returns
returns c = then c.text_member.ensures c.text_member-2.ensures
