-- The members are written one behind the other, the body as it is, and the whole is one value.
use Rattle.std.specs.Prelude.{string_bytes}
use Rattle.cf_protocol.specs.Written.{as_it_is}
use Rattle.cf_protocol.proofs.Writings.{then, member, as_value}
use Rattle.cf_protocol.proofs.write.publication.write_placed.Goals as goal

pub returns : goal.returns
returns c =
    let body = rw c.as_str.ensures.value at c.value.ensures in
    rw (← c.publication.view_is)
    (as_value c.begin.ensures (then (member (as_it_is (string_bytes c.publication.inside.body)) c.key.ensures body)
    (then c.write_publisher.ensures c.whole_member.ensures)) c.value-2.ensures)
