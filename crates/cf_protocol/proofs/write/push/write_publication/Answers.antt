-- The publication is the member of a push, by what each call adds.
use Rattle.cf_protocol.specs.Written.{publication, as_it_is, outgoing_text}
use Rattle.cf_protocol.proofs.Writings.{then, member, whole}
use Rattle.cf_protocol.proofs.Outgoings.{inside_inner, pub_stands}
use Rattle.cf_protocol.proofs.write.push.write_publication.Goals as goal

pub returns : goal.returns
unfolding outgoing_text
returns c =
    let placed = publication as_it_is c.args.publication.now in
    let push = inside_inner (pub_stands c.args.channel.now placed) c.open.ensures
    (then c.text_member.ensures (member placed c.key.ensures c.write_placed.ensures)) c.value.ensures in
    whole c.into_text.result c.new-writer.ensures push c.into_text.ensures
