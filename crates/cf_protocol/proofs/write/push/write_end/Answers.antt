-- A code that isn't 0 is written with its reason, by what each call adds.
use Rattle.cf_protocol.proofs.Outgoings.{unsubscribed_adds}
use Rattle.cf_protocol.proofs.write.push.write_end.Goals as goal

pub returns : goal.returns
returns c = unsubscribed_adds c.args.code c.if-code-eq0.false c.from.ensures c.unsubscribe_reason.ensures c.open.ensures
    c.whole_member.ensures c.text_member.ensures c.value.ensures
