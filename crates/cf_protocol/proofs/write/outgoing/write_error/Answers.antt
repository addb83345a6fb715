-- A code that isn't 0 is written with its message, by what each call adds.
use Rattle.std.proofs.Common.{◌==◌, ap}
use Rattle.cf_protocol.proofs.Outgoings.{error_adds}
use Rattle.cf_protocol.proofs.write.outgoing.write_error.Goals as goal

pub returns : goal.returns
returns c =
    error_adds c.args.code c.if-code-eq0.false c.from.ensures c.message_of.ensures
    (ap (λ n. c.args.code == n) c.code.ensures) c.open.ensures c.whole_member.ensures c.text_member.ensures
    c.flag_member.ensures
    c.value.ensures
