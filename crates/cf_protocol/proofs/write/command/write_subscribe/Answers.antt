-- By whether there is a position: the members are written one behind the other, and each call says what it adds.
use Rattle.cf_protocol.specs.Written.{from}
use Rattle.cf_protocol.specs.Writing.{Adds}
use Rattle.cf_protocol.proofs.Writings.{nothing, then, inside}
use Rattle.cf_protocol.proofs.write.command.write_subscribe.Goals.{in-Some, in_default}
use Rattle.cf_protocol.proofs.write.command.write_subscribe.Goals as goal

pub returns : goal.returns
returns c =
    let recover : Adds c.text_member.new.self c.match-since.writer (from c.args.since.now) =
    elim c.match-since.branch [
      | in-Some w ↦ rw (w.writer-is, w.in-Some.is) (then w.write_position.ensures w.flag_member.ensures)
      | in_default w ↦ rw (w.writer-is, w.in_default.is) (nothing c.text_member.new.self)
    ] in
    then c.write_id.ensures (inside c.open.ensures (then c.text_member.ensures recover) c.value.ensures)
