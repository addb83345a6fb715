-- A position that is all zero isn't written, nor is none; another one is a member with its two parts.
use Rattle.std.proofs.Common.{◌<◌, ◌+◌, length, arith}
use Rattle.std.specs.Prelude.{codes}
use Rattle.cf_protocol.proofs.Writings.{absent}
use Rattle.cf_protocol.proofs.Outgoings.{inside_inner, position_stands, nonzero}
use Rattle.cf_protocol.proofs.write.command.write_since.Goals.{else-is_empty-via-then-is_empty+else-position-eq0}
use Rattle.cf_protocol.proofs.write.command.write_since.Goals.{else-is_empty-via-else-is_empty}
use Rattle.cf_protocol.proofs.write.command.write_since.Goals as goal

pub returns : goal.returns
returns c =
    let some : 0 < length c.in-Some.position.epoch + c.in-Some.position.offset =
    elim c.else-is_empty.branch [
      | else-is_empty-via-then-is_empty+else-position-eq0 w ↦ omega arith
      | else-is_empty-via-else-is_empty w ↦ omega (arith, nonzero _ _ c.is_empty.ensures w.if-is_empty.false)
    ] in
    rw c.in-Some.is (inside_inner (position_stands _ _ some) c.open.ensures c.write_position.ensures c.value.ensures)

pub returns-in_default : goal.returns-in_default
returns-in_default c = rw c.in_default.is (absent c.args.writer.now (codes "since"))
