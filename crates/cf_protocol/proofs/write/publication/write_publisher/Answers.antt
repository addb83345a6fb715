-- An info that is all empty isn't written; another one is a member with its two parts.
use Rattle.std.proofs.Common.{◌<◌, ◌+◌, length, arith, string_bytes}
use Rattle.cf_protocol.specs.Datum.{Who}
use Rattle.cf_protocol.proofs.Outgoings.{inside_inner, info_stands, nonzero}
use Rattle.cf_protocol.proofs.write.publication.write_publisher.Goals.{else-is_empty-via-then-is_empty+else-is_empty-2}
use Rattle.cf_protocol.proofs.write.publication.write_publisher.Goals.{else-is_empty-via-else-is_empty}
use Rattle.cf_protocol.proofs.write.publication.write_publisher.Goals as goal

pub returns : goal.returns
returns c =
    let who : Who = record { user = string_bytes c.info.inside.user; client = string_bytes c.info.inside.client } in
    let some : 0 < length who.client + length who.user =
    elim c.else-is_empty.branch [
      | else-is_empty-via-then-is_empty+else-is_empty-2 w ↦ omega
          (arith, nonzero _ _ w.is_empty-then-is_empty.ensures w.if-is_empty-2.false)
      | else-is_empty-via-else-is_empty
          w ↦ omega (arith, nonzero _ _ c.is_empty.ensures w.if-is_empty.false)
    ] in
    let wrote = rw (c.as_str.ensures.value, c.as_str-2.ensures.value) at c.write_info.ensures in
    rw (c.in-Some.is, ← c.info.view_is) (inside_inner (info_stands who some) c.open.ensures wrote c.value.ensures)
