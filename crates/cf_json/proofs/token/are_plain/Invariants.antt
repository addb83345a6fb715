-- The loop keeps whether all bytes so far are plain.
use Rattle.std.proofs.Common.{◌≡◌, take}
use Rattle.std.specs.List.{list_all}
use Rattle.cf_json.specs.Bytes.{is_plain}
use Rattle.cf_json.proofs.token.are_plain.Given as goal

abbrev pub invariant-loop-byte : goal.invariant-loop-byte
invariant-loop-byte l = l.plain ≡ list_all is_plain (take l.byte-index l.block)
