-- The loop keeps whether all bytes so far are visible.
use Rattle.std.proofs.Common.{◌≡◌, take}
use Rattle.std.specs.List.{list_all}
use Rattle.cf_json.specs.Bytes.{is_visible}
use Rattle.cf_json.proofs.squeeze.are_visible.Given as goal

abbrev pub invariant-loop-byte : goal.invariant-loop-byte
invariant-loop-byte l = l.visible ≡ list_all is_visible (take l.byte-index l.text)
