-- The loop keeps that all letters so far are those of an epoch.
use Rattle.std.proofs.Common.{◌≡◌, true, take}
use Rattle.std.specs.List.{list_all}
use Rattle.std.specs.Char.{is_ascii_alphanumeric}
use Rattle.cf_protocol.proofs.epoch.is_epoch.Given as goal

abbrev pub invariant-loop-byte : goal.invariant-loop-byte
invariant-loop-byte l = list_all is_ascii_alphanumeric (take l.byte-index l.text) ≡ true
