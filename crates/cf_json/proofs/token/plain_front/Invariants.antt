-- The loop keeps that all bytes before the place are plain.
use Rattle.std.proofs.Common.{◌≡◌, take, true}
use Rattle.std.specs.List.{list_all}
use Rattle.cf_json.specs.Bytes.{is_plain}
use Rattle.cf_json.proofs.token.plain_front.Given as goal

abbrev pub invariant-loop-at : goal.invariant-loop-at
invariant-loop-at l = list_all is_plain (take l.at l.block) ≡ true
