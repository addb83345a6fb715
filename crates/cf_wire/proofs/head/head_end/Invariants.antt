-- The loop keeps that no blank line ends up to the place.
use Rattle.std.proofs.Common.{◌+◌}
use Rattle.cf_wire.specs.Heads.{HasNoEnd}
use Rattle.cf_wire.proofs.head.head_end.Given as goal

abbrev pub invariant-loop-at : goal.invariant-loop-at
invariant-loop-at l = HasNoEnd l.bytes (l.at + 1)
