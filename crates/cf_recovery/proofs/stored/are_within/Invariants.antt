-- The loop keeps that the places left are within exactly if all are.
use Rattle.std.proofs.Common.{◌≡◌, ◌+◌, drop}
use Rattle.cf_model.specs.Recovery.{all_within}
use Rattle.cf_recovery.specs.ArrivalBuffer.{places}
use Rattle.cf_recovery.specs.Stored.{stored}
use Rattle.cf_recovery.proofs.stored.are_within.Given as goal

abbrev pub invariant-loop-i : goal.invariant-loop-i
invariant-loop-i l =
    all_within (places (stored l.epochs l.publications)) l.at.epoch (l.at.offset + l.ahead)
    ≡ all_within (places (stored (drop l.i l.epochs) (drop l.i l.publications))) l.at.epoch (l.at.offset + l.ahead)
