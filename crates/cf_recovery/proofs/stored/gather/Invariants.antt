use Rattle.std.proofs.Common.{◌-◌, length}
use Rattle.cf_recovery.specs.Stored.{stored}
use Rattle.cf_recovery.proofs.Storing.{Gathered}
use Rattle.cf_recovery.proofs.stored.gather.Given as goal

abbrev pub invariant-loop-i : goal.invariant-loop-i
invariant-loop-i l =
    Gathered (stored l.initial.epochs.items l.initial.publications.items) l.epochs.items l.publications.items l.at.epoch
    l.at.offset l.count

abbrev pub decreases-loop-i : goal.decreases-loop-i
decreases-loop-i l = length l.publications.items - l.count
