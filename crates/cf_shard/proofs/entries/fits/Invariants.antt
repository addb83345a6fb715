-- The loop keeps that as much of the room went as was passed of what is due.
use Rattle.std.proofs.Common.{◌≡◌, ◌+◌, length}
use Rattle.cf_shard.proofs.entries.fits.Given as goal

abbrev pub invariant-due : goal.invariant-due
invariant-due l = l.left + length l.initial.rest ≡ l.initial.left + length l.rest

abbrev pub decreases-due : goal.decreases-due
decreases-due l = length l.rest
