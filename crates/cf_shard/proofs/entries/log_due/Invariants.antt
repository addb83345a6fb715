-- The loop keeps that the log with the entries still due is the one to be made, and that the pass has seen it whole.
use Rattle.std.proofs.Common.{◌≡◌, ◌+◌, ◌≤◌, ◌^◌, ◌++◌, length}
use Rattle.cf_stream.specs.LogState.{due_entries}
use Rattle.cf_shard.specs.ShardLog.{HasWhole, KeepsShare}
use Rattle.cf_shard.proofs.entries.log_due.Given as goal

abbrev pub invariant-due : goal.invariant-due
invariant-due l =
    (l.owner.log ++ due_entries l.rest ≡ l.initial.owner.log ++ due_entries l.initial.rest)
    × (l.owner.word ≡ l.initial.owner.word) × (length l.owner.log + length l.rest ≤ 2 ^ 62)
    × HasWhole l.pass l.owner.log × KeepsShare l.initial.pass l.pass 0

abbrev pub decreases-due : goal.decreases-due
decreases-due l = length l.rest
