-- Why the shard refuses a read is read off the log that the pass has then seen, by `read_by_log`.
use Rattle.cf_broker.proofs.Refusals.{read_by_log}
use Rattle.cf_broker.proofs.locked_shard.LockedShard.read.Goals as goal

pub returns-clause-refusals : goal.returns-clause-refusals
returns-clause-refusals g c =
    let p = c.read.ensures in
    read_by_log _ _ _ _ _ p.stays _ p.refusals p.err
