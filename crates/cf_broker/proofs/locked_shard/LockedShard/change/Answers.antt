-- A trim or a forget lacks room at the shard, which is read off the log that the pass has then seen (`entry_by_log`).
use Rattle.cf_broker.proofs.Refusals.{entry_by_log}
use Rattle.cf_broker.proofs.locked_shard.LockedShard.change.Goals as goal

pub returns-in-KeepNewest-clause-refusals : goal.returns-in-KeepNewest-clause-refusals
returns-in-KeepNewest-clause-refusals g c =
    let p = c.trim.ensures in
    rw c.in-KeepNewest.is (entry_by_log _ _ _ _ _ p.stays _ _ p.err)

pub returns-in-EndStream-clause-refusals : goal.returns-in-EndStream-clause-refusals
returns-in-EndStream-clause-refusals g c =
    let p = c.forget.ensures in
    rw c.in-EndStream.is (entry_by_log _ _ _ _ _ p.stays _ _ p.err)
