-- Why the shard refuses a history is read off the log that the pass has then seen, by `history_by_log`.
use Rattle.cf_broker.proofs.Refusals.{history_by_log}
use Rattle.cf_broker.proofs.locked_shard.LockedShard.history.Goals as goal

pub returns-clause-refusals : goal.returns-clause-refusals
returns-clause-refusals g c =
    let p = c.history.ensures in
    history_by_log _ _ _ _ _ p.stays _ _ p.refusals p.err
