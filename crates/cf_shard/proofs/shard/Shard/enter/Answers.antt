-- What presence promises of its own `enter` is said of the shard, with the refusal named anew (`named_ok`).
use Rattle.cf_shard.proofs.Refusals.{named_ok}
use Rattle.cf_shard.proofs.shard.Shard.enter.Goals as goal

pub returns-clause-ok : goal.returns-clause-ok
returns-clause-ok g c =
    let s = c.self.inside in
    rw (← c.self.view_is)
    (named_ok c.enter.result c.map_err.result _ _ _ c.map_err.ensures.cases
    (λ _ entered. λ i. record {
      streams = s.streams;
      presence = entered i;
      epochs = s.epochs.value;
      log = s.owner.log;
    }) c.enter.ensures.ok)
