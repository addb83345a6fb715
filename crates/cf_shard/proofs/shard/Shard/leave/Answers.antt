-- Presence alone changes, as its own `leave` promises; the rest of the view is what it was.
use Rattle.cf_shard.proofs.shard.Shard.leave.Goals as goal

pub returns : goal.returns
returns g c = let s = c.self.inside in
    rw (← c.self.view_is) (λ i. record {
      streams = s.streams;
      presence = c.leave.ensures i;
      epochs = s.epochs.value;
      log = s.owner.log;
    })
