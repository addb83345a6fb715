use Rattle.std.proofs.Common.{◌≤◌, ◌-◌}
use Rattle.cf_hub.specs.Hub.{SameNode}
use Rattle.cf_model.specs.Streams.{most_sessions}
use Rattle.cf_hub.proofs.Pinging.{IsPinging}
use Rattle.cf_hub.proofs.hub.Hub.tick.Given as goal

abbrev pub invariant-loop-number : goal.invariant-loop-number
invariant-loop-number l = record {
  pinging : IsPinging l.now l.from l.fn.self l.self;
  same : SameNode l.fn.self l.self;
  within : l.from ≤ most_sessions;
}

abbrev pub decreases-loop-number : goal.decreases-loop-number
decreases-loop-number l = most_sessions - l.from
