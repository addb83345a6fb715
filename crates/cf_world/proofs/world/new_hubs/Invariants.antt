use Rattle.std.proofs.Common.{◌≡◌, length}
use Rattle.cf_world.specs.HubCalls.{AreNew}
use Rattle.cf_world.proofs.world.new_hubs.Given as goal

abbrev pub invariant-loop-node : goal.invariant-loop-node
invariant-loop-node l = (length l.hubs.items ≡ l.node) × AreNew 0 l.hubs.items
