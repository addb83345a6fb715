-- What was seen of the log grows by the pass that comes with the delivery, in which its publication stands.
use Rattle.std.proofs.Common.{◌≡◌, ◌∙◌, ap, subst, List, ℕ}
use Rattle.cf_protocol.specs.Datum.{Placed}
use Rattle.cf_hub.specs.Hub.{Delivers}
use Rattle.cf_shard.specs.Shards.{number_of}
use Rattle.cf_node_hub.proofs.Calls.{delivery_kept, sees_on}
use Rattle.cf_node_hub.proofs.node_hub.NodeHub.deliver.Given.{Over}
use Rattle.cf_node_hub.proofs.node_hub.NodeHub.deliver.Goals as goal

number : (g : Over) (c : goal.After-learn g) → c.shard_of-shard.result ≡ number_of c.args.delivery.channel
number g c = c.shard_of-shard.ensures.number ∙ ap number_of c.channel.ensures

pub invariant_of-self : goal.invariant_of-self
invariant_of-self g c =
    delivery_kept c.moves_are_among.ensures c.shard_of-shard.result _ _ c.evidence.result c.args.delivery.channel
    c.args.delivery.epoch c.args.delivery.publication _ _
    (number g c) c.learn.ensures.learned c.learn.ensures.seen.0 c.learn.ensures.seen.1 c.evidence.ensures.stands
    (subst (λ (q : List ℕ). Delivers q c.args.delivery.epoch c.args.delivery.publication c.self.inside.hub
    c.deliver-delivered.new.self) c.channel-2.ensures
    (subst (λ (e : List ℕ). Delivers c.channel-2.result.now e c.args.delivery.publication c.self.inside.hub
    c.deliver-delivered.new.self) c.epoch.ensures
    (subst (λ (p : Placed). Delivers c.channel-2.result.now c.epoch.result.now p c.self.inside.hub
    c.deliver-delivered.new.self) c.publication.ensures c.deliver-delivered.ensures.each)))
    c.self.invariant

pub returns-clause-seen : goal.returns-clause-seen
returns-clause-seen g c =
    rw (← c.self.view_is) (sees_on c.shard_of-shard.result _ _ c.learn.ensures.learned c.learn.ensures.seen.0)
