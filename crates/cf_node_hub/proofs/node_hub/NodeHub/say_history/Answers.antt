-- The pass by which the history was answered is taken in, so what the reply brings was then seen (`history_kept`).
use Rattle.cf_node_hub.proofs.Calls.{history_kept, sees_on}
use Rattle.cf_node_hub.proofs.node_hub.NodeHub.say_history.Goals as goal

pub invariant_of-self : goal.invariant_of-self
invariant_of-self g c =
    history_kept c.moves_are_among.ensures g.N.Naming.namespaces c.shard_of-shard.result _ _ c.args.pass c.args.session
    c.args.channel.now _ _ _
    c.shard_of-shard.ensures.number c.learn.ensures.learned c.learn.ensures.seen.0 c.learn.ensures.seen.1
    c.requires.replies c.say.ensures.session
    c.self.invariant

pub returns-clause-seen : goal.returns-clause-seen
returns-clause-seen g c =
    rw (← c.self.view_is) (sees_on c.shard_of-shard.result _ _ c.learn.ensures.learned c.learn.ensures.seen.0)
