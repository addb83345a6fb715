-- What was seen of the log grows by the pass that comes with the answer, and the hub's move keeps to it.
use Rattle.std.proofs.Common.{◌∙◌, ap, subst, List, ℕ}
use Rattle.cf_hub.specs.Hub.{One}
use Rattle.cf_hub.specs.Subscriptions.{reading_of}
use Rattle.cf_hub.specs.Wordings.{reading}
use Rattle.cf_model.specs.Sessions.{reads}
use Rattle.cf_shard.specs.Shards.{number_of}
use Rattle.cf_node_hub.proofs.Calls.{learned_kept, read_kept, sees_on}
use Rattle.cf_node_hub.proofs.node_hub.NodeHub.read_done.Goals as goal

pub invariant_of-self : goal.invariant_of-self
invariant_of-self g c =
    learned_kept c.shard_of.result c.self.inside.seen c.learn.new.self c.self.inside.hub c.learn.ensures.learned
    c.learn.ensures.seen.0 c.self.invariant

pub returns-then-not-asks_from-clause-seen : goal.returns-then-not-asks_from-clause-seen
returns-then-not-asks_from-clause-seen g c =
    rw (← c.self.view_is) (sees_on c.shard_of.result _ _ c.learn.ensures.learned c.learn.ensures.seen.0)

pub invariant_of-self-2 : goal.invariant_of-self-2
invariant_of-self-2 g c =
    read_kept c.moves_are_among.ensures c.what_is_said_stays.ensures.read g.N.Naming.namespaces c.shard_of.result
    _ _ c.args.pass c.session-session.result c.args.begun.channel c.args.begun.since
    c.args.recovery.position c.args.recovery.recovered c.args.recovery.publications.items c.args.begun.seen _ _
    (c.shard_of.ensures.number ∙ ap number_of c.channel-channel.ensures) c.learn.ensures.learned c.learn.ensures.seen.0
    c.learn.ensures.seen.1 c.requires.read
    (subst (λ (q : List ℕ). One c.session-session.result
    (reads (reading c.args.recovery.publications.items) q (reading_of c.args.recovery)) c.self.inside.hub
    c.read_done-was_asked.new.self) c.channel-channel.ensures
    c.read_done-was_asked.ensures.sessions)
    c.self.invariant

pub returns-clause-seen : goal.returns-clause-seen
returns-clause-seen g c =
    rw (← c.self.view_is) (sees_on c.shard_of.result _ _ c.learn.ensures.learned c.learn.ensures.seen.0)
