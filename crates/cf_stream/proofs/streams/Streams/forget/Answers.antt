-- The map loses the channel's stream, which the log says, and no other.
use Rattle.std.proofs.Common.{arith, None, refl}
use Rattle.std.proofs.lemmas.Map.Text.{btree_map_updates_text}
use Rattle.cf_stream.proofs.Channels.{kept_by}
use Rattle.cf_stream.proofs.ChannelChanges.{ChangesAt-forget}
use Rattle.cf_stream.proofs.Quieting.{quiet_set}
use Rattle.cf_stream.proofs.LogSteps.{Adds-forget}
use Rattle.cf_stream.proofs.streams.Streams.forget.Goals as goal

pub returns-clause-forgotten : goal.returns-clause-forgotten
returns-clause-forgotten c =
    rw (← c.self.view_is) (kept_by c.self.inside.namespaces c.self.inside.map c.remove.new.self c.args.channel.now None
    (btree_map_updates_text c.args.channel.now c.self.inside.map c.remove.new.self None c.remove.ensures.updates))

pub returns-clause-log : goal.returns-clause-log
returns-clause-log c = rw (returns-clause-forgotten c) (Adds-forget c.args.self.now c.args.channel.now)

pub returns-clause-lists : goal.returns-clause-lists
returns-clause-lists c = rw (returns-clause-forgotten c) (ChangesAt-forget c.args.self.now c.args.channel.now)

pub invariant_of-self : goal.invariant_of-self
invariant_of-self c =
    quiet_set c.self.inside.quiet_until c.self.inside.quiet_until c.self.inside.namespaces c.self.inside.map
    c.remove.new.self c.args.channel.now None (omega arith) c.self.invariant (λ t early h. refl)
    (btree_map_updates_text c.args.channel.now c.self.inside.map c.remove.new.self None c.remove.ensures.updates)
