-- The map's stream is trimmed, which the log says, and no other.
use Rattle.std.proofs.Common.{arith}
use Rattle.cf_stream.proofs.Channels.{get-by_channel, kept_by}
use Rattle.cf_stream.proofs.ChannelChanges.{ChangesAt-trim}
use Rattle.std.specs.BTreeMap.{get_by_text}
use Rattle.cf_stream.proofs.Quieting.{quiet_set, trimmed_quiet}
use Rattle.cf_stream.proofs.LogSteps.{Adds-trim}
use Rattle.cf_stream.proofs.streams.Streams.trim.Goals as goal

pub returns-clause-trimmed : goal.returns-clause-trimmed
returns-clause-trimmed c =
    rw (← c.self.view_is, get-by_channel) (kept_by c.self.inside.namespaces c.self.inside.map c.trim_at.new.map
    c.args.channel.now _ c.trim_at.ensures)

pub returns-clause-log : goal.returns-clause-log
returns-clause-log c = rw (returns-clause-trimmed c) (Adds-trim c.args.self.now c.args.channel.now c.args.count)

pub returns-clause-lists : goal.returns-clause-lists
returns-clause-lists c = rw (returns-clause-trimmed c) (ChangesAt-trim c.args.self.now c.args.channel.now c.args.count)

pub invariant_of-self : goal.invariant_of-self
invariant_of-self c =
    quiet_set c.self.inside.quiet_until c.self.inside.quiet_until c.self.inside.namespaces c.self.inside.map
    c.trim_at.new.map c.args.channel.now _ (omega arith) c.self.invariant
    (λ t early h. trimmed_quiet (get_by_text c.self.inside.map c.args.channel.now) c.args.count _ t h) c.trim_at.ensures
