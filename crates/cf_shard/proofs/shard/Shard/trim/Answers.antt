-- The log gains an entry if the channel's stream stood (`made`); the invariant and each clause follow from that.
use Rattle.std.proofs.Common.{◌≡◌, ◌++◌, refl, ap, ◌∙◌}
use Rattle.cf_stream.specs.Streams.{stream_of}
use Rattle.cf_shard.specs.Shard.{Lent}
use Rattle.cf_shard.specs.ShardLog.{entries_of_trim}
use Rattle.cf_shard.proofs.Opening.{fresh-more, none-if_stands}
use Rattle.cf_shard.proofs.Calls.{if_stands_stood, logged, kept, one_by_log, follows}
use Rattle.cf_shard.proofs.shard.Shard.trim.Given.{Over}
use Rattle.cf_shard.proofs.shard.Shard.trim.Goals as goal

-- what it makes of the owner
made : (g : Over) (c : goal.After-log_on g)
    → (c.log_on.new.owner.word ≡ c.self.inside.owner.word)
    × (c.log_on.new.owner.log ≡ c.self.inside.owner.log
    ++ entries_of_trim c.self.inside.streams c.args.channel.now c.args.count)
made g c =
    logged _ _ _ _ _ c.follow.ensures.owner c.log_on.ensures.owner
    (if_stands_stood c.self.inside.streams c.args.channel.now _ _ _ c.position.ensures.position
    c.top_of-stood.ensures)

pub invariant_of-self-2 : goal.invariant_of-self-2
invariant_of-self-2 g c = (
  kept _ _ _ _ _ _ _ c.self.invariant.0 c.trim.ensures.log (made g c).0 (made g c).1,
  fresh-more g.E.Epochs.draws _ _ _ _ _ (λ _ w. w) (made g c).1
      (none-if_stands (stream_of c.self.inside.streams c.args.channel.now) _ refl) c.self.invariant.1,
)

pub returns-clause-makes : goal.returns-clause-makes
returns-clause-makes g c = record {
  streams = rw (← c.self.view_is) c.trim.ensures.trimmed;
  log = rw (← c.self.view_is) (made g c).1;
  undrawn = ap (λ (s : Lent g.row.E.Denot). s.epochs) c.self.view_is;
}

pub returns-clause-by_log : goal.returns-clause-by_log
returns-clause-by_log g c =
    one_by_log _ _ _ _ _ _ _ _ c.self.invariant.0 c.follow.ensures.seen.0 (c.log_on.ensures.whole.0 ∙ (made g c).1)

pub returns-clause-seen : goal.returns-clause-seen
returns-clause-seen g c =
    follows _ _ _ _ _ _ 0 c.follow.ensures.seen.0 c.follow.ensures.pass (made g c).1 c.log_on.ensures.whole
    c.log_on.ensures.share

pub returns-clause-stays : goal.returns-clause-stays
returns-clause-stays g c = record {
  presence = ap (λ (s : Lent g.row.E.Denot). s.presence) c.self.view_is;
  whole = c.log_on.ensures.whole.0;
  state = rw (← c.self.view_is) c.self.invariant.0.state;
}
