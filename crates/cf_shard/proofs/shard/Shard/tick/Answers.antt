-- The log gains the entries of what is due (`made`); no size that was set meanwhile changed how long streams hold.
use Rattle.std.proofs.Common.{◌≡◌, ◌++◌, ap, ◌∙◌}
use Rattle.cf_stream.specs.LogState.{due_entries}
use Rattle.cf_stream.specs.Streams.{after_tick, all_due, stream_of}
use Rattle.cf_shard.specs.Shard.{Lent}
use Rattle.cf_shard.specs.ShardLog.{entries_of_tick}
use Rattle.cf_shard.proofs.Opening.{fresh-more, none-due}
use Rattle.cf_shard.proofs.Calls.{logged, kept, follows}
use Rattle.cf_shard.proofs.Resizing.{seconds_stay}
use Rattle.cf_shard.proofs.shard.Shard.tick.Given.{Over}
use Rattle.cf_shard.proofs.shard.Shard.tick.Goals as goal

-- what it makes of the owner
made : (g : Over) (c : goal.After-tick-2 g)
    → (c.log_due.new.owner.word ≡ c.self.inside.owner.word)
    × (c.log_due.new.owner.log ≡ c.self.inside.owner.log ++ entries_of_tick c.self.inside.streams c.args.now)
made g c = logged _ _ _ _ _ c.follow.ensures.owner c.log_due.ensures.owner (ap due_entries c.due-2.ensures.walk)

pub invariant_of-self-2 : goal.invariant_of-self-2
invariant_of-self-2 g c = (
  kept _ _ _ _ _ _ _ c.self.invariant.0 c.tick.ensures.log (made g c).0 (made g c).1,
  fresh-more g.E.Epochs.draws _ _ _ _ _ (λ _ w. w) (made g c).1 (none-due _) c.self.invariant.1,
)

pub returns-clause-makes : goal.returns-clause-makes
returns-clause-makes g c =
    let old = c.self.inside.streams in record {
      streams =
          rw (← c.self.view_is)
          (λ q. c.tick.ensures.streams q ∙ ap (λ n. after_tick c.args.now n (stream_of old q))
          (seconds_stay _ old _ q c.self.invariant.0.state));
      log = rw (← c.self.view_is) (made g c).1;
      undrawn = ap (λ (s : Lent g.row.E.Denot). s.epochs) c.self.view_is;
      presence = rw (← c.self.view_is) c.tick-2.ensures.left;
      nowhere_none = c.tick-2.ensures.nowhere_none;
    }

pub returns-clause-by_log : goal.returns-clause-by_log
returns-clause-by_log g c = (
  all_due c.args.now c.self.inside.streams,
  record {
    before = c.self.inside.owner.log;
    begins = c.follow.ensures.seen.0;
    gained = c.log_due.ensures.whole.0 ∙ (made g c).1;
    answered = tt;
  },
)

pub returns-clause-seen : goal.returns-clause-seen
returns-clause-seen g c =
    follows _ _ _ _ _ _ 0 c.follow.ensures.seen.0 c.follow.ensures.pass (made g c).1 c.log_due.ensures.whole
    c.log_due.ensures.share

pub returns-clause-whole : goal.returns-clause-whole
returns-clause-whole g c = c.log_due.ensures.whole.0
