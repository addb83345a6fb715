-- Key by key, each stream is ticked, or none is if the moment is before the next one that is due.
use Rattle.std.proofs.Common.{◌∙◌, refl, sym}
use Rattle.std.specs.BTreeMap.{get_by_text}
use Rattle.cf_stream.specs.Streams.{seconds_at}
use Rattle.cf_stream.proofs.Ticks.{get-after_tick}
use Rattle.cf_stream.proofs.Channels.{get-by_channel}
use Rattle.cf_stream.specs.Streams.{by_channel}
use Rattle.cf_stream.proofs.LogTicks.{Adds-tick, changed_by_tick}
use Rattle.cf_stream.proofs.streams.Streams.tick.Goals as goal

pub returns-clause-streams : goal.returns-clause-streams
returns-clause-streams c =
    rw (← c.self.view_is) (λ q. rw (get-by_channel c.self.inside.map q)
    (get-by_channel c.tick_in.new.streams q
    ∙ get-after_tick c.args.now (seconds_at c.self.inside.namespaces) c.self.inside.map c.tick_in.new.streams
    c.tick_in.ensures.ordered c.tick_in.ensures.entries q))

pub returns-clause-log : goal.returns-clause-log
returns-clause-log c =
    rw (← c.self.view_is)
    (Adds-tick _ (by_channel c.tick_in.new.streams) c.args.now
    (λ q. rw (get-by_channel c.self.inside.map q)
    (get-by_channel c.tick_in.new.streams q
    ∙ get-after_tick c.args.now (seconds_at c.self.inside.namespaces) c.self.inside.map c.tick_in.new.streams
    c.tick_in.ensures.ordered c.tick_in.ensures.entries q)))

pub returns-clause-due : goal.returns-clause-due
returns-clause-due c = λ q. rw (returns-clause-streams c q) (changed_by_tick c.args.now _ _)

pub returns-then-now-self-clause-streams : goal.returns-then-now-self-clause-streams
returns-then-now-self-clause-streams c =
    rw (← c.self.view_is) (λ q. rw (get-by_channel c.self.inside.map q)
    (sym ((changed_by_tick c.args.now (seconds_at c.self.inside.namespaces q) (get_by_text c.self.inside.map q)).0
    (c.self.invariant c.args.now c.if-now-self.true q))))

pub returns-then-now-self-clause-log : goal.returns-then-now-self-clause-log
returns-then-now-self-clause-log c =
    rw (← c.self.view_is)
    (Adds-tick _ (by_channel c.self.inside.map) c.args.now
    (λ q. rw (get-by_channel c.self.inside.map q)
    (sym ((changed_by_tick c.args.now (seconds_at c.self.inside.namespaces q) (get_by_text c.self.inside.map q)).0
    (c.self.invariant c.args.now c.if-now-self.true q)))))

pub returns-then-now-self-clause-due : goal.returns-then-now-self-clause-due
returns-then-now-self-clause-due c =
    rw (← c.self.view_is) (λ q. (
      λ h. refl,
      λ h. rw (get-by_channel c.self.inside.map q)
          (c.self.invariant c.args.now c.if-now-self.true q),
    ))
