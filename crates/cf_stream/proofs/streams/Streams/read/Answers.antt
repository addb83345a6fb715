-- What `read_in` promises of the map is carried over the view, clause by clause, with the log that the use adds.
use Rattle.std.proofs.lemmas.Result.{IfErr-weaker, IfOk-weaker, on_err_weaker}
use Rattle.cf_stream.specs.declared.answer.Recovery.{Recovery}
use Rattle.std.specs.BTreeMap.{get_by_text}
use Rattle.cf_stream.specs.Stream.{used_at, unused_seconds}
use Rattle.cf_stream.specs.Streams.{stood_or}
use Rattle.cf_stream.proofs.Quieting.{not_over, used_quiet, quiet_by}
use Rattle.cf_stream.proofs.Channels.{get-by_channel, kept_by, kept_same}
use Rattle.cf_stream.proofs.LogSteps.{Adds-read}
use Rattle.cf_stream.proofs.ChannelChanges.{ChangesAt-read, IfOk-both, ReadsAt-from}
use Rattle.cf_stream.proofs.streams.Streams.read.Goals as goal

pub returns-clause-makes : goal.returns-clause-makes
returns-clause-makes g c =
    rw (← c.self.view_is, get-by_channel, ← c.size_for-size.ensures.size)
    (IfOk-weaker c.read_in.result _ _ (λ (r : Recovery) h. kept_by c.self.inside.namespaces c.self.inside.map
    c.read_in.new.map c.args.channel.now _ h) c.read_in.ensures.ok)

pub returns-clause-err : goal.returns-clause-err
returns-clause-err g c =
    rw (← c.self.view_is)
    (on_err_weaker c.read_in.result (λ h. kept_same c.self.inside.namespaces c.self.inside.map c.read_in.new.map h)
    c.read_in.ensures.err)

pub returns-clause-answer : goal.returns-clause-answer
returns-clause-answer g c =
    rw (← c.self.view_is, get-by_channel, ← c.size_for-size.ensures.size) c.read_in.ensures.answer

pub returns-clause-epochs : goal.returns-clause-epochs
returns-clause-epochs g c = rw (← c.self.view_is, get-by_channel) (record {
  drawn = c.read_in.ensures.drawn;
  no_epoch = c.read_in.ensures.no_epoch;
  undrawn = IfErr-weaker c.read_in.result _ _ (λ e h other. (h other).1) c.read_in.ensures.refusals;
})

pub returns-clause-refusals : goal.returns-clause-refusals
returns-clause-refusals g c = IfErr-weaker c.read_in.result _ _ (λ e h other. (h other).0) c.read_in.ensures.refusals

pub returns-clause-log : goal.returns-clause-log
returns-clause-log g c =
    IfOk-weaker c.read_in.result _ _ (λ (r : Recovery) h. rw h
    (Adds-read c.args.self.now c.args.channel.now r.position.epoch c.args.now)) (returns-clause-makes g c)

pub returns-clause-lists : goal.returns-clause-lists
returns-clause-lists g c =
    IfOk-both c.read_in.result _ _ _ (λ (r : Recovery) h a. record {
      answer = ReadsAt-from c.args.self.now c.args.channel.now _ _ _ _ a;
      changes = rw h (ChangesAt-read c.args.self.now c.args.channel.now r.position.epoch c.args.now);
    })
    (returns-clause-makes g c) (returns-clause-answer g c)

pub invariant_of-self : goal.invariant_of-self
invariant_of-self g c =
    quiet_by c.read_in.result c.self.inside.quiet_until c.quiet_after_use-self-inside.result c.self.inside.namespaces
    c.self.inside.map c.read_in.new.map c.args.channel.now
    (λ (r : Recovery). used_at (stood_or (get_by_text c.self.inside.map c.args.channel.now) r.position.epoch
    c.size_for-size.result) c.args.now)
    c.quiet_after_use-self-inside.ensures.before c.self.invariant c.read_in.ensures.ok c.read_in.ensures.err
    (λ r t early h. used_quiet (get_by_text c.self.inside.map c.args.channel.now) r.position.epoch
    c.size_for-size.result c.args.now _ t
    (not_over c.args.now unused_seconds c.quiet_after_use-self-inside.result t
    c.quiet_after_use-self-inside.ensures.used early) h)
