-- The loop keeps that the world stands for the events so far, and that their lines are written; an early end leaves a
-- front.
use Rattle.std.proofs.Common.{arith, List, map, subst}
use Rattle.std.specs.Io.KnownBytes.{Appends}
use Rattle.std.proofs.lemmas.Result.{err_from_is_err_and}
use Rattle.cf_schedule.specs.Seen.{seen}
use Rattle.cf_schedule.specs.declared.event.Event.{Event}
use Rattle.cf_simulate.specs.Simulation.{AddsPart, PrintsPart, PrintsWhole, WritesAll}
use Rattle.cf_simulate.proofs.Steps.{stands_all, stands_first, stands_next, stands_part, stands_whole}
use Rattle.cf_simulate.proofs.simulation.write_each.Goals as goal

pub loop-done-init : goal.loop-done-init
loop-done-init g c = λ cfg tied counted.
    stands_first c.args.explains cfg c.args.world.now c.as_slice-events.result.now
    (g.W.Write.contents c.args.writer.now) tied counted

pub loop-done-preserved : goal.loop-done-preserved
loop-done-preserved g c = λ cfg tied counted.
    let es : List Event = c.as_slice-events.result.now in
    let law = c.one_event_more.ensures in
    let step = c.in_ok-lines.ensures in
    let adds = subst (λ bs. Appends (g.W.Write.contents c.loop-done.writer)
    (g.W.Write.contents c.write_bytes.new.writer) bs) c.as_bytes.ensures.value c.in_ok-write_bytes.ensures.all in
    stands_next c.args.explains cfg c.loop-done.world c.event_text.new.world es c.loop-done.done
    c.index-events-done.result _ _ _ _
    c.loop-done-test.true c.index-events-done.is law.run law.trace (c.loop-done.invariant cfg tied counted) step.ok
    step.counts step.shows adds

pub returns-in_err-write_bytes-clause-ends : goal.returns-in_err-write_bytes-clause-ends
returns-in_err-write_bytes-clause-ends g c =
    let es : List Event = c.as_slice-events.result.now in
    let law = c.one_event_more.ensures in
    let p = err_from_is_err_and c.from_residual-in_err-write_bytes.result
    c.from_residual-in_err-write_bytes.ensures.1 in
    let adds = subst (λ bs. AddsPart (g.W.Write.contents c.loop-done.writer)
    (g.W.Write.contents c.write_bytes.new.writer) bs) c.as_bytes.ensures.value c.in_err-write_bytes.ensures.part in
    rw (p.1, p.2, c.in_err-write_bytes.ensures.fault) (λ cfg tied counted.
    let part = stands_part c.args.explains cfg c.loop-done.world es c.loop-done.done c.index-events-done.result _ _ _ _
    c.loop-done-test.true c.index-events-done.is law.trace (c.loop-done.invariant cfg tied counted)
    c.in_ok-lines.ensures.shows adds in
    subst (λ (l : List Event). PrintsPart c.args.explains cfg (map seen l) (g.W.Write.contents c.args.writer.now)
    (g.W.Write.contents c.write_bytes.new.writer)) c.as_slice-events.ensures.value part)

pub returns-in_err-lines-clause-ends : goal.returns-in_err-lines-clause-ends
returns-in_err-lines-clause-ends g c =
    let es : List Event = c.as_slice-events.result.now in
    let p = err_from_is_err_and c.from_residual.result c.from_residual.ensures.1 in
    rw (p.1, p.2) (λ cfg tied counted.
    let whole = stands_whole c.args.explains cfg c.loop-done.world es c.loop-done.done _ _ c.loop-done-test.true
    (c.loop-done.invariant cfg tied counted) in
    subst (λ (l : List Event). PrintsWhole c.args.explains cfg (map seen l) (g.W.Write.contents c.args.writer.now)
    (g.W.Write.contents c.loop-done.writer)) c.as_slice-events.ensures.value whole)

pub returns-clause-done : goal.returns-clause-done
returns-clause-done g c = λ cfg tied counted.
    let es : List Event = c.as_slice-events.result.now in
    let all = stands_all c.args.explains cfg c.loop-done.world es c.loop-done.done
    _ _ (omega (arith, c.loop-done-test.false)) (c.loop-done.invariant cfg tied counted) in
    subst (λ (l : List Event). WritesAll c.args.explains cfg (map seen l) (g.W.Write.contents c.args.writer.now)
    (g.W.Write.contents c.loop-done.writer)) c.as_slice-events.ensures.value all
