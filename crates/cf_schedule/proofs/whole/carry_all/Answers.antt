-- The loop keeps that the world stands for the run of the events so far, and what was told for its trace.
use Rattle.std.proofs.Common.{rules, ◌≡◌, ◌<◌, ◌≤◌, ◌+◌, List, [], ◌∷◌, ◌++◌, length, take, map, sym, ap, ◌∙◌, subst}
use Rattle.std.proofs.Common.{cond, true, is_ok}
use Rattle.std.proofs.lemmas.List.{take_more, map-append}
use Rattle.cf_machine.specs.Event.{Event}
use Rattle.cf_machine.specs.IntervalMachine.{run, happens}
use Rattle.cf_machine.specs.Told.{trace, writes}
use Rattle.cf_machine.specs.World.{World, start}
use Rattle.cf_world.specs.Entries.{shown_entry}
use Rattle.cf_world.specs.Tie.{Tied}
use Rattle.cf_world.specs.declared.entry.Entry.{Entry}
use Rattle.cf_schedule.specs.Seen.{seen}
use Rattle.cf_schedule.specs.declared.event.Event.{Event as CodeEvent}
use Rattle.cf_schedule.proofs.Runs.{all-seen, past-length, seen-more}
use Rattle.cf_schedule.proofs.whole.carry_all.Goals as goal

pub loop-done-init : goal.loop-done-init
loop-done-init c = λ cfg tied counted told. record { tied = tied; counted = counted; told = told }

pub loop-done-preserved : goal.loop-done-preserved
loop-done-preserved c = λ cfg tied counted told.
    let stands = c.loop-done.invariant cfg tied counted told in
    let es : List CodeEvent = c.args.events.now in
    let lt : c.loop-done.done < length es = c.loop-done-test.true in
    let e : CodeEvent = c.index-events-done.result in
    let past : List Event = take c.loop-done.done (map seen es) in
    let more : take (c.loop-done.done + 1) (map seen es) ≡ past ++ seen e ∷ [] =
    seen-more es c.loop-done.done e (take_more es c.loop-done.done e lt
    ∙ ap (λ x. take c.loop-done.done es ++ x ∷ []) (sym c.index-events-done.is)) in
    let law = c.one_event_more.ensures in
    let next : run cfg start (take (c.loop-done.done + 1) (map seen es)) ≡ happens cfg (run cfg start past) (seen e) =
    ap (run cfg start) more ∙ law.run cfg past (seen e) in
    let step = c.in-Ok.ensures.ok cfg past stands.tied in
    let wrote = c.in-Ok.ensures.writes cfg past stands.tied in
    let a : List Entry = c.loop-done.got.entries.items in
    let b : List Entry = c.in-Ok.entries.items in
    let ok : is_ok c.append.result ≡ true = c.if-is_err.ensures.negation in
    let all : c.append.new.self.items ≡ a ++ b = c.append.ensures.items ∙ ap (λ t. cond t (a ++ b) a) ok in
    let number = past-length es c.loop-done.done lt in
    record {
      tied = subst (λ (m : World). Tied cfg c.step.new.self.parts m) (sym next) step;
      counted = c.in-Ok.ensures.counts ∙ ap (λ n. n + 1) stands.counted;
      told =
          ap (map shown_entry) all ∙ map-append shown_entry a b ∙ (λ i. stands.told i ++ wrote i)
          ∙ ap (λ n. trace cfg 1 start past ++ writes cfg n (run cfg start past) (seen e))
          (ap (λ n. n + 1) stands.counted ∙ sym number)
          ∙ sym (ap (trace cfg 1 start) more ∙ law.trace cfg past (seen e));
    }

pub returns-then-is_err-clause-front : goal.returns-then-is_err-clause-front
returns-then-is_err-clause-front c = λ cfg tied counted told.
    let a : List Entry = c.loop-done.got.entries.items in
    let b : List Entry = c.in-Ok.entries.items in
    let kept : c.append.new.self.items ≡ a =
    c.append.ensures.items ∙ ap (λ t. cond t (a ++ b) a) c.if-is_err.ensures.negation in
    (c.loop-done-test.true, ap (map shown_entry) kept ∙ (c.loop-done.invariant cfg tied counted told).told)

pub returns-in_default-clause-front : goal.returns-in_default-clause-front
returns-in_default-clause-front c =
    λ cfg tied counted told. (c.loop-done-test.true, (c.loop-done.invariant cfg tied counted told).told)

pub returns-clause-whole : goal.returns-clause-whole
returns-clause-whole c = λ cfg tied counted told.
    let past : length c.args.events.now ≤ c.loop-done.done = search rules in
    (c.loop-done.invariant cfg tied counted told).told
    ∙ ap (trace cfg 1 start) (all-seen c.args.events.now c.loop-done.done past)
