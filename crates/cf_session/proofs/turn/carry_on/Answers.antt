-- A loop over actions: where the script has led so far, each step leads on from there, and its work is less.
use Rattle.std.proofs.Common.{◌∙◌, ◌<◌, ◌||◌, Bool, ap, sym, refl, inl, inr, arith}
use Rattle.cf_session.specs.Standing.{progress_of, is_idle, met_refused_memory, work_of}
use Rattle.cf_session.specs.Turn.{rests, units_left}
use Rattle.cf_session.proofs.Playing.{leads_more, still_long}
use Rattle.cf_session.proofs.turn.carry_on.Goals as goal

pub loop-session-init : goal.loop-session-init
loop-session-init g c =
    record {
      leads = λ long m end rest. rest;
      ready = c.requires.ready;
      keeps = record { tables = refl; short = λ s. s };
      namespaces = refl;
      spends = rests;
      down = omega (arith);
      work = inr refl;
    }

pub loop-session-preserved : goal.loop-session-preserved
loop-session-preserved g c =
    let before = c.loop-session.invariant in
    let head = c.loop-session.session in
    let last = c.step.new.session in
    let less : work_of last < work_of head = c.step.ensures.work c.if-not-step.false in
    record {
      leads = λ long.
          leads_more g.N.CommandExecutor.closed g.N.CommandExecutor.does (progress_of c.args.session.now) (progress_of head)
          (progress_of last) c.args.node.now c.loop-session.node c.step.new.node
          (before.leads (still_long (met_refused_memory head) (met_refused_memory last) c.step.ensures.keeps.short
          long)) (c.step.ensures.leads long);
      ready = c.step.ensures.ready;
      keeps = record {
        tables = c.step.ensures.keeps.tables ∙ before.keeps.tables;
        short = λ s. c.step.ensures.keeps.short (before.keeps.short s);
      };
      namespaces = c.step.ensures.namespaces ∙ before.namespaces;
      spends = c.step.ensures.spends c.args.node.now (units_left c.args.budget.now) before.spends;
      down = omega (arith, less, before.down);
      work = inl (omega (arith, less, before.down));
    }

pub returns-then-is_spent-clause-done : goal.returns-then-is_spent-clause-done
returns-then-is_spent-clause-done g c =
    let s = c.loop-session.session in
    let stands = sym c.is_closed.ensures ∙ c.loop-session-test.true in
    sym (ap (λ (b : Bool). b || is_idle s) stands ∙ (sym c.is_idle.ensures ∙ c.if-not-is_idle.true))

pub step-requires-clause-stands : goal.step-requires-clause-stands
step-requires-clause-stands g c = sym c.is_closed.ensures ∙ c.loop-session-test.true
