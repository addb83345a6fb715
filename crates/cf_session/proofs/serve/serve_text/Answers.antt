-- A loop over turns: what a text led to so far, each turn goes on with, until the script is over or the node has
-- closed the session.
use Rattle.std.proofs.Common.{◌∙◌, refl, sym}
use Rattle.cf_session.specs.Standing.{tables_of, progress_of, met_refused_memory}
use Rattle.cf_session.proofs.Playing.{done_ends, goes_first, goes_on, serves_gone, still_long}
use Rattle.cf_session.proofs.serve.serve_text.Goals as goal

pub loop-init : goal.loop-init
loop-init g c =
    record {
      goes = λ long.
          goes_first g.N.CommandExecutor.closed g.N.CommandExecutor.does (tables_of c.args.session.now) (progress_of c.args.session.now)
          (progress_of c.hear_text.new.session)
          c.args.node.now c.args.text.now (c.hear_text.ensures.hears long);
      ready = c.hear_text.ensures.ready;
      keeps = c.hear_text.ensures.keeps;
      namespaces = refl;
    }

pub loop-preserved : goal.loop-preserved
loop-preserved g c =
    let before = c.loop.invariant in
    let head = c.loop.session in
    let last = c.carry_on.new.session in
    record {
      goes = λ long.
          goes_on g.N.CommandExecutor.closed g.N.CommandExecutor.does (tables_of c.args.session.now) (progress_of c.args.session.now)
          (progress_of head) (progress_of last)
          c.args.node.now c.loop.node c.carry_on.new.node c.args.text.now
          (before.goes (still_long (met_refused_memory head) (met_refused_memory last) c.carry_on.ensures.keeps.short
          long)) (c.carry_on.ensures.leads long);
      ready = c.carry_on.ensures.ready;
      keeps = record {
        tables = c.carry_on.ensures.keeps.tables ∙ before.keeps.tables;
        short = λ s. c.carry_on.ensures.keeps.short (before.keeps.short s);
      };
      namespaces = c.carry_on.ensures.namespaces ∙ before.namespaces;
    }

pub returns-clause-serves : goal.returns-clause-serves
returns-clause-serves g c = λ long.
    let before = c.loop.invariant in
    let head = c.loop.session in
    let last = c.carry_on.new.session in
    serves_gone g.N.CommandExecutor.closed g.N.CommandExecutor.does (tables_of c.args.session.now) (progress_of c.args.session.now)
    (progress_of last)
    c.args.node.now c.carry_on.new.node c.args.text.now c.requires.stands
    (goes_on g.N.CommandExecutor.closed g.N.CommandExecutor.does (tables_of c.args.session.now) (progress_of c.args.session.now)
    (progress_of head) (progress_of last)
    c.args.node.now c.loop.node c.carry_on.new.node c.args.text.now
    (before.goes (still_long (met_refused_memory head) (met_refused_memory last) c.carry_on.ensures.keeps.short long))
    (c.carry_on.ensures.leads long))
    c.carry_on.ensures.ready.awaits
    (done_ends (g.N.CommandExecutor.closed c.carry_on.new.node) last (sym c.carry_on.ensures.done ∙ c.loop-test.false))
