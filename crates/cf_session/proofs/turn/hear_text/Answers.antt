-- The script of a text is under way once the session has heard it, if no memory was refused to it.
use Rattle.std.proofs.Common.{sym, subst}
use Rattle.cf_session.specs.CommandScripts.{Tables}
use Rattle.cf_session.specs.Standing.{tables_of, progress_of, met_refused_memory, refusals}
use Rattle.cf_session.specs.Played.{AskStreams}
use Rattle.cf_session.proofs.Playing.{hears_long, hears_awaits, hears_asks, long_now, short_stays}
use Rattle.cf_session.proofs.turn.hear_text.Goals as goal

pub returns-clause-hears : goal.returns-clause-hears
returns-clause-hears c = λ long.
    let old = c.args.session.now in
    let new = c.on_text.new.self in
    hears_long (tables_of old) (progress_of old) c.args.text.now (progress_of new) (refusals new)
    c.on_text.ensures.hears
    (long_now (met_refused_memory old) (met_refused_memory new) (refusals new) c.on_text.ensures.keeps.short long)

pub returns-clause-ready : goal.returns-clause-ready
returns-clause-ready c =
    let old = c.args.session.now in
    let new = c.on_text.new.self in
    record {
      awaits = hears_awaits (tables_of old) (progress_of old) c.args.text.now (progress_of new) (refusals new)
          c.on_text.ensures.hears;
      asks = subst (λ (t : Tables). AskStreams t.namespaces (progress_of new)) (sym c.on_text.ensures.keeps.tables)
          (hears_asks (tables_of old) (progress_of old) c.args.text.now (progress_of new) (refusals new)
          c.frames_have_streams.ensures c.on_text.ensures.hears);
    }

pub returns-clause-keeps : goal.returns-clause-keeps
returns-clause-keeps c =
    let old = c.args.session.now in
    let new = c.on_text.new.self in
    record {
      tables = c.on_text.ensures.keeps.tables;
      short = short_stays (met_refused_memory old) (met_refused_memory new) (refusals new)
          c.on_text.ensures.keeps.short;
    }
