-- One act carried out, and its answer handed to the session: both are one step of the script.
use Rattle.std.proofs.Common.{◌≡◌, ◌∙◌, Some, sym}
use Rattle.cf_session.specs.Shown.{shown_action, shown_answer, answer_kind}
use Rattle.cf_session.specs.Standing.{progress_of, met_refused_memory, refusals}
use Rattle.cf_session.specs.Played.{asked_kind}
use Rattle.cf_session.proofs.Playing.{answered_none, answered_long, next_call_done, long_now, short_stays, answer_asks}
use Rattle.cf_session.proofs.Playing.{answers_own}
use Rattle.cf_session.proofs.turn.carry_out.Goals as goal

pub answered-requires : goal.answered-requires
answered-requires g c =
    let kind : Some (answer_kind c.in-Some.answer) ≡ asked_kind (shown_action c.args.action) = c.in-Some.ensures.kind in
    sym (kind ∙ c.requires.kind)

pub returns-in-Some-clause-next : goal.returns-in-Some-clause-next
returns-in-Some-clause-next g c = λ p d long.
    let old = c.args.session.now in
    let last = c.answered.new.self in
    next_call_done g.N.CommandExecutor.closed g.N.CommandExecutor.does p (progress_of old) (progress_of last) (shown_action c.args.action)
    (answer_kind c.in-Some.answer)
    (shown_answer c.in-Some.answer) c.args.node.now c.act.new.node d c.in-Some.ensures.does (sym c.in-Some.ensures.kind)
    (answered_long (shown_answer c.in-Some.answer) (progress_of old) (progress_of last) (refusals last)
    c.answered.ensures.goes
    (long_now (met_refused_memory old) (met_refused_memory last) (refusals last) c.answered.ensures.keeps.short long))

pub returns-in-Some-clause-awaits : goal.returns-in-Some-clause-awaits
returns-in-Some-clause-awaits g c =
    answered_none (shown_answer c.in-Some.answer) (progress_of c.args.session.now) (progress_of c.answered.new.self)
    (refusals c.answered.new.self) c.answered.ensures.goes

pub returns-in-Some-clause-asks : goal.returns-in-Some-clause-asks
returns-in-Some-clause-asks g c =
    answer_asks _ (shown_answer c.in-Some.answer) (progress_of c.args.session.now) (progress_of c.answered.new.self)
    (refusals c.answered.new.self) (answers_own c.in-Some.answer) c.answered.ensures.goes c.requires.asks

pub returns-in-Some-clause-keeps : goal.returns-in-Some-clause-keeps
returns-in-Some-clause-keeps g c =
    let old = c.args.session.now in
    let last = c.answered.new.self in
    record {
      tables = c.answered.ensures.keeps.tables;
      short = short_stays (met_refused_memory old) (met_refused_memory last) (refusals last)
          c.answered.ensures.keeps.short;
    }
