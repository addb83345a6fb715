-- The loop keeps that the session waits idle and that what was written answers the lines so far.
use Rattle.std.proofs.Common.{◌≡◌, ◌∙◌, false, Some, rules, sym, subst, option_map}
use Rattle.std.specs.Prelude.{IsErrOf}
use Rattle.cf_speak.specs.declared.error.SpeakError.TheVariants as fault
use Rattle.cf_session.specs.Standing.{progress_of, tables_of}
use Rattle.cf_speak.specs.Conversation.{IsNoText, ReadsLine}
use Rattle.cf_speak.specs.Scene.{is_over}
use Rattle.cf_speak.specs.Shown.{scene_of}
use Rattle.cf_speak.proofs.Turns.{breaks_off, goes_heard, speaks_all, speaks_closed}
use Rattle.cf_speak.proofs.conversation.serve_lines.Goals as goal

pub loop-preserved : goal.loop-preserved
loop-preserved g c =
    let left = g.R.Read.remaining c.loop.reader in
    let next = g.R.Read.remaining c.read_line.new.reader in
    let reads : ReadsLine left next (Some c.in-Some.line.items) =
    subst (λ r. ReadsLine left next (option_map (λ v. v.items) r)) c.in-Some.is c.in_ok-line.ensures.line in
    let over : is_over (scene_of c.answer.new.node) ≡ false = sym c.is_closed.ensures ∙ c.if-is_closed.false in
    record {
      over = over;
      idle = c.in_ok-answer.ensures.idle over;
      tables = c.in_ok-answer.ensures.tables ∙ c.loop.invariant.tables;
      namespaces = c.in_ok-answer.ensures.namespaces;
      goes = goes_heard (tables_of c.args.session.now) (tables_of c.loop.session) (progress_of c.args.session.now)
          (scene_of c.args.node.now)
          (g.R.Read.remaining c.args.reader.now) left next
          (g.W.Write.contents c.args.writer.now) (g.W.Write.contents c.loop.writer)
          (g.W.Write.contents c.answer.new.writer)
          (scene_of c.loop.node) (scene_of c.answer.new.node) (progress_of c.loop.session)
          (progress_of c.answer.new.session)
          c.in-Some.line.items c.as_slice.result.now c.loop.invariant.tables c.as_slice.ensures.value
          c.loop.invariant.over c.loop.invariant.goes reads c.in_ok-answer.ensures.answers;
    }

pub returns-in_default-clause-done : goal.returns-in_default-clause-done
returns-in_default-clause-done g c =
    let left = g.R.Read.remaining c.loop.reader in
    let next = g.R.Read.remaining c.read_line.new.reader in
    speaks_all (tables_of c.args.session.now) (progress_of c.args.session.now) (scene_of c.args.node.now)
    (g.R.Read.remaining c.args.reader.now) left next (g.W.Write.contents c.args.writer.now)
    (g.W.Write.contents c.loop.writer)
    (scene_of c.loop.node) (progress_of c.loop.session) c.loop.invariant.goes
    (subst (λ r. ReadsLine left next (option_map (λ v. v.items) r)) c.in_default.is c.in_ok-line.ensures.line)

pub returns-then-is_closed-clause-done : goal.returns-then-is_closed-clause-done
returns-then-is_closed-clause-done g c =
    let left = g.R.Read.remaining c.loop.reader in
    let next = g.R.Read.remaining c.read_line.new.reader in
    let reads : ReadsLine left next (Some c.in-Some.line.items) =
    subst (λ r. ReadsLine left next (option_map (λ v. v.items) r)) c.in-Some.is c.in_ok-line.ensures.line in
    speaks_closed (tables_of c.args.session.now) (progress_of c.args.session.now) (scene_of c.args.node.now)
    (g.R.Read.remaining c.args.reader.now) next (g.W.Write.contents c.args.writer.now)
    (g.W.Write.contents c.answer.new.writer)
    (scene_of c.answer.new.node) (progress_of c.answer.new.session) (sym c.is_closed.ensures ∙ c.if-is_closed.true)
    (goes_heard (tables_of c.args.session.now) (tables_of c.loop.session) (progress_of c.args.session.now)
    (scene_of c.args.node.now)
    (g.R.Read.remaining c.args.reader.now) left next
    (g.W.Write.contents c.args.writer.now) (g.W.Write.contents c.loop.writer) (g.W.Write.contents c.answer.new.writer)
    (scene_of c.loop.node) (scene_of c.answer.new.node) (progress_of c.loop.session) (progress_of c.answer.new.session)
    c.in-Some.line.items c.as_slice.result.now c.loop.invariant.tables c.as_slice.ensures.value
    c.loop.invariant.over c.loop.invariant.goes reads c.in_ok-answer.ensures.answers)

pub returns-in_err-answer-clause-not_utf8 : goal.returns-in_err-answer-clause-not_utf8
returns-in_err-answer-clause-not_utf8 g c = λ h.
    let left = g.R.Read.remaining c.loop.reader in
    let next = g.R.Read.remaining c.read_line.new.reader in
    let reads : ReadsLine left next (Some c.in-Some.line.items) =
    subst (λ r. ReadsLine left next (option_map (λ v. v.items) r)) c.in-Some.is c.in_ok-line.ensures.line in
    let k : IsErrOf c.answer.result fault.NotUtf8 = search (rules, h) in
    let stops : IsNoText c.as_slice.result.now × (g.W.Write.contents c.answer.new.writer
    ≡ g.W.Write.contents c.loop.writer) = c.answer.ensures.not_utf8 k in
    breaks_off (tables_of c.args.session.now) (progress_of c.args.session.now) (scene_of c.args.node.now)
    (g.R.Read.remaining c.args.reader.now) left next
    (g.W.Write.contents c.args.writer.now) (g.W.Write.contents c.loop.writer) (g.W.Write.contents c.answer.new.writer)
    (scene_of c.loop.node) (progress_of c.loop.session) c.in-Some.line.items
    c.loop.invariant.over c.loop.invariant.goes reads (subst IsNoText c.as_slice.ensures.value stops.0) stops.1
