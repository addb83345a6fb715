-- The loop keeps that the lines so far are read, with their numbers; the one that can't be is told.
use Rattle.std.proofs.Common.{sym, subst, ap, rules, arith, drop, suc, take, ◌+◌, ◌∙◌, get_or, List, [], ℕ}
use Rattle.std.specs.Borrow.{Bor}
use Rattle.std.proofs.lemmas.Result.{err_from_is_err_and}
use Rattle.cf_simulate.specs.ScheduleRead.{HasLines, IsReadTo}
use Rattle.cf_simulate.proofs.Reading.{lines_more, lines_cut, refused_text, count_before, texts}
use Rattle.cf_simulate.proofs.schedule.Schedule.read.Goals as goal

abbrev nothing : Bor (List ℕ)
nothing = record { ref_ptr = (0, 0); now = [] }

pub loop-before-preserved : goal.loop-before-preserved
loop-before-preserved c =
    let low = c.loop-before-test.true in
    let lines = c.deref-line-items.result.now in
    let i = c.loop-before.before in
    let more = sym (lines_more lines i (get_or lines i nothing) (omega arith) (search rules)) in
    let number = ap (λ n. n + 1) (sym (count_before lines i (omega arith))) in (
      subst (λ ls. IsReadTo c.args.nodes ls c.read_line.new.self) more
          (c.in_ok-read_line.ensures.ok _ c.loop-before.invariant.0),
      subst (λ ls. HasLines c.args.nodes ls c.read_line.new.self) more
          (c.in_ok-read_line.ensures.lines _ number c.loop-before.invariant.1),
    )

pub returns-in_err-read_line-clause-err : goal.returns-in_err-read_line-clause-err
returns-in_err-read_line-clause-err c =
    let low = c.loop-before-test.true in
    let lines = c.deref-line-items.result.now in
    let i = c.loop-before.before in
    let p = err_from_is_err_and c.from_residual-in_err-read_line.result c.from_residual-in_err-read_line.ensures.1 in
    let cut = sym c.in_ok-lines.ensures ∙ ap texts (sym c.deref-line-items.ensures.value)
    ∙ lines_cut lines i (get_or lines i nothing) (omega arith) (search rules) in
    rw (p.1, p.2) (refused_text c.args.nodes c.args.text.now (texts (take i lines)) (get_or lines i nothing).now
    (texts (drop (suc i) lines)) (i + 1) c.loop-before.schedule _ cut
    (ap (λ n. n + 1) (sym (count_before lines i (omega arith)))) c.loop-before.invariant.0
    (c.in_err-read_line.ensures.err _ c.loop-before.invariant.0))
