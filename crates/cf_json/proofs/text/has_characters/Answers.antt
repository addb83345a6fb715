-- The loop keeps that the pieces left pair up, with the high half before them, exactly if the whole has characters.
use Rattle.std.proofs.Common.{sym, ap, ◌∙◌}
use Rattle.cf_json.specs.Characters.{a_piece, pieces, is_high, is_low}
use Rattle.cf_json.proofs.Surrogates.{are_pairs, tells, at_end, past_plain, lone_backslash, past_escape, past_short}
use Rattle.cf_json.proofs.Surrogates.{past_unit, four, stops, goes_on, stops_at_unit, passes_unit}
use Rattle.cf_json.proofs.text.has_characters.Goals as goal
use Rattle.cf_json.proofs.text.has_characters.Goals.{in-Some+else-first-ne92+in_default-split_first}
use Rattle.cf_json.proofs.text.has_characters.Goals.{in-Some+else-first-ne92+in-Some-split_first+else-letter-ne117+in_default-split_at_checked}
use Rattle.cf_json.proofs.text.has_characters.Goals.{in_default}

pub loop-first-init : goal.loop-first-init
loop-first-init c = sym (tells (pieces a_piece c.args.spelling.now)).here

pub returns-then-high : goal.returns-then-high
returns-then-high c =
    stops _ _ _ (past_plain _ _ _ c.loop-first.invariant _ _ c.in-Some.ensures.cases.0 c.if-first-ne92.true)
    c.if-high.true

pub loop-first-preserved-then-first-ne92 : goal.loop-first-preserved-then-first-ne92
loop-first-preserved-then-first-ne92 c =
    goes_on _ _ _ (past_plain _ _ _ c.loop-first.invariant _ _ c.in-Some.ensures.cases.0 c.if-first-ne92.true)
    c.if-high.false

pub returns-then-high-2 : goal.returns-then-high-2
returns-then-high-2 c =
    stops _ _ _ (past_escape _ _ _ c.loop-first.invariant _ _ c.in-Some.ensures.cases.0 c.if-first-ne92.false
    _ _ c.in-Some-split_first.ensures.cases.0 c.if-letter-ne117.true) c.if-high-2.true

pub loop-first-preserved-then-letter-ne117 : goal.loop-first-preserved-then-letter-ne117
loop-first-preserved-then-letter-ne117 c =
    goes_on _ _ _ (past_escape _ _ _ c.loop-first.invariant _ _ c.in-Some.ensures.cases.0 c.if-first-ne92.false
    _ _ c.in-Some-split_first.ensures.cases.0 c.if-letter-ne117.true) c.if-high-2.false

pub returns-then-is_low-high : goal.returns-then-is_low-high
returns-then-is_low-high c =
    let cut = c.in-Some-split_at_checked.ensures.cases in
    let step = past_unit _ _ _ c.loop-first.invariant _ _ c.in-Some.ensures.cases.0 c.if-first-ne92.false
    _ _ c.in-Some-split_first.ensures.cases.0 c.if-letter-ne117.false _ _ _ _ _ (four _ _ _ cut.0 cut.1 cut.2) in
    stops_at_unit _ _ _ _ _ step (c.is_low.ensures ∙ ap is_low c.code_unit-unit.ensures) c.if-is_low-high.true

pub loop-first-preserved : goal.loop-first-preserved
loop-first-preserved c =
    let cut = c.in-Some-split_at_checked.ensures.cases in
    let step = past_unit _ _ _ c.loop-first.invariant _ _ c.in-Some.ensures.cases.0 c.if-first-ne92.false
    _ _ c.in-Some-split_first.ensures.cases.0 c.if-letter-ne117.false _ _ _ _ _ (four _ _ _ cut.0 cut.1 cut.2) in
    let high = c.is_high-high.ensures ∙ ap is_high c.code_unit-unit.ensures in
    ap (λ b. are_pairs b (pieces a_piece c.in-Some-split_at_checked.behind.now)) high
    ∙ passes_unit _ _ _ _ _ step (c.is_low.ensures ∙ ap is_low c.code_unit-unit.ensures) c.if-is_low-high.false

pub returns : goal.returns
returns c = elim c.match-split_first.branch [
  | in-Some+else-first-ne92+in_default-split_first w ↦
      lone_backslash _ _ _ c.loop-first.invariant _ _ w.in-Some.ensures.cases.0 w.if-first-ne92.false
      w.in_default-split_first.ensures.cases
  | in-Some+else-first-ne92+in-Some-split_first+else-letter-ne117+in_default-split_at_checked w ↦
      past_short _ _ _ c.loop-first.invariant _ _ w.in-Some.ensures.cases.0 w.if-first-ne92.false
      _ _ w.in-Some-split_first.ensures.cases.0 w.if-letter-ne117.false w.in_default-split_at_checked.ensures.cases
  | in_default w ↦ at_end _ _ _ c.loop-first.invariant w.in_default.ensures.cases
]
