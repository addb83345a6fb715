-- The heading is the definition's text, and has no line feed, so the line may be added.
use Rattle.std.proofs.Common.{◌≡◌, ◌∙◌, ◌++◌, arith, rules, subst, sym}
use Rattle.cf_explain.specs.Remarks.{IsOneLine, heading, remark}
use Rattle.cf_explain.proofs.Adding.{heading_line}
use Rattle.cf_explain.proofs.remarks.Remarks.headed.Goals as goal

pub returns : goal.returns
returns c = λ one.
    let is : c.as_str.result.now ≡ heading c.args.number c.args.line.now = search rules in
    let line = heading_line c.args.number c.args.line.now (omega (arith, c.ranges.number.fits)) one in
    c.in_ok-add_line.ensures (subst IsOneLine (sym is) line) ∙ (λ i. c.new-remarks.ensures i ++ remark (is i))
