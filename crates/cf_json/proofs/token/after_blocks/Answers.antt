-- The loop keeps that the text's end is the same behind each block of plain bytes.
use Rattle.std.proofs.Common.{◌≡◌, ◌++◌, sym, ap, ◌∙◌, arith}
use Rattle.std.proofs.lemmas.List.{take-append-drop}
use Rattle.cf_json.specs.declared.token.Within.TheVariants.{Plain}
use Rattle.cf_json.specs.Reading.{text_end}
use Rattle.cf_json.proofs.PlainRuns.{plain_run}
use Rattle.cf_json.proofs.token.after_blocks.Goals as goal

pub loop-block-preserved : goal.loop-block-preserved
loop-block-preserved c =
    let split : c.in-Some.block.now ++ c.in-Some.more.now ≡ c.loop-block.rest.now =
    rw (c.in-Some.ensures.cases.0, c.in-Some.ensures.cases.1) (take-append-drop 16 c.loop-block.rest.now) in
    record {
      same = sym (plain_run c.in-Some.block.now c.in-Some.more.now (sym c.are_plain.ensures ∙ c.if-not-are_plain.false))
          ∙ ap (text_end Plain) split ∙ c.loop-block.invariant.same;
      shorter = omega (arith, c.in-Some.ensures.cases.2);
    }
