-- The loop keeps that the text's end is the same behind each plain byte.
use Rattle.std.proofs.Common.{sym, ap, ◌∙◌, arith}
use Rattle.cf_json.specs.declared.token.Within.TheVariants.{Plain}
use Rattle.cf_json.specs.Reading.{text_end}
use Rattle.cf_json.proofs.PlainRuns.{plain_once}
use Rattle.cf_json.proofs.token.after_each.Goals as goal

pub loop-byte-preserved : goal.loop-byte-preserved
loop-byte-preserved c =
    record {
      same = sym (plain_once c.in-Some.byte.now c.in-Some.more.now (sym c.is_plain.ensures ∙ c.if-not-is_plain.false))
          ∙ ap (text_end Plain) (sym c.in-Some.ensures.cases.0) ∙ c.loop-byte.invariant.same;
      shorter = omega (arith, c.in-Some.ensures.cases.1);
    }
