-- The loop keeps that if nothing is to go from what is left, nothing is from the whole; a string is passed over in one
-- step.
use Rattle.std.proofs.Common.{◌≡◌, ◌∷◌, Ok, sym, ap, ◌∙◌, subst, arith}
use Rattle.std.proofs.lemmas.Bool.{ne_eqb}
use Rattle.std.proofs.lemmas.List.{nil_from_length}
use Rattle.cf_json.specs.Reading.{text_end}
use Rattle.cf_json.specs.Squeeze.{kept}
use Rattle.cf_json.specs.declared.squeeze.SqueezeMode.TheVariants.{Between}
use Rattle.cf_json.specs.declared.token.Within.TheVariants.{Plain}
use Rattle.cf_json.proofs.PlainRuns.{byte_kept, string_kept, nothing_kept, visible_kept}
use Rattle.cf_json.proofs.squeeze.is_compact.Goals as goal

pub returns-then-are_visible : goal.returns-then-are_visible
returns-then-are_visible c = visible_kept Between c.args.text.now (sym c.are_visible.ensures ∙ c.if-are_visible.true)

pub loop-byte-preserved-then-byte-ne34 : goal.loop-byte-preserved-then-byte-ne34
loop-byte-preserved-then-byte-ne34 c =
    let byte = c.in-Some.byte.now in
    record {
      same = λ e. c.loop-byte.invariant.same (subst (λ s. kept Between s ≡ s) (sym c.in-Some.ensures.cases.0)
          (byte_kept byte c.in-Some.more.now (sym c.is_space.ensures ∙ c.if-is_space.false)
          (ne_eqb byte 34 c.if-byte-ne34.true) e));
      shorter = omega (arith, c.in-Some.ensures.cases.1);
    }

pub loop-byte-preserved : goal.loop-byte-preserved
loop-byte-preserved c =
    let reads : text_end Plain c.in-Some.more.now ≡ Ok c.in-Ok.after.now = sym c.in-Ok.ensures.same in
    let split = c.in-Some.ensures.cases.0 ∙ ap (λ b. b ∷ c.in-Some.more.now) c.if-byte-ne34.false in
    record {
      same = λ e. c.loop-byte.invariant.same (subst (λ s. kept Between s ≡ s) (sym split)
          (string_kept c.in-Some.more.now c.in-Ok.after.now reads e));
      shorter = omega (arith, c.in-Some.ensures.cases.1, c.in-Ok.ensures.shorter);
    }

pub returns : goal.returns
returns c = c.loop-byte.invariant.same (subst (λ s. kept Between s ≡ s)
    (sym (nil_from_length c.loop-byte.rest.now c.in_default.ensures.cases)) nothing_kept)
