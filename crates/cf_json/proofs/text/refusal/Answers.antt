-- Between the quotation marks there are characters or none, as `has_characters` told; where there are some, only memory
-- is
-- left as reason.
use Rattle.std.proofs.Common.{◌≡◌, ℕ, ◌+◌, ◌-◌, List, take, drop, false, Option, Some, None, is_some, refl, sym, ap}
use Rattle.std.proofs.Common.{◌∙◌, arith}
use Rattle.std.proofs.lemmas.Bool.{true≢false}
use Rattle.cf_json.specs.Characters.{characters}
use Rattle.cf_json.proofs.Strings.{cut}
use Rattle.cf_json.proofs.text.refusal.Goals as goal

none_from : (o : Option (List ℕ)) → is_some o ≡ false → o ≡ None
none_from None h = refl
none_from (Some s) h = absurd (true≢false h)

pub overflow_sub-span : goal.overflow_sub-span
overflow_sub-span c = omega (arith, (cut c.args.text.now c.requires.0 c.args.span c.utf8.text c.requires.1).quotes)

pub slice_bounds-has_characters-count : goal.slice_bounds-has_characters-count
slice_bounds-has_characters-count c =
    omega (arith, (cut c.args.text.now c.requires.0 c.args.span c.utf8.text c.requires.1).quotes)

pub slice_bounds-has_characters-start : goal.slice_bounds-has_characters-start
slice_bounds-has_characters-start c =
    omega (arith, (cut c.args.text.now c.requires.0 c.args.span c.utf8.text c.requires.1).quotes)

pub returns-then-has_characters : goal.returns-then-has_characters
returns-then-has_characters c = λ d h none.
    let spelled =
    ap (λ b. take (c.args.span.to - 1 - (c.args.span.from + 1)) (drop (c.args.span.from + 1) b))
    c.as_bytes.ensures.value ∙ (cut c.args.text.now d c.args.span c.utf8.text h).spelling in
    true≢false (sym c.if-has_characters.true ∙ c.has_characters.ensures ∙ ap (λ t. is_some (characters t)) spelled
    ∙ ap is_some none)

pub returns-else-has_characters : goal.returns-else-has_characters
returns-else-has_characters c = (
  refl,
  λ d h.
      let spelled =
      ap (λ b. take (c.args.span.to - 1 - (c.args.span.from + 1)) (drop (c.args.span.from + 1) b))
      c.as_bytes.ensures.value ∙ (cut c.args.text.now d c.args.span c.utf8.text h).spelling in
      none_from (characters d) (sym (ap (λ t. is_some (characters t)) spelled) ∙ sym c.has_characters.ensures
      ∙ c.if-has_characters.false),
)
