-- The first loop keeps what a skip of blanks from the front leaves, the second one what that from the back does.
use Rattle.std.proofs.Common.{◌≡◌, List, ℕ, length, reverse, slice_range, sym, ap, ◌∙◌, refl, arith}
use Rattle.std.proofs.lemmas.List.{reverse-reverse}
use Rattle.std.proofs.lemmas.Slice.{between_to_end}
use Rattle.httparse.specs.Grammar.{skip_ows, trim_ows}
use Rattle.httparse.proofs.TrimLemmas.{skip_ows_yes, skip_ows_no, slice_first, slice_last, slice_empty}
use Rattle.cf_handshake.proofs.lines.trimmed.Goals.{then-loop-start-test+else-is_space_or_tab, else-loop-start-test}
use Rattle.cf_handshake.proofs.lines.trimmed.Goals.{then-loop-end-test+else-is_space_or_tab-2, else-loop-end-test}
use Rattle.cf_handshake.proofs.lines.trimmed.Goals as goal

pub loop-start-init : goal.loop-start-init
loop-start-init c =
    let whole = between_to_end c.args.bytes.now 0 (length c.args.bytes.now) (omega arith) in
    (omega arith, refl, ap skip_ows (sym whole))

pub loop-start-preserved : goal.loop-start-preserved
loop-start-preserved c = (
  omega arith,
  c.loop-start.invariant.1,
  c.loop-start.invariant.2 ∙ skip_ows_yes (slice_first _ _ _ c.loop-start-test.true (omega arith))
      c.if-is_space_or_tab.ensures,
)

pub loop-end-init : goal.loop-end-init
unfolding trim_ows
loop-end-init c =
    let here = slice_range c.args.bytes.now c.loop-start.start (length c.args.bytes.now) in
    let stays : skip_ows here ≡ here =
    elim c.loop-start-test.branch [
      | then-loop-start-test+else-is_space_or_tab w ↦
          skip_ows_no (slice_first _ _ _ w.loop-start-test.true (omega arith)) w.if-is_space_or_tab.ensures
      | else-loop-start-test w ↦
          let empty = slice_empty c.args.bytes.now c.loop-start.start (length c.args.bytes.now) (omega arith)
          (omega arith) in
          ap skip_ows empty ∙ sym empty
    ] in (
      omega arith,
      omega arith,
      ap (λ (t : List ℕ). reverse (skip_ows (reverse t))) (c.loop-start.invariant.2 ∙ stays),
    )

pub loop-end-preserved : goal.loop-end-preserved
loop-end-preserved c =
    let last = slice_last c.args.bytes.now _ _ c.loop-end-test.true (omega arith) in (
      omega arith,
      omega arith,
      c.loop-end.invariant.2 ∙ ap reverse (skip_ows_yes last c.if-is_space_or_tab-2.ensures),
    )

pub returns : goal.returns
returns c =
    elim c.loop-end-test.branch [
      | then-loop-end-test+else-is_space_or_tab-2 w ↦
          let last = slice_last c.args.bytes.now _ _ w.loop-end-test.true (omega arith) in
          sym (c.loop-end.invariant.2 ∙ ap reverse (skip_ows_no last w.if-is_space_or_tab-2.ensures)
          ∙ reverse-reverse _)
      | else-loop-end-test w ↦
          let empty = slice_empty c.args.bytes.now c.loop-start.start c.loop-end.end (omega arith) (omega arith) in
          empty ∙ sym (c.loop-end.invariant.2 ∙ ap (λ (t : List ℕ). reverse (skip_ows (reverse t))) empty)
    ]
