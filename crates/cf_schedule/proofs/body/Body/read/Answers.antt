-- The text is scanned, its depth looked at, and what `compact` leaves of it is read back as the same value.
use Rattle.std.proofs.Common.{◌≡◌, ◌≤◌, ℕ, [], arith, sym, subst, ◌∙◌, Ok}
use Rattle.cf_json.specs.Spans.{Span, Document}
use Rattle.cf_schedule.proofs.Data.{document_is_at}
use Rattle.cf_json.specs.Grammar.{Tree, Value}
use Rattle.cf_json.specs.Compact.{compact_text}
use Rattle.std.specs.String.{string_bytes}
use Rattle.std.proofs.lemmas.List.{append-nil}
use Rattle.cf_schedule.specs.ScheduleLine.{max_data_depth}
use Rattle.cf_schedule.proofs.body.Body.read.Goals as goal

pub returns-then-depth-gt-MAX_BODY_DEPTH-clause-err : goal.returns-then-depth-gt-MAX_BODY_DEPTH-clause-err
returns-then-depth-gt-MAX_BODY_DEPTH-clause-err c = λ body d.
    let s = c.args.text.now in
    let is : Ok c.in-Ok.span ≡ Ok d.1 = sym c.in-Ok.is ∙ c.scan.ensures.only d.0 d.1 d.2 (omega (arith, d.3)) in
    let same : d.1 ≡ c.in-Ok.span = cc in
    let there : Document s d.0 c.in-Ok.span = subst (λ (p : Span). Document s d.0 p) same d.2 in
    let at = document_is_at s d.0 c.in-Ok.span there (omega (arith, d.3)) in
    omega (arith, d.3, c.depth.ensures d.0 at)

pub invariant_of-result : goal.invariant_of-result
invariant_of-result c =
    let found = c.in-Ok.ensures.found in
    let t : Tree = found.0 in
    let regular = c.compact_reads_back.ensures.regular t _ _ found.2.value in
    let text : string_bytes c.in-Ok-compact.text ≡ compact_text t = c.in-Ok-compact.ensures.ok t found.2 in (
      t,
      record {
        value = subst (λ v. Value t v []) (append-nil (compact_text t) ∙ sym text)
            (c.compact_reads_back.ensures.back t [] regular);
        compact = sym text;
        shallow = subst (λ (n : ℕ). n ≤ max_data_depth) (c.depth.ensures t found.2) c.if-depth-gt-MAX_BODY_DEPTH.false;
      },
    )

pub returns-in-Ok-compact-clause-ok : goal.returns-in-Ok-compact-clause-ok
returns-in-Ok-compact-clause-ok c =
    let found = c.in-Ok.ensures.found in
    let shallow =
    subst (λ (n : ℕ). n ≤ max_data_depth) (c.depth.ensures found.0 found.2) c.if-depth-gt-MAX_BODY_DEPTH.false in
    (found.0, c.in-Ok.span, found.1, shallow, c.in-Ok-compact.ensures.ok found.0 found.2)
