-- The loop keeps that the spans found are all values before the rest (`Head`); an end and a fault follow from that.
use Rattle.std.proofs.Common.{◌≡◌, ◌≢◌, ◌∷◌, [], List, ℕ, ◌-◌, ◌++◌, length, sym, ap, ◌∙◌, subst, eqb-true}
use Rattle.std.proofs.lemmas.Bool.{eqb-false}
use Rattle.std.proofs.lemmas.List.{nil_from_length}
use Rattle.cf_json.specs.Reading.{after_space}
use Rattle.cf_json.specs.Spans.{Span}
use Rattle.cf_json.specs.Stops.{fault_of}
use Rattle.cf_json.proofs.Frames.{Head, head_first, one_value_more, frame_done, frame_only, head_on}
use Rattle.cf_json.proofs.DeepFrames.{frame_refused}
use Rattle.cf_json.proofs.frame.split_frame.Goals as goal

-- the spans found, with one more
abbrev more : List ℕ → List Span → List ℕ → List ℕ → List Span
more all found rest after = found ++ record { from = length all - length rest; to = length all - length after } ∷ []

pub values-init : goal.values-init
values-init c =
    let rest = c.after_space-rest.ensures.same ∙ ap after_space c.as_bytes-bytes.ensures.value in
    subst (Head c.args.text.now c.after_space-rest.result.now) (sym c.new-found.ensures.items)
    (head_first c.args.text.now c.after_space-rest.result.now rest)

pub returns-in-Err-clause-faults : goal.returns-in-Err-clause-faults
returns-in-Err-clause-faults c =
    let refused =
    frame_refused c.args.text.now c.values.rest.now c.values.found.items c.values.invariant c.in-Err.stop
    (sym c.in-Err.ensures.same) in
    let place = c.fault_of.ensures ∙ ap (λ (u : List ℕ). fault_of (length u) c.in-Err.stop)
    c.as_bytes-bytes.ensures.value in
    rw place refused

pub returns-then-is_empty-clause-found : goal.returns-then-is_empty-clause-found
returns-then-is_empty-clause-found c =
    let all = c.args.text.now in let l = c.values in let after = c.in-Ok.after.now in
    let n = one_value_more all l.rest.now after l.found.items l.invariant (sym c.in-Ok.ensures.same) in
    let pushed : c.push.new.self.items ≡ more all l.found.items l.rest.now after =
    c.in_ok-push.ensures.items ∙ ap (λ u. more u l.found.items l.rest.now after) c.as_bytes-bytes.ensures.value in
    let last = sym c.after_space-rest-in-values.ensures.same
    ∙ nil_from_length c.after_space-rest-in-values.result.now
    (eqb-true _ _ (sym c.is_empty.ensures ∙ c.if-is_empty.true)) in
    rw pushed (frame_done all after (more all l.found.items l.rest.now after) n.0 n.1 last)

pub returns-then-is_empty-clause-only : goal.returns-then-is_empty-clause-only
returns-then-is_empty-clause-only c =
    let all = c.args.text.now in let l = c.values in let after = c.in-Ok.after.now in
    let n = one_value_more all l.rest.now after l.found.items l.invariant (sym c.in-Ok.ensures.same) in
    let pushed : c.push.new.self.items ≡ more all l.found.items l.rest.now after =
    c.in_ok-push.ensures.items ∙ ap (λ u. more u l.found.items l.rest.now after) c.as_bytes-bytes.ensures.value in
    let last = sym c.after_space-rest-in-values.ensures.same
    ∙ nil_from_length c.after_space-rest-in-values.result.now
    (eqb-true _ _ (sym c.is_empty.ensures ∙ c.if-is_empty.true)) in
    rw pushed (frame_only all after (more all l.found.items l.rest.now after) n.0 last)

pub values-preserved : goal.values-preserved
values-preserved c =
    let all = c.args.text.now in let l = c.values in let after = c.in-Ok.after.now in
    let left = c.after_space-rest-in-values in
    let n = one_value_more all l.rest.now after l.found.items l.invariant (sym c.in-Ok.ensures.same) in
    let pushed : c.push.new.self.items ≡ more all l.found.items l.rest.now after =
    c.in_ok-push.ensures.items ∙ ap (λ u. more u l.found.items l.rest.now after) c.as_bytes-bytes.ensures.value in
    let some : left.result.now ≢ [] = λ e. eqb-false _ _ (sym c.is_empty.ensures ∙ c.if-is_empty.false) (ap length e) in
    subst (Head all left.result.now) (sym pushed)
    (head_on all after (more all l.found.items l.rest.now after) n.0 left.result.now left.ensures.same some n.2)
