-- The loop keeps that the values so far are read as replies; the one that isn't is told.
use Rattle.std.proofs.Common.{◌≡◌, List, Some, map, refl, sym, ◌∙◌, arith, Vec, Global}
use Rattle.std.proofs.lemmas.Result.{err_from_is_err_and}
use Rattle.cf_json.specs.Grammar.{Tree}
use Rattle.cf_json.specs.Frame.{IsFrame}
use Rattle.cf_json.specs.Spans.{IsAt}
use Rattle.cf_protocol.specs.declared.outgoing.Outgoing.{Outgoing as CodeOutgoing}
use Rattle.cf_protocol.specs.Frame.{all_outgoing_in}
use Rattle.cf_protocol.specs.Reading.{Stand}
use Rattle.cf_protocol.specs.Reply.{outgoing_in}
use Rattle.cf_protocol.specs.Shown.{shown_outgoing, told}
use Rattle.cf_protocol.proofs.Frames.{is_frame, only_frame, no_frame, no_values, stopped}
use Rattle.cf_protocol.proofs.ItemsRead.{beside, zip_length}
use Rattle.cf_protocol.proofs.Replies.{told_reply, told_nothing, told_stops, told_all}
use Rattle.cf_protocol.proofs.read.frame.read_replies.Goals as goal
use Rattle.cf_protocol.proofs.read.frame.read_replies.Goals.{in-Some+in_ok-push, in_default}

pub returns-in_err-spans-clause-bad : goal.returns-in_err-spans-clause-bad
returns-in_err-spans-clause-bad c =
    let p = err_from_is_err_and c.from_residual.result c.from_residual.ensures.1 in
    rw p.1 (λ e os. no_frame all_outgoing_in c.args.text.now c.in_err-spans.field-0.0 os c.in_err-spans.ensures.faults
    (sym p.2 ∙ e))

pub read_outgoing-requires : goal.read_outgoing-requires
read_outgoing-requires c =
    let text = c.args.text.now in
    let found = c.in_ok-spans.ensures.found in
    let at = beside (λ s t. IsAt text t s) c.deref-span-items.result.now found.0 c.loop-span.span-index
    _ (record { from = 0; to = 0 }) (rw c.deref-span-items.ensures.value found.5) c.loop-span-test.true refl in
    (at.item, at.is)

pub returns-in_err-read-clause-bad : goal.returns-in_err-read-clause-bad
returns-in_err-read-clause-bad c =
    let text = c.args.text.now in
    let spans = c.deref-span-items.result.now in
    let stands : (ts : List Tree) → IsFrame text ts → Stand text spans ts =
    λ ts h. rw c.deref-span-items.ensures.value (c.in_ok-spans.ensures.only ts h) in
    let shown = λ (v : Vec CodeOutgoing Global). map shown_outgoing v.items in
    let e = c.in_err-read.field-0.0 in
    let stops = λ (ts : List Tree) (stand : Stand text spans ts).
    let at = beside (λ s t. IsAt text t s) spans ts c.loop-span.span-index _ (record { from = 0; to = 0 }) stand
    c.loop-span-test.true refl in
    stopped told shown e (outgoing_in at.item) (all_outgoing_in ts) (c.in_err-read.ensures at.item at.is)
    (told_stops ts c.loop-span.span-index c.loop-span.replies.items at.item (c.loop-span.invariant ts stand) at.at) in
    let p = err_from_is_err_and c.from_residual-in_err-read.result c.from_residual-in_err-read.ensures.1 in
    rw p.1 (λ is os. no_values all_outgoing_in shown text spans e os stands stops (sym p.2 ∙ is))

pub loop-span-preserved : goal.loop-span-preserved
loop-span-preserved c ts stand =
    let text = c.args.text.now in
    let at = beside (λ s t. IsAt text t s) c.deref-span-items.result.now ts c.loop-span.span-index
    _ (record { from = 0; to = 0 }) stand c.loop-span-test.true refl in
    let invariant = c.loop-span.invariant ts stand in
    let is = c.in_ok-read.ensures at.item at.is in
    elim c.match-read.branch [
      | in-Some+in_ok-push w ↦
          let more = told_reply ts c.loop-span.span-index c.loop-span.replies.items at.item c.in_ok-read.read
          _ invariant at.at is w.in-Some.is in
          rw (w.replies-is, w.in_ok-push.ensures.items) more
      | in_default w ↦
          let more = told_nothing ts c.loop-span.span-index c.loop-span.replies.items at.item c.in_ok-read.read
          invariant at.at is w.in_default.is in
          rw w.replies-is more
    ]

pub returns-clause-found : goal.returns-clause-found
returns-clause-found c =
    let text = c.args.text.now in
    let spans = c.deref-span-items.result.now in
    let found = c.in_ok-spans.ensures.found in
    let stand : Stand text spans found.0 = rw c.deref-span-items.ensures.value found.5 in
    let same = zip_length (λ s t. IsAt text t s) spans found.0 stand in
    is_frame all_outgoing_in text c.in_ok-spans.spans.items found.0 (map shown_outgoing c.loop-span.replies.items)
    (found.2, found.1, found.3) found.5
    (told_all found.0 c.loop-span.span-index c.loop-span.replies.items (c.loop-span.invariant found.0 stand)
    (omega arith))

pub returns-clause-only : goal.returns-clause-only
returns-clause-only c os =
    let text = c.args.text.now in
    let spans = c.deref-span-items.result.now in
    let shown = map shown_outgoing c.loop-span.replies.items in
    let stands : (ts : List Tree) → IsFrame text ts → Stand text spans ts =
    λ ts h. rw c.deref-span-items.ensures.value (c.in_ok-spans.ensures.only ts h) in
    let reads : (ts : List Tree) → Stand text spans ts → all_outgoing_in ts ≡ Some shown = λ ts stand.
    let same = zip_length (λ s t. IsAt text t s) spans ts stand in
    told_all ts c.loop-span.span-index c.loop-span.replies.items (c.loop-span.invariant ts stand) (omega arith) in
    only_frame all_outgoing_in text spans shown os stands reads
