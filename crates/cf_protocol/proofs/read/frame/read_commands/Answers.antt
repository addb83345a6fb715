-- The loop keeps that the values so far are read as commands; the one that isn't is told.
use Rattle.std.proofs.Common.{◌≡◌, [], ◌∷◌, List, Some, map, refl, sym, ◌∙◌, arith, Vec, Global}
use Rattle.std.proofs.lemmas.List.{map-append}
use Rattle.std.proofs.lemmas.Result.{err_from_is_err_and}
use Rattle.cf_json.specs.Grammar.{Tree}
use Rattle.cf_json.specs.Frame.{IsFrame}
use Rattle.cf_json.specs.Spans.{IsAt}
use Rattle.cf_protocol.specs.declared.command.Command.{Command as CodeCommand}
use Rattle.cf_protocol.specs.Command.{command_of}
use Rattle.cf_protocol.specs.Fields.{read_all}
use Rattle.cf_protocol.specs.Reading.{Stand}
use Rattle.cf_protocol.specs.Shown.{shown_command}
use Rattle.cf_protocol.proofs.Frames.{is_frame, only_frame, no_frame, no_values, stopped}
use Rattle.cf_protocol.proofs.ItemsRead.{beside, zip_length, read_goes_on, read_stops, read_ends}
use Rattle.cf_protocol.proofs.read.frame.read_commands.Goals as goal

pub returns-in_err-spans-clause-bad : goal.returns-in_err-spans-clause-bad
returns-in_err-spans-clause-bad c =
    let p = err_from_is_err_and c.from_residual.result c.from_residual.ensures.1 in
    rw p.1 (λ e ks. no_frame (read_all command_of) c.args.text.now c.in_err-spans.field-0.0 ks
    c.in_err-spans.ensures.faults (sym p.2 ∙ e))

pub read_command-requires : goal.read_command-requires
read_command-requires c =
    let text = c.args.text.now in
    let found = c.in_ok-spans.ensures.found in
    let at = beside (λ s t. IsAt text t s) c.deref-span-items.result.now found.0 c.loop-span.span-index
    _ (record { from = 0; to = 0 }) (rw c.deref-span-items.ensures.value found.5) c.loop-span-test.true refl in
    (at.item, at.is)

pub returns-in_err-command-clause-bad : goal.returns-in_err-command-clause-bad
returns-in_err-command-clause-bad c =
    let text = c.args.text.now in
    let spans = c.deref-span-items.result.now in
    let stands : (ts : List Tree) → IsFrame text ts → Stand text spans ts =
    λ ts h. rw c.deref-span-items.ensures.value (c.in_ok-spans.ensures.only ts h) in
    let shown = λ (v : Vec CodeCommand Global). map shown_command v.items in
    let e = c.in_err-command.field-0.0 in
    let stops = λ (ts : List Tree) (stand : Stand text spans ts).
    let at = beside (λ s t. IsAt text t s) spans ts c.loop-span.span-index _ (record { from = 0; to = 0 }) stand
    c.loop-span-test.true refl in
    stopped shown_command shown e (command_of at.item) (read_all command_of ts) (c.in_err-command.ensures at.item at.is)
    (read_stops command_of ts c.loop-span.span-index (map shown_command c.loop-span.commands.items) at.item
    (c.loop-span.invariant ts stand) at.at) in
    let p = err_from_is_err_and c.from_residual-in_err-command.result c.from_residual-in_err-command.ensures.1 in
    rw p.1 (λ is ks. no_values (read_all command_of) shown text spans e ks stands stops (sym p.2 ∙ is))

pub loop-span-preserved : goal.loop-span-preserved
loop-span-preserved c ts stand =
    let text = c.args.text.now in
    let at = beside (λ s t. IsAt text t s) c.deref-span-items.result.now ts c.loop-span.span-index
    _ (record { from = 0; to = 0 }) stand c.loop-span-test.true refl in
    let shown = map shown_command c.loop-span.commands.items in
    let more = read_goes_on command_of ts c.loop-span.span-index shown at.item (shown_command c.in_ok-command.command)
    (c.loop-span.invariant ts stand) at.at (c.in_ok-command.ensures at.item at.is) in
    rw (c.in_ok-push.ensures.items, map-append shown_command c.loop-span.commands.items (c.in_ok-command.command ∷ []))
    more

pub returns-clause-found : goal.returns-clause-found
returns-clause-found c =
    let text = c.args.text.now in
    let spans = c.deref-span-items.result.now in
    let found = c.in_ok-spans.ensures.found in
    let shown = map shown_command c.loop-span.commands.items in
    let stand : Stand text spans found.0 = rw c.deref-span-items.ensures.value found.5 in
    let same = zip_length (λ s t. IsAt text t s) spans found.0 stand in
    is_frame (read_all command_of) text c.in_ok-spans.spans.items found.0 shown (found.2, found.1, found.3) found.5
    (read_ends command_of found.0 c.loop-span.span-index shown (c.loop-span.invariant found.0 stand) (omega arith))

pub returns-clause-only : goal.returns-clause-only
returns-clause-only c ks =
    let text = c.args.text.now in
    let spans = c.deref-span-items.result.now in
    let shown = map shown_command c.loop-span.commands.items in
    let stands : (ts : List Tree) → IsFrame text ts → Stand text spans ts =
    λ ts h. rw c.deref-span-items.ensures.value (c.in_ok-spans.ensures.only ts h) in
    let reads : (ts : List Tree) → Stand text spans ts → read_all command_of ts ≡ Some shown = λ ts stand.
    let same = zip_length (λ s t. IsAt text t s) spans ts stand in
    read_ends command_of ts c.loop-span.span-index shown (c.loop-span.invariant ts stand) (omega arith) in
    only_frame (read_all command_of) text spans shown ks stands reads
