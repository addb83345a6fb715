-- An empty text is an empty table; else the loop keeps that the entries are those of the parts so far, with different
-- tokens.
use Rattle.std.proofs.Common.{lit<, sym, ap, ◌∙◌, ◌∷◌, [], subst, map}
use Rattle.std.specs.List.{AllZip}
use Rattle.std.proofs.lemmas.Result.{err_from_is_err_and}
use Rattle.std.proofs.lemmas.Iterator.Consumers.{YieldsList-so_far, YieldsList-turn, YieldsList-end}
use Rattle.std.proofs.lemmas.Iterator.Splits.{YieldsList-from_str_split}
use Rattle.std.proofs.lemmas.List.{map-append}
use Rattle.cf_protocol.specs.Settings.{in_bytes}
use Rattle.cf_protocol.specs.SettingsText.{IsTable, IsToken}
use Rattle.cf_protocol.proofs.Entering.{tokens, some_tokens, no_tokens, no_text}
use Rattle.cf_protocol.proofs.Listing.{part_at, table_more, table_of_parts, same_table, refused_so}
use Rattle.cf_protocol.proofs.tokens.read_tokens.Goals as goal

pub returns-then-is_empty-clause-found : goal.returns-then-is_empty-clause-found
returns-then-is_empty-clause-found c =
    subst (IsTable IsToken c.args.text.now) (sym (ap in_bytes c.new-entries.ensures.items))
    (no_text c.args.text.now (sym c.is_empty.ensures ∙ c.if-is_empty.true))

pub returns-then-is_empty-clause-only : goal.returns-then-is_empty-clause-only
returns-then-is_empty-clause-only c = λ table h.
    ap in_bytes c.new-entries.ensures.items ∙ no_tokens c.args.text.now table
    (sym c.is_empty.ensures ∙ c.if-is_empty.true) h

pub loop-entry-preserved : goal.loop-entry-preserved
loop-entry-preserved c =
    let added = c.in_ok-add.ensures in
    let more = table_more IsToken (map (λ s. s.now) c.loop-entry.yielded) c.in-Some.entry.now
    (in_bytes c.loop-entry.entries.items) (in_bytes c.add.new.entries.items) added.0
    c.loop-entry.invariant.each c.loop-entry.invariant.apart added.1 added.2 added.3 in
    record { each = rw (map-append (λ s. s.now) c.loop-entry.yielded (c.in-Some.entry ∷ [])) more.0; apart = more.1 }

pub returns-in_err-add-clause-only : goal.returns-in_err-add-clause-only
returns-in_err-add-clause-only c =
    let is_split = c.into_iter-entry-iterator.ensures.into_iter_gives in
    let split = c.split-entry-items.ensures in
    let road = YieldsList-from_str_split {s = c.into_iter-entry-iterator.result} 59 c.args.text.now (lit< tt)
    (rw is_split split.text) (rw is_split split.has_more) (rw is_split split.pattern) in
    let turn = YieldsList-turn road c.loop-entry.yielded _ c.loop-entry.yielded_by _ _ c.in-Some.entry c.in-Some.is
    c.next.ensures.steps in
    let so_far = YieldsList-so_far road c.loop-entry.yielded _ c.loop-entry.yielded_by in
    let p = err_from_is_err_and c.from_residual.result c.from_residual.ensures.1 in
    rw (p.1, p.2) (λ table h.
    refused_so tokens c.args.text.now c.in-Some.entry.now (map (λ s. s.now) c.loop-entry.yielded)
    _ (in_bytes c.loop-entry.entries.items) (in_bytes c.add.new.entries.items) c.in_err-add.field-0.0
    (part_at c.args.text.now c.in-Some.entry.now _ _ so_far turn.0 turn.1) c.loop-entry.invariant.each
    c.in_err-add.ensures table h (some_tokens c.args.text.now table (sym c.is_empty.ensures ∙ c.if-is_empty.false)
    h))

pub returns-clause-found : goal.returns-clause-found
returns-clause-found c =
    let is_split = c.into_iter-entry-iterator.ensures.into_iter_gives in
    let split = c.split-entry-items.ensures in
    let road = YieldsList-from_str_split {s = c.into_iter-entry-iterator.result} 59 c.args.text.now (lit< tt)
    (rw is_split split.text) (rw is_split split.has_more) (rw is_split split.pattern) in
    let whole = YieldsList-end road c.loop-entry.yielded _ c.loop-entry.yielded_by _ _ c.in-None.is
    c.next.ensures.steps in
    let each = subst (λ es. AllZip IsToken es (in_bytes c.loop-entry.entries.items)) whole.0
    c.loop-entry.invariant.each in
    table_of_parts c.args.text.now (in_bytes c.loop-entry.entries.items) each c.loop-entry.invariant.apart

pub returns-clause-only : goal.returns-clause-only
returns-clause-only c =
    let is_split = c.into_iter-entry-iterator.ensures.into_iter_gives in
    let split = c.split-entry-items.ensures in
    let road = YieldsList-from_str_split {s = c.into_iter-entry-iterator.result} 59 c.args.text.now (lit< tt)
    (rw is_split split.text) (rw is_split split.has_more) (rw is_split split.pattern) in
    let whole = YieldsList-end road c.loop-entry.yielded _ c.loop-entry.yielded_by _ _ c.in-None.is
    c.next.ensures.steps in
    let each = subst (λ es. AllZip IsToken es (in_bytes c.loop-entry.entries.items)) whole.0
    c.loop-entry.invariant.each in
    λ table h. same_table tokens c.args.text.now (in_bytes c.loop-entry.entries.items) table each h
    (some_tokens c.args.text.now table (sym c.is_empty.ensures ∙ c.if-is_empty.false) h)
