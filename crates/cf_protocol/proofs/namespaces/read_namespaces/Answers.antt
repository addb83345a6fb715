-- The loop keeps that the entries are those of the parts so far, with different names.
use Rattle.std.proofs.Common.{lit<, ◌∷◌, [], subst, map}
use Rattle.std.specs.List.{AllZip}
use Rattle.std.proofs.lemmas.Result.{err_from_is_err_and}
use Rattle.std.proofs.lemmas.Iterator.Consumers.{YieldsList-so_far, YieldsList-turn, YieldsList-end}
use Rattle.std.proofs.lemmas.Iterator.Splits.{YieldsList-from_str_split}
use Rattle.std.proofs.lemmas.List.{map-append}
use Rattle.cf_protocol.specs.Settings.{named}
use Rattle.cf_protocol.specs.SettingsText.{IsNamespace}
use Rattle.cf_protocol.proofs.Entering.{namespaces, usable_entries}
use Rattle.cf_protocol.proofs.Listing.{part_at, table_more, table_of_parts, some_parts, same_table, refused_so}
use Rattle.cf_protocol.proofs.namespaces.read_namespaces.Goals as goal

pub loop-entry-preserved : goal.loop-entry-preserved
loop-entry-preserved c =
    let added = c.in_ok-add.ensures in
    let more = table_more IsNamespace (map (λ s. s.now) c.loop-entry.yielded) c.in-Some.entry.now
    (named c.loop-entry.entries.items) (named c.add.new.entries.items) added.0
    c.loop-entry.invariant.each c.loop-entry.invariant.apart added.1 added.2 added.3 in
    record { each = rw (map-append (λ s. s.now) c.loop-entry.yielded (c.in-Some.entry ∷ [])) more.0; apart = more.1 }

pub returns-in_err-add-clause-only : goal.returns-in_err-add-clause-only
returns-in_err-add-clause-only c =
    let is_split = c.into_iter-entry-iterator.ensures.into_iter_gives in
    let split = c.split-entry-items.ensures in
    let road = YieldsList-from_str_split {s = c.into_iter-entry-iterator.result} 59 c.args.text.now (lit< tt)
    (rw is_split split.text) (rw is_split split.has_more) (rw is_split split.pattern) in
    let turn = YieldsList-turn road c.loop-entry.yielded _ c.loop-entry.yielded_by _ _ c.in-Some.entry c.in-Some.is
    c.next.ensures.steps in
    let so_far = YieldsList-so_far road c.loop-entry.yielded _ c.loop-entry.yielded_by in
    let p = err_from_is_err_and c.from_residual.result c.from_residual.ensures.1 in
    rw (p.1, p.2) (λ table h.
    refused_so namespaces c.args.text.now c.in-Some.entry.now (map (λ s. s.now) c.loop-entry.yielded)
    _ (named c.loop-entry.entries.items) (named c.add.new.entries.items) c.in_err-add.field-0.0
    (part_at c.args.text.now c.in-Some.entry.now _ _ so_far turn.0 turn.1) c.loop-entry.invariant.each
    c.in_err-add.ensures table h.0 h.1)

pub invariant_of-result : goal.invariant_of-result
invariant_of-result c =
    usable_entries (map (λ s. s.now) c.loop-entry.yielded) (named c.loop-entry.entries.items)
    c.loop-entry.invariant.each

pub returns-clause-found : goal.returns-clause-found
returns-clause-found c =
    let is_split = c.into_iter-entry-iterator.ensures.into_iter_gives in
    let split = c.split-entry-items.ensures in
    let road = YieldsList-from_str_split {s = c.into_iter-entry-iterator.result} 59 c.args.text.now (lit< tt)
    (rw is_split split.text) (rw is_split split.has_more) (rw is_split split.pattern) in
    let whole = YieldsList-end road c.loop-entry.yielded _ c.loop-entry.yielded_by _ _ c.in-None.is
    c.next.ensures.steps in
    let each = subst (λ es. AllZip IsNamespace es (named c.loop-entry.entries.items)) whole.0
    c.loop-entry.invariant.each in (
      table_of_parts c.args.text.now (named c.loop-entry.entries.items) each c.loop-entry.invariant.apart,
      some_parts IsNamespace c.args.text.now (named c.loop-entry.entries.items) each,
    )

pub returns-clause-only : goal.returns-clause-only
returns-clause-only c =
    let is_split = c.into_iter-entry-iterator.ensures.into_iter_gives in
    let split = c.split-entry-items.ensures in
    let road = YieldsList-from_str_split {s = c.into_iter-entry-iterator.result} 59 c.args.text.now (lit< tt)
    (rw is_split split.text) (rw is_split split.has_more) (rw is_split split.pattern) in
    let whole = YieldsList-end road c.loop-entry.yielded _ c.loop-entry.yielded_by _ _ c.in-None.is
    c.next.ensures.steps in
    let each = subst (λ es. AllZip IsNamespace es (named c.loop-entry.entries.items)) whole.0
    c.loop-entry.invariant.each in
    λ table h. same_table namespaces c.args.text.now (named c.loop-entry.entries.items) table each h.0 h.1
