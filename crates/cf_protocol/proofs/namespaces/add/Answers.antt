-- An entry that can't be read, or whose name stands already, is refused as the definition does; else it is pushed
-- behind the
-- others.
use Rattle.std.proofs.Common.{sym, ap, ◌∙◌, ◌∷◌, [], ◌++◌, subst, ◌≡◌}
use Rattle.std.specs.Prelude.{None}
use Rattle.std.specs.String.{string_bytes}
use Rattle.std.proofs.lemmas.List.{map-append}
use Rattle.cf_protocol.specs.Settings.{named, entry_at}
use Rattle.cf_protocol.specs.SettingsText.{IsNamespace}
use Rattle.cf_protocol.proofs.Entering.{one_namespace}
use Rattle.cf_protocol.proofs.Listing.{stands, stands_not, pushed}
use Rattle.cf_protocol.proofs.namespaces.add.Goals as goal

pub returns-in_default : goal.returns-in_default
returns-in_default c = λ e h fresh. c.in_default.ensures e h

pub returns-then-is_some : goal.returns-then-is_some
returns-then-is_some c = λ e h fresh.
    let same = one_namespace c.args.text.now e (c.in-Some.name.now, c.in-Some.settings) h c.in-Some.ensures in
    stands c.value_of.result (entry_at (named c.args.entries.now.items) c.in-Some.name.now) c.value_of.ensures
    (sym c.if-is_some.ensures)
    (subst (λ f. entry_at (named c.args.entries.now.items) f.0 ≡ None) same fresh)

pub returns : goal.returns
returns c =
    let old = c.args.entries.now.items in
    let new = c.push.new.self.items in
    let name = c.in_ok-name.name in
    let settings = c.in-Some.settings in
    pushed IsNamespace c.args.text.now (named old) (named new) (c.in-Some.name.now, settings) c.push.result
    c.map_err.result _ new _ _ c.map_err.ensures.cases (λ _ _ is. is) c.push.ensures.items
    (λ more.
    ap named more
    ∙ map-append (λ e. (string_bytes e.0, e.1)) old ((name, settings) ∷ [])
    ∙ ap (λ n. named old ++ (n, settings) ∷ []) c.in_ok-name.ensures.ok)
    c.in-Some.ensures (stands_not c.value_of.result (entry_at (named old) c.in-Some.name.now) c.value_of.ensures
    (sym c.if-is_some.ensures))
