-- The settings found are those of the entry at the name, and usable, since all entries are by the invariant.
use Rattle.std.proofs.Common.{◌∙◌, ap}
use Rattle.cf_protocol.specs.Settings.{IsUsable, named, entry_at, settings_of}
use Rattle.cf_protocol.proofs.Tables.{entry_at-All}
use Rattle.cf_protocol.proofs.namespaces.Namespaces.find.Goals as goal

pub returns-clause-found : goal.returns-clause-found
returns-clause-found c =
    let table = named c.self.inside.entries.items in
    c.copied.ensures ∙ c.value_of.ensures ∙ ap (entry_at table) c.namespace_of.ensures
    ∙ ap (λ t. settings_of t c.args.channel.now) c.self.view_is

pub returns-clause-usable : goal.returns-clause-usable
returns-clause-usable c =
    let table = named c.self.inside.entries.items in
    rw (c.copied.ensures, c.value_of.ensures) (entry_at-All IsUsable table c.namespace_of.result.now c.self.invariant)
