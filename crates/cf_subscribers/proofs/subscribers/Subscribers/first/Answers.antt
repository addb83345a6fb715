-- By whether the channel has a number: what the table promises of rows is said of names.
use Rattle.std.proofs.Common.{◌∙◌, sym, ap}
use Rattle.std.specs.Prelude.{slice_get}
use Rattle.cf_subscribers.specs.Follows.{sessions_of}
use Rattle.cf_subscribers.specs.Names.{name_at, number_at}
use Rattle.cf_subscribers.proofs.ByName.{sessions_known, sessions_unknown}
use Rattle.cf_subscribers.proofs.subscribers.Subscribers.first.Goals as goal

pub returns-in_default-clause-first : goal.returns-in_default-clause-first
returns-in_default-clause-first c =
    let ns = c.self.inside.names in
    ap (λ l. slice_get l 0)
    (sym (sessions_unknown (number_at ns) (name_at ns) c.self.invariant.numbered c.args.channel.now c.self.inside.rows
    c.self.invariant.used (sym c.number.ensures ∙ c.in_default.is))
    ∙ ap (λ l. sessions_of l c.args.channel.now) c.self.view_is)

pub returns-clause-first : goal.returns-clause-first
returns-clause-first c =
    let ns = c.self.inside.names in
    c.first.ensures.first
    ∙ ap (λ l. slice_get l 0)
    (sym (sessions_known (number_at ns) (name_at ns) c.self.invariant.numbered c.args.channel.now c.self.inside.rows
    c.in-Some.number c.self.invariant.used (sym c.number.ensures ∙ c.in-Some.is))
    ∙ ap (λ l. sessions_of l c.args.channel.now) c.self.view_is)
