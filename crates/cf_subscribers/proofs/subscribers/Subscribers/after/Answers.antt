-- By whether the channel has a number: what the table promises of rows is said of names.
use Rattle.std.proofs.Common.{◌∙◌, sym, ap}
use Rattle.cf_subs.specs.Rows as rows
use Rattle.cf_subscribers.specs.Follows.{after_in, sessions_of}
use Rattle.cf_subscribers.specs.Names.{name_at, number_at}
use Rattle.cf_subscribers.proofs.ByName.{after_same, sessions_known, sessions_unknown}
use Rattle.cf_subscribers.proofs.subscribers.Subscribers.after.Goals as goal

pub returns-in_default-clause-next : goal.returns-in_default-clause-next
returns-in_default-clause-next c =
    let ns = c.self.inside.names in
    ap (after_in c.args.session)
    (sym (sessions_unknown (number_at ns) (name_at ns) c.self.invariant.numbered c.args.channel.now c.self.inside.rows
    c.self.invariant.used (sym c.number.ensures ∙ c.in_default.is))
    ∙ ap (λ l. sessions_of l c.args.channel.now) c.self.view_is)

pub returns-clause-next : goal.returns-clause-next
returns-clause-next c =
    let ns = c.self.inside.names in
    c.after.ensures.next
    ∙ after_same c.args.session (rows.sessions_of c.self.inside.rows c.in-Some.number)
    ∙ ap (after_in c.args.session)
    (sym (sessions_known (number_at ns) (name_at ns) c.self.invariant.numbered c.args.channel.now c.self.inside.rows
    c.in-Some.number c.self.invariant.used (sym c.number.ensures ∙ c.in-Some.is))
    ∙ ap (λ l. sessions_of l c.args.channel.now) c.self.view_is)
