-- By whether the channel has a number: what the table promises of rows is said of names.
use Rattle.std.proofs.Common.{◌∙◌, sym, ap}
use Rattle.cf_subscribers.specs.Follows.{follows}
use Rattle.cf_subscribers.specs.Names.{name_at, number_at}
use Rattle.cf_subscribers.proofs.ByName.{follows_known, follows_unknown}
use Rattle.cf_subscribers.proofs.subscribers.Subscribers.has.Goals as goal

pub returns-in-Some : goal.returns-in-Some
returns-in-Some c =
    let ns = c.self.inside.names in
    c.has.ensures.followed
    ∙ sym (follows_known (number_at ns) (name_at ns) c.self.invariant.numbered c.args.channel.now c.self.inside.rows
    c.in-Some.number c.args.session c.self.invariant.used (sym c.number.ensures ∙ c.in-Some.is))
    ∙ ap (λ l. follows l c.args.channel.now c.args.session) c.self.view_is

pub returns-in-None : goal.returns-in-None
returns-in-None c =
    let ns = c.self.inside.names in
    sym (follows_unknown (number_at ns) (name_at ns) c.self.invariant.numbered c.args.channel.now c.self.inside.rows
    c.args.session c.self.invariant.used (sym c.number.ensures ∙ c.in-None.is))
    ∙ ap (λ l. follows l c.args.channel.now c.args.session) c.self.view_is
