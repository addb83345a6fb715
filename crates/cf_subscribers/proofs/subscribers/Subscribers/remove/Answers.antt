-- By whether the channel has a number: what the table promises of rows is said of names.
use Rattle.std.proofs.Common.{◌∙◌, ◌&&◌, ◌==◌, sym, ap, not}
use Rattle.std.specs.Prelude.{unwrap_or, []}
use Rattle.cf_subscribers.specs.Follows.{follow, follows, without_follow}
use Rattle.cf_subscribers.specs.Names.{name_at, number_at}
use Rattle.cf_subscribers.proofs.ByName.{follows_known, follows_unknown, without_known, without_unknown}
use Rattle.cf_subscribers.proofs.Keeping.{AreFollows-fewer}
use Rattle.cf_subscribers.proofs.subscribers.Subscribers.remove.Goals as goal

pub returns-in-Some-clause-rows : goal.returns-in-Some-clause-rows
returns-in-Some-clause-rows c =
    rw c.remove_row.ensures.removed
    (AreFollows-fewer (λ r. follow (unwrap_or (name_at c.self.inside.names r.channel) []) r.session)
    (λ r. not ((r.channel == c.in-Some.number) && (r.session == c.args.session))) c.self.inside.rows
    c.self.invariant.follows)

pub invariant_of-self : goal.invariant_of-self
invariant_of-self c =
    record {
      numbered = c.remove_row.ensures.numbered;
      used = c.remove_row.ensures.used;
      follows = returns-in-Some-clause-rows c;
    }

pub returns-in-Some-clause-removed : goal.returns-in-Some-clause-removed
returns-in-Some-clause-removed c =
    let ns = c.self.inside.names in
    c.remove_row.ensures.removed
    ∙ sym (without_known (number_at ns) (name_at ns) c.self.invariant.numbered c.args.channel.now c.self.inside.rows
    c.in-Some.number c.args.session c.self.invariant.used (sym c.number.ensures ∙ c.in-Some.is))
    ∙ ap (λ l. without_follow l c.args.channel.now c.args.session) c.self.view_is

pub returns-in-Some-clause-found : goal.returns-in-Some-clause-found
returns-in-Some-clause-found c =
    let ns = c.self.inside.names in
    c.remove_row.ensures.found
    ∙ sym (follows_known (number_at ns) (name_at ns) c.self.invariant.numbered c.args.channel.now c.self.inside.rows
    c.in-Some.number c.args.session c.self.invariant.used (sym c.number.ensures ∙ c.in-Some.is))
    ∙ ap (λ l. follows l c.args.channel.now c.args.session) c.self.view_is

pub returns-in-None-clause-removed : goal.returns-in-None-clause-removed
returns-in-None-clause-removed c =
    let ns = c.self.inside.names in
    sym c.self.view_is
    ∙ sym (without_unknown (number_at ns) (name_at ns) c.self.invariant.numbered c.args.channel.now c.self.inside.rows
    c.args.session c.self.invariant.used (sym c.number.ensures ∙ c.in-None.is))
    ∙ ap (λ l. without_follow l c.args.channel.now c.args.session) c.self.view_is

pub returns-in-None-clause-found : goal.returns-in-None-clause-found
returns-in-None-clause-found c =
    let ns = c.self.inside.names in
    sym (follows_unknown (number_at ns) (name_at ns) c.self.invariant.numbered c.args.channel.now c.self.inside.rows
    c.args.session c.self.invariant.used (sym c.number.ensures ∙ c.in-None.is))
    ∙ ap (λ l. follows l c.args.channel.now c.args.session) c.self.view_is
