-- By the request's variant; the callees' clauses, of a publish and of a subscribe, are rewritten by it.
use Rattle.std.proofs.Common.{IfOk, subst, sym}
use Rattle.cf_protocol.specs.Shown.{shown_request}
use Rattle.cf_session.specs.CommandScripts.{granted}
use Rattle.cf_session.specs.Standing.{rest_of, Begins}
use Rattle.cf_session.proofs.session.Session.grant.Goals as goal

pub returns-in-Publish-clause-acts : goal.returns-in-Publish-clause-acts
returns-in-Publish-clause-acts c who is =
    let s = c.args.self.now in
    subst (λ request. IfOk c.publish.result (λ r. Begins s (granted who c.args.id (shown_request request) (rest_of s)) r
    c.publish.new.self)) (sym c.in-Publish.is) (c.publish.ensures.acts who is)

pub returns-in-Subscribe-clause-acts : goal.returns-in-Subscribe-clause-acts
returns-in-Subscribe-clause-acts c who is =
    let s = c.args.self.now in
    subst (λ request. IfOk c.begin.result (λ r. Begins s (granted who c.args.id (shown_request request) (rest_of s)) r
    c.begin.new.self)) (sym c.in-Subscribe.is) (c.begin.ensures.acts who)
