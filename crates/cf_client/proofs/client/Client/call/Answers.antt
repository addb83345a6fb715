-- The lemma `called_path` has the state with one call more, and that no two answers are for one id.
use Rattle.std.proofs.Common.{sym, subst}
use Rattle.cf_client.specs.ClientCalls.{State}
use Rattle.cf_client.specs.OneAnswer.{AreApart}
use Rattle.cf_client.specs.Shown.{known_state}
use Rattle.cf_client.proofs.Apart.{called_apart}
use Rattle.cf_client.proofs.Drafting.{called_path}
use Rattle.cf_client.proofs.client.Client.call.Goals as goal

pub invariant_of-self-2 : goal.invariant_of-self-2
invariant_of-self-2 c =
    let k = c.self.inside.known in
    let next = rw (← c.self.view_is) at c.requires in
    let goes = called_path k c.push.new.self c.args.id c.in_ok-channel.channel c.args.channel.now
    c.in_ok-push.ensures.items next c.in_ok-channel.ensures.ok in
    subst (λ (s : State). AreApart s.client) (sym goes)
    (called_apart c.args.channel.now (known_state k) c.self.invariant)

pub returns-clause-ok : goal.returns-clause-ok
returns-clause-ok c =
    let next = rw (← c.self.view_is) at c.requires in
    rw (← c.self.view_is) (called_path c.self.inside.known c.push.new.self c.args.id c.in_ok-channel.channel
    c.args.channel.now c.in_ok-push.ensures.items next c.in_ok-channel.ensures.ok)
