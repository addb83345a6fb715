-- The loop keeps that there are as many links as senders so far.
use Rattle.std.proofs.Common.{◌∙◌, ap, arith, length}
use Rattle.std.proofs.lemmas.List.{length_push}
use Rattle.cf_broker.proofs.broker.locked.Goals as goal

pub loop-sender-preserved : goal.loop-sender-preserved
loop-sender-preserved g c =
    let pushed = ap length c.in_ok-push.ensures.items ∙ length_push c.loop-sender.links.items _ in
    let gone = length_push c.loop-sender.yielded c.in-Some.sender in
    omega (arith, pushed, gone, c.loop-sender.invariant)
