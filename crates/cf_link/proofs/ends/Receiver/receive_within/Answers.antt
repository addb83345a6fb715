-- One item more was received, behind those of before.
use Rattle.std.proofs.Common.{◌++◌, ◌∷◌, [], ap, ◌∙◌}
use Rattle.cf_link.proofs.ends.Receiver.receive_within.Goals as goal

pub returns-in-Some-receive-clause-received : goal.returns-in-Some-receive-clause-received
returns-in-Some-receive-clause-received g c =
    c.in-Some-receive.ensures.received ∙ ap (λ items. items ++ c.in-Some-receive.item ∷ [])
    c.in_default.ensures.received
