-- What is given passed three tests, each of which compares one part of it.
use Rattle.std.proofs.Common.{◌∙◌, Some, ap, sym}
use Rattle.cf_node.proofs.Comparing.{same_numbers, same_positions, same_texts}
use Rattle.cf_node.proofs.attached_client.AttachedClient.take_begun.Goals as goal

pub returns-then-is_from-clause-channel : goal.returns-then-is_from-clause-channel
returns-then-is_from-clause-channel g c =
    sym c.channel.ensures
    ∙ same_texts c.eq-is_there.result c.channel.result.now c.args.channel.now c.eq-is_there.ensures c.if-is_there.true

pub returns-then-is_from-clause-own : goal.returns-then-is_from-clause-own
returns-then-is_from-clause-own g c =
    let told =
    same_numbers c.eq-is_own.result c.number.result (Some c.session.result) c.eq-is_own.ensures c.if-is_own.true in
    sym c.number.ensures ∙ (told ∙ ap Some c.session.ensures)

pub returns-then-is_from-clause-since : goal.returns-then-is_from-clause-since
returns-then-is_from-clause-since g c =
    same_positions c.eq-is_from.result c.in_ok-begun.begun.since c.args.since (cc) c.if-is_from.true
