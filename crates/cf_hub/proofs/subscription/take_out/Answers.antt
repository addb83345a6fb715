-- In both branches the other keys are those of before, as the map promises of a removal.
use Rattle.std.proofs.Common.{map, ap, ◌∙◌, string_bytes}
use Rattle.std.specs.Map.{keys_of}
use Rattle.cf_hub.proofs.Order.{left_out}
use Rattle.cf_hub.proofs.subscription.take_out.Goals as goal

pub returns-then-is_empty-clause-others : goal.returns-then-is_empty-clause-others
returns-then-is_empty-clause-others c =
    ap (λ es. map string_bytes (keys_of es)) c.shrink_to_fit.ensures.entries
    ∙ left_out c.args.subscriptions.now c.shift_remove.new.self c.args.channel.now c.shift_remove.ensures.entries

pub returns-else-is_empty-clause-others : goal.returns-else-is_empty-clause-others
returns-else-is_empty-clause-others c =
    left_out c.args.subscriptions.now c.shift_remove.new.self c.args.channel.now c.shift_remove.ensures.entries
