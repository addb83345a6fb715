-- In both branches the keys are those of before and this one behind them, as the map promises of an insert.
use Rattle.std.proofs.Common.{◌≡◌, map, ap, ◌∙◌, string_bytes, rules}
use Rattle.std.specs.Map.{keys_of}
use Rattle.cf_hub.proofs.Order.{asked_last}
use Rattle.cf_hub.proofs.subscription.add.Goals as goal

pub returns-then-len-eq1-clause-last : goal.returns-then-len-eq1-clause-last
returns-then-len-eq1-clause-last c =
    let is : string_bytes c.in_ok-key.key ≡ c.args.channel.now = search rules in
    ap (λ es. map string_bytes (keys_of es)) c.shrink_to_fit.ensures.entries
    ∙ asked_last c.args.subscriptions.now c.insert.new.self c.in_ok-key.key c.in_ok-asked.asked c.args.channel.now is
    c.requires c.in-Ok.ensures.entries

pub returns-else-len-eq1-clause-last : goal.returns-else-len-eq1-clause-last
returns-else-len-eq1-clause-last c =
    let is : string_bytes c.in_ok-key.key ≡ c.args.channel.now = search rules in
    asked_last c.args.subscriptions.now c.insert.new.self c.in_ok-key.key c.in_ok-asked.asked c.args.channel.now is
    c.requires c.in-Ok.ensures.entries
