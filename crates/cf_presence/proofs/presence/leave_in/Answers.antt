-- In a channel with nobody there is nobody to leave.
use Rattle.std.proofs.Common.{◌≡◌, None, arith}
use Rattle.std.specs.BTreeMap.{get_by_text}
use Rattle.std.proofs.lemmas.Map.Text.{text_keys}
use Rattle.cf_presence.proofs.Rooms.{none_leaves, none_stays}
use Rattle.cf_presence.proofs.presence.leave_in.Goals as goal

pub returns-in_default : goal.returns-in_default
returns-in_default c =
    let none : get_by_text c.args.map.now c.args.channel.now ≡ None = grind (arith, text_keys) in
    rw (none_leaves (get_by_text c.args.map.now c.args.channel.now) c.args.client.now none)
    (none_stays c.args.map.now c.get_mut.follows.lender-at-none c.args.channel.now (λ q. grind (arith, text_keys)) none)
