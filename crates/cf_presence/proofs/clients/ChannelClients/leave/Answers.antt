-- The entry and one count of its user go together, so the counts stay true.
use Rattle.std.proofs.Common.{arith, sym, ◌∙◌}
use Rattle.std.proofs.lemmas.Map.Text.{text_keys}
use Rattle.cf_presence.proofs.Texts.{removes}
use Rattle.cf_presence.proofs.UserCounts.{left_counts}
use Rattle.cf_presence.proofs.clients.ChannelClients.leave.Goals as goal

pub invariant_of-self : goal.invariant_of-self
invariant_of-self c =
    left_counts c.self.inside.users c.drop_user.new.users c.self.inside.map c.remove.new.self _ c.in-Some.entry
    c.user.result.now c.self.invariant c.remove.ensures.entries (sym c.in-Some.is ∙ c.remove.ensures.value)
    c.user.ensures c.drop_user.ensures

pub returns-in-Some : goal.returns-in-Some
returns-in-Some c =
    rw (← c.self.view_is) (removes c.self.inside.map c.remove.new.self c.args.client.now
    (λ q. grind (arith, text_keys)))

pub returns-in_default : goal.returns-in_default
returns-in_default c =
    rw (← c.self.view_is) (removes c.self.inside.map c.remove.new.self c.args.client.now
    (λ q. grind (arith, text_keys)))
