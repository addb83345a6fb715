-- The session that the hub checks is the client's own (`to_own`).
use Rattle.std.proofs.Common.{sym}
use Rattle.cf_node.specs.Own.{Checks}
use Rattle.cf_node.proofs.Owning.{to_own}
use Rattle.cf_node.proofs.attached_client.AttachedClient.check.Goals as goal

-- a subscription of the client's own session is checked
pub returns-in-Some-clause-own : goal.returns-in-Some-clause-own
returns-in-Some-clause-own g c =
    to_own (Checks c.args.channel.now c.args.top) c.args.self.now.standing.number c.in-Some.number
    c.args.hub.now.node c.check.new.self.node (sym c.in-Some.ensures) c.check.ensures.session
