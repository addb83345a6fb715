-- The session whose subscription the hub finishes is the client's own (`to_own`).
use Rattle.std.proofs.Common.{sym}
use Rattle.cf_node.specs.Own.{Finishes}
use Rattle.cf_node.proofs.Owning.{to_own}
use Rattle.cf_node.proofs.attached_client.AttachedClient.finish.Goals as goal

-- a subscription of the client's own session is finished
pub returns-clause-own : goal.returns-clause-own
returns-clause-own g c =
    to_own (Finishes c.args.channel.now) c.args.self.now.standing.number c.in-Some.number
    c.args.hub.now.node c.finish.new.self.node (sym c.in-Some.ensures) c.finish.ensures.session
