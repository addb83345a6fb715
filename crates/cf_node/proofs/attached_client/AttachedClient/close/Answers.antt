-- The session that the hub closes is the client's own (`to_own`).
use Rattle.std.proofs.Common.{sym}
use Rattle.cf_node.specs.Own.{Closes}
use Rattle.cf_node.proofs.Owning.{to_own}
use Rattle.cf_node.proofs.attached_client.AttachedClient.close.Goals as goal

-- the client's own session is closed
pub returns : goal.returns
returns g c =
    to_own (Closes c.args.code) c.args.self.now.standing.number c.in-Some.number c.args.hub.now.node c.close.new.self.node
    (sym c.in-Some.ensures) c.close.ensures.sessions
