-- The session that leaves the channel in the hub is the client's own (`to_own`).
use Rattle.std.proofs.Common.{sym}
use Rattle.cf_node.specs.Own.{Leaves}
use Rattle.cf_node.proofs.Owning.{to_own}
use Rattle.cf_node.proofs.attached_client.AttachedClient.leave.Goals as goal

-- the client's own session leaves it
pub returns : goal.returns
returns g c =
    to_own (Leaves c.args.channel.now) c.args.self.now.standing.number c.in-Some.number c.args.hub.now.node c.leave.new.self.node
    (sym c.in-Some.ensures) c.leave.ensures.sessions
