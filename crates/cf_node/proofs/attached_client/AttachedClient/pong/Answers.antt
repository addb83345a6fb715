-- The session that owes the hub no answer any more is the client's own (`to_own`), and the others stay.
use Rattle.std.proofs.Common.{sym}
use Rattle.cf_node.specs.Own.{Pongs}
use Rattle.cf_node.proofs.Owning.{to_own}
use Rattle.cf_node.proofs.attached_client.AttachedClient.pong.Goals as goal

-- the client's own session owes none
pub returns : goal.returns
returns g c =
    to_own Pongs c.args.self.now.standing.number c.in-Some.number c.args.hub.now.node c.pong.new.self.node
    (sym c.in-Some.ensures) (record { here = c.pong.ensures.here; others = c.pong.ensures.others })
