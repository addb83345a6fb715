-- One session moves (`one_kept`): it leaves a channel, which keeps that it says what was seen (`leaves-keep`).
use Rattle.cf_model.specs.Sessions.{leaves}
use Rattle.cf_node_hub.specs.Told.{IsReply}
use Rattle.cf_node_hub.proofs.Calls.{one_kept}
use Rattle.cf_node_hub.proofs.Speaking.{leaves-keep}
use Rattle.cf_node_hub.proofs.node_hub.NodeHub.leave.Goals as goal

pub invariant_of-self : goal.invariant_of-self
invariant_of-self g c =
    one_kept _ c.args.session (leaves c.args.channel.now)
    _ _ (λ lists. leaves-keep IsReply lists (c.moves_are_among.ensures lists) c.args.channel.now)
    c.leave.ensures.sessions c.self.invariant
