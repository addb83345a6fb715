-- One session moves (`one_kept`): it is closed, which keeps that it says what was seen (`closes-keep`).
use Rattle.cf_queue.specs.OutQueue.{Close}
use Rattle.cf_model.specs.Sessions.{closes_now}
use Rattle.cf_node_hub.specs.Told.{IsReply}
use Rattle.cf_node_hub.proofs.Calls.{one_kept}
use Rattle.cf_node_hub.proofs.Speaking.{closes-keep}
use Rattle.cf_node_hub.proofs.node_hub.NodeHub.close.Goals as goal

pub invariant_of-self : goal.invariant_of-self
invariant_of-self g c =
    one_kept _ c.args.session (closes_now (Close c.args.code))
    _ _ (λ lists. closes-keep IsReply lists (c.moves_are_among.ensures lists) c.args.code) c.close.ensures.sessions
    c.self.invariant
