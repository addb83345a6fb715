-- One session moves (`one_kept`): its front is taken, which keeps that it says what was seen (`takes-keep`).
use Rattle.cf_model.specs.Sessions.{takes_front}
use Rattle.cf_node_hub.specs.Told.{IsReply}
use Rattle.cf_node_hub.proofs.Calls.{one_kept}
use Rattle.cf_node_hub.proofs.Speaking.{takes-keep}
use Rattle.cf_node_hub.proofs.node_hub.NodeHub.take.Goals as goal

pub invariant_of-self : goal.invariant_of-self
invariant_of-self g c =
    one_kept _ c.args.session takes_front _ _ (λ lists. takes-keep IsReply lists (c.moves_are_among.ensures lists))
    c.take.ensures.sessions c.self.invariant
