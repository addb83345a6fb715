-- The session is gone and the others stay, so all that there are say what was seen (`gone-says`).
use Rattle.cf_node_hub.specs.Told.{IsReply}
use Rattle.cf_node_hub.specs.Seen.{seen_lists}
use Rattle.cf_node_hub.proofs.Speaking.{gone-says}
use Rattle.cf_node_hub.proofs.node_hub.NodeHub.detach.Goals as goal

pub invariant_of-self : goal.invariant_of-self
invariant_of-self g c =
    λ sound. gone-says IsReply (seen_lists c.self.inside.seen) c.args.session c.self.inside.hub c.detach.new.self
    c.detach.ensures.gone c.detach.ensures.others (c.self.invariant sound)
