-- The one session whose subscription is finished says what was seen, whichever way that goes (`finishes-says`).
use Rattle.cf_node_hub.specs.Told.{IsReply}
use Rattle.cf_node_hub.specs.Seen.{seen_lists}
use Rattle.cf_node_hub.proofs.Speaking.{finishes-says}
use Rattle.cf_node_hub.proofs.node_hub.NodeHub.finish.Goals as goal

pub invariant_of-self : goal.invariant_of-self
invariant_of-self g c = λ sound.
    finishes-says IsReply (seen_lists c.self.inside.seen) c.args.session c.args.channel.now
    _ _ (c.moves_are_among.ensures (seen_lists c.self.inside.seen)) c.finish.ensures.session
    (c.self.invariant sound)
