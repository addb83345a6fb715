-- Each session says what was seen after the tick, whatever that does to it (`ticks-says`).
use Rattle.cf_node_hub.specs.Told.{IsReply}
use Rattle.cf_node_hub.specs.Seen.{seen_lists}
use Rattle.cf_node_hub.proofs.Speaking.{ticks-says}
use Rattle.cf_node_hub.proofs.node_hub.NodeHub.tick.Goals as goal

pub invariant_of-self : goal.invariant_of-self
invariant_of-self g c =
    λ sound. let lists = seen_lists c.self.inside.seen in
    ticks-says IsReply lists (c.moves_are_among.ensures lists) c.args.now _ _ c.tick.ensures.each
    (c.self.invariant sound)
