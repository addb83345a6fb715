-- A session that opens has nothing to say yet, and a refusal changes none: all say what was seen (`attach_kept`).
use Rattle.cf_node_hub.proofs.Calls.{attach_kept}
use Rattle.cf_node_hub.proofs.node_hub.NodeHub.attach.Goals as goal

pub invariant_of-self : goal.invariant_of-self
invariant_of-self g c =
    attach_kept c.moves_are_among.ensures _ c.args.now _ _ _ c.attach.result c.attach.ensures.opens c.attach.ensures.err
    c.self.invariant
