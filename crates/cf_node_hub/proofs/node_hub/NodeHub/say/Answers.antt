-- The text is a reply that a session gives itself, which may wait among the notes of what was seen (`say_kept`).
use Rattle.cf_node_hub.proofs.Calls.{say_kept}
use Rattle.cf_node_hub.proofs.node_hub.NodeHub.say.Goals as goal

pub invariant_of-self : goal.invariant_of-self
invariant_of-self g c =
    say_kept c.moves_are_among.ensures _ c.args.session _ _ _ c.requires c.say.ensures.session c.self.invariant
