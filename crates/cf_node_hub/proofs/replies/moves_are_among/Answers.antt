-- The lemma `moves_among` on a hub's moves, which is handed what the law `what_is_kept_stands` says.
use Rattle.cf_hub_moves.proofs.HubAsides.{moves_among}
use Rattle.cf_node_hub.specs.Told.{IsReply}
use Rattle.cf_node_hub.proofs.replies.moves_are_among.Goals as goal

pub returns : goal.returns
returns c lists =
    moves_among c.what_is_kept_stands.ensures.within c.what_is_kept_stands.ensures.arrival
    c.what_is_kept_stands.ensures.run c.what_is_kept_stands.ensures.short
    IsReply lists
