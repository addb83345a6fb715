-- From the laws of `cf_recovery` on what is kept, by the theory's law for moves.
use Rattle.cf_hub.proofs.AlikeMoves.{moves_alike}
use Rattle.cf_hub.proofs.laws.moves_are_alike.Goals as goal

pub returns : goal.returns
returns c lists =
    moves_alike c.what_is_kept_stands.ensures.within c.what_is_kept_stands.ensures.arrival
    c.what_is_kept_stands.ensures.run c.what_is_kept_stands.ensures.short lists
