-- From the laws of `cf_recovery` on what is kept, by the theory's law for moves.
use Rattle.cf_hub_moves.specs.Asides.{SaysAside}
use Rattle.cf_hub_moves.proofs.HubAsides.{moves_among}
use Rattle.cf_hub_moves.proofs.laws.moves_are_among.Goals as goal

pub returns : goal.returns
returns c lists =
    moves_among c.what_is_kept_stands.ensures.within c.what_is_kept_stands.ensures.arrival
    c.what_is_kept_stands.ensures.run c.what_is_kept_stands.ensures.short
    SaysAside lists
