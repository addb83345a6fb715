-- From what the crates below promise of a hub's moves and of what is kept, by the theory's law.
use Rattle.std.proofs.Common.{◌≡◌, true}
use Rattle.cf_hub_moves.proofs.HubAsides.{moves_among}
use Rattle.cf_running_ties.proofs.laws.hub_moves_are_sections.Goals as goal

pub returns : goal.returns
returns c is_aside lists =
    moves_among c.what_is_kept_stands.ensures.within c.what_is_kept_stands.ensures.arrival
    c.what_is_kept_stands.ensures.run c.what_is_kept_stands.ensures.short
    (λ t. is_aside t ≡ true) lists
