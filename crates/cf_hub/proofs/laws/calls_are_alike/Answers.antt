-- From `moves_are_alike`, by the theory's law for calls.
use Rattle.cf_hub.proofs.AlikeMoves.{calls_alike}
use Rattle.cf_hub.proofs.laws.calls_are_alike.Goals as goal

pub returns : goal.returns
returns c lists = calls_alike lists (c.moves_are_alike.ensures lists)
