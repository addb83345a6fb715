-- The blocks are shared by threads as the row that they hold is, by the lemma `Blocks-sync`.
use denote.RattleType.{RattleType}
use denote.Param.Send.{IsSync}
use Rattle.cf_subs.proofs.Crosses.{Blocks-sync}
use Rattle.cf_subs.specs.contracts.blocks.Blocks.{the_row}

pub sync : (R : RattleType) → IsSync R → IsSync (the_row R)
sync = Blocks-sync
