-- The blocks go to another thread, and are shared by threads, as the row that they hold does.
use denote.RattleType.{RattleType}
use denote.Param.Send.{IsSend}
use Rattle.cf_subs.proofs.Crosses.{Blocks-send}
use Rattle.cf_subs.specs.contracts.blocks.Blocks.{the_row}

pub send : (R : RattleType) → IsSend R → IsSend (the_row R)
send = Blocks-send
