-- What `serve` promises holds of each leave, without a condition.
use Rattle.std.proofs.lemmas.Result.{on_ok_weaker}
use Rattle.cf_world.proofs.world.WorldParts.leave.Goals as goal

pub returns : goal.returns
returns c = on_ok_weaker c.serve.result (λ goes. goes tt) c.serve.ensures
