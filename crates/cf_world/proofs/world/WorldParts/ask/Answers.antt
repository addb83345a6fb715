-- What `serve` promises holds of each ask, without a condition.
use Rattle.std.proofs.lemmas.Result.{on_ok_weaker}
use Rattle.cf_world.proofs.world.WorldParts.ask.Goals as goal

pub returns : goal.returns
returns c = on_ok_weaker c.serve.result (λ goes. goes tt) c.serve.ensures
