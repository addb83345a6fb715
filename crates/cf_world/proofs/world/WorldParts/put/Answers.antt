-- What `serve` promises holds of a publish, under the condition that this call requires.
use Rattle.std.proofs.lemmas.Result.{on_ok_weaker}
use Rattle.cf_world.proofs.world.WorldParts.put.Goals as goal

pub returns : goal.returns
returns c = on_ok_weaker c.serve.result (λ goes. goes c.requires) c.serve.ensures
