-- The pass is put back over the one that stood in for it (`put_over`), and its logs tell if the size is set (`took`).
use Rattle.cf_sizes.proofs.Sizing.{put_over, took}
use Rattle.cf_sizes.proofs.sizes.set_in.Goals as goal

pub returns-clause-one : goal.returns-clause-one
returns-clause-one g c = put_over _ _ _ c.args.shard _ _ c.take-pass.ensures.left c.put.ensures.put c.put.ensures.at

pub returns-clause-taken : goal.returns-clause-taken
returns-clause-taken g c =
    took c.args.name.now c.args.size _ _ _ _ c.is_ok.result c.set_size-set.result c.take-pass.ensures.taken
    c.put.ensures.at c.is_ok.ensures.value c.set_size-set.ensures.done
    c.set_size-set.ensures.refusals
