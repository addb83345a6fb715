-- The loop keeps that what was written and what is left make the whole.
use Rattle.cf_simulate.proofs.Writing.{leaves_more}
use Rattle.cf_simulate.proofs.simulation.write_bytes.Goals as goal

pub loop-preserved : goal.loop-preserved
loop-preserved g c =
    leaves_more _ _ _ c.args.bytes.now c.loop.rest.now c.in_ok-rest.rest.now c.loop.invariant c.in_ok-rest.ensures.some
