use Rattle.cf_dispatch.specs.Batch.{TakesFor}
use Rattle.cf_dispatch.proofs.batch.take_batch.Given as goal

abbrev pub invariant-loop-named : goal.invariant-loop-named
invariant-loop-named g l =
    TakesFor g.O.Outlets.gets l._named l.initial.hub.node l.hub.node l.initial.outlets l.outlets
