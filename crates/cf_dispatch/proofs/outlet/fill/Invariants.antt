use Rattle.cf_dispatch.proofs.Taking.{TakesSoFar}
use Rattle.cf_dispatch.proofs.outlet.fill.Given as goal

abbrev pub invariant-loop-count : goal.invariant-loop-count
invariant-loop-count g l = TakesSoFar l.session l._count l.bytes l.initial.hub.node l.hub.node l.initial.taken l.taken
