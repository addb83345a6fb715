-- The loop keeps that so many in front are the run; one that follows is swapped behind them, and without one there is a
-- gap.
use Rattle.cf_recovery.proofs.Storing.{gathered_more, gathered_all}
use Rattle.cf_recovery.proofs.stored.gather.Goals as goal

pub loop-i-preserved : goal.loop-i-preserved
loop-i-preserved c =
    let found = rw (c.deref.ensures.value, c.deref-in-loop-i.ensures.value) at c.in-Some.ensures.found in
    rw (c.swap.ensures.items, c.swap-in-Some.ensures.items)
    (gathered_more _ _ _ _ _ _ _ c.loop-i.invariant found.0 found.1 found.2)

pub returns-clause-gap : goal.returns-clause-gap
returns-clause-gap c =
    let none = rw (c.deref.ensures.value, c.deref-in-loop-i.ensures.value) at c.in_default.ensures.none in
    gathered_all _ _ _ _ _ _ c.loop-i.invariant none
