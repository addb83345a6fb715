-- Above the highest offset nothing is kept; else `find` tells.
use Rattle.std.proofs.Common.{◌<◌, reverse, subst}
use Rattle.cf_recovery.specs.Stored.{stored}
use Rattle.cf_recovery.proofs.Keeping.{has-above, has-found}
use Rattle.cf_recovery.proofs.waiting.Waiting.has.Goals as goal

pub returns-then-self-offset : goal.returns-then-self-offset
returns-then-self-offset c =
    let above = subst (λ n. n < c.args.offset) c.self.invariant.highest_is c.if-self-offset.true in
    rw (← c.self.view_is)
    (has-above (reverse (stored c.self.inside.epochs.items c.self.inside.publications.items)) c.args.epoch.now
    c.args.offset above)

pub returns : goal.returns
returns c =
    let found = rw (c.deref.ensures.value, c.deref-2.ensures.value) at c.find.ensures.found in
    let none = rw (c.deref.ensures.value, c.deref-2.ensures.value) at c.find.ensures.none in
    rw (← c.self.view_is, c.is_some.ensures)
    (has-found (stored c.self.inside.epochs.items c.self.inside.publications.items) c.args.epoch.now c.args.offset
    _ c.find.result found none)
