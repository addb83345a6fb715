-- One more stands behind the others, for which there is room.
use Rattle.std.proofs.Common.{rules}
use Rattle.cf_recovery.proofs.Keeping.{stored_more, kept-push}
use Rattle.cf_recovery.proofs.waiting.Waiting.store.Goals as goal

pub invariant_of-self-2 : goal.invariant_of-self-2
invariant_of-self-2 c =
    let room = rw (← c.self.view_is) at c.requires in
    rw (c.in_ok-push-2.ensures.items, c.in_ok-push.ensures.items, c.in_ok-reserve.ensures.items, c.in_ok-copy.ensures)
    (stored_more _ _ _ _ _ _ c.args.epoch.now c.args.publication.now room c.self.invariant (search rules))

pub returns-clause-ok : goal.returns-clause-ok
returns-clause-ok c =
    rw (
      c.in_ok-push-2.ensures.items,
      c.in_ok-push.ensures.items,
      c.in_ok-reserve.ensures.items,
      c.in_ok-copy.ensures,
      ← c.self.view_is,
    )
    (kept-push _ _ _ _ _ c.args.epoch.now c.args.publication.now c.self.invariant)
