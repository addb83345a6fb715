-- What `gather` counted is the run, what it left beside tells whether it is insufficient, and together they stand for
-- what
-- arrived.
use Rattle.std.proofs.Common.{◌∙◌, ap, not}
use Rattle.cf_recovery.specs.Stored.{stored}
use Rattle.cf_recovery.proofs.Releasing.{run_few, none_kept, run_counted, left_over, run_is, stands_released}
use Rattle.cf_recovery.proofs.Releasing.{either_way, by_the_rest}
use Rattle.cf_recovery.proofs.waiting.Waiting.release.Goals as goal
use Rattle.cf_recovery.proofs.waiting.Waiting.release.Goals.{then-overflow, else-overflow}

pub returns-clause-run : goal.returns-clause-run
returns-clause-run c =
    let counted =
    run_counted (stored c.self.inside.epochs.items c.self.inside.publications.items)
    (stored c.gather-count.new.epochs.items c.gather-count.new.publications.items) c.args.at.now
    c.gather-count.result c.self.invariant.within.few c.gather-count.ensures.moved c.gather-count.ensures.front
    c.gather-count.ensures.gap in
    rw (c.truncate.ensures.items, ← c.self.view_is)
    (run_is (stored c.self.inside.epochs.items c.self.inside.publications.items) c.self.inside.overflow
    c.self.inside.short c.gather-count.new.epochs.items c.gather-count.new.publications.items c.args.at.now
    c.gather-count.result counted c.gather-count.ensures.moved c.gather-count.ensures.counted
    c.gather-count.ensures.front)

pub returns-clause-buffered : goal.returns-clause-buffered
returns-clause-buffered c =
    rw (c.truncate.ensures.items, ← c.self.view_is)
    (run_few c.self.inside.epochs.items c.gather-count.new.epochs.items c.self.inside.publications.items
    c.gather-count.new.publications.items c.gather-count.result c.gather-count.ensures.beside
    c.gather-count.ensures.moved c.gather-count.ensures.counted)

pub returns-clause-given_up : goal.returns-clause-given_up
returns-clause-given_up c whole =
    let within = rw c.self.view_is at c.self.invariant.within in
    none_kept _ _ (within.nothing whole) (returns-clause-buffered c)

pub returns-clause-insufficient : goal.returns-clause-insufficient
returns-clause-insufficient c =
    let counted =
    run_counted (stored c.self.inside.epochs.items c.self.inside.publications.items)
    (stored c.gather-count.new.epochs.items c.gather-count.new.publications.items) c.args.at.now
    c.gather-count.result c.self.invariant.within.few c.gather-count.ensures.moved c.gather-count.ensures.front
    c.gather-count.ensures.gap in
    let left = left_over (stored c.self.inside.epochs.items c.self.inside.publications.items)
    (stored c.gather-count.new.epochs.items c.gather-count.new.publications.items) c.args.at.now
    c.gather-count.result c.self.invariant.within.few c.gather-count.ensures.moved counted in
    rw (← c.self.view_is)
    (elim c.if-overflow.branch [
      | then-overflow w ↦ either_way _ _ _ w.if-overflow.true (w.insufficient-is ∙ w.if-overflow.true)
      | else-overflow w ↦
          let within = rw (w.deref.ensures.value, w.deref-else-overflow.ensures.value) at w.are_within.ensures in
          by_the_rest _ _ _ w.if-overflow.false (w.insufficient-is ∙ ap (λ b. not b) within ∙ left)
    ])

pub returns-clause-stands : goal.returns-clause-stands
returns-clause-stands c arrived stands whole =
    let within = rw c.self.view_is at c.self.invariant.within in
    stands_released c.args.self c.args.at.now arrived _ _ within stands whole (returns-clause-run c).counted
    (returns-clause-insufficient c)
