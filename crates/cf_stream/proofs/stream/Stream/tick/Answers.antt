-- By whether the time is over: the ring is emptied or stays, and the list goes on as ticked.
use Rattle.std.proofs.Common.{ap, sym, ◌∙◌}
use Rattle.cf_stream.specs.Stream.{is_over}
use Rattle.cf_stream.specs.contracts.stream.Stream.{the_view}
use Rattle.cf_stream.proofs.Giving.{ticked_early, ticked_over}
use Rattle.cf_stream.proofs.PublicationLists.{GoesOn-ticked}
use Rattle.cf_stream.proofs.stream.Stream.tick.Goals.{then-has_passed, else-has_passed}
use Rattle.cf_stream.proofs.stream.Stream.tick.Goals as goal

pub returns-clause-ticked : goal.returns-clause-ticked
returns-clause-ticked c =
    let at = ap (λ i. is_over i.published c.args.seconds c.args.now) (sym c.deref.ensures) ∙ sym c.has_passed.ensures in
    rw (← c.self.view_is)
    (elim c.if-has_passed.branch [
      | then-has_passed w ↦
          rw (w.self-inside-is, w.clear.ensures, w.deref_mut.ensures.value)
          (ticked_over (the_view c.self.inside) c.args.now c.args.seconds (at ∙ w.if-has_passed.true))
      | else-has_passed w ↦
          rw w.self-inside-is (ticked_early (the_view c.self.inside) c.args.now c.args.seconds
          (at ∙ w.if-has_passed.false))
    ])

pub returns-clause-list : goal.returns-clause-list
returns-clause-list c = rw (returns-clause-ticked c) (GoesOn-ticked c.args.self.now c.args.now c.args.seconds)
