-- A turn begins with the flush that was owed, and what follows is an exchange; or the flush ends it.
use Rattle.std.proofs.Common.{arith, refl, ap, sym, ◌∙◌, Ok, Err}
use Rattle.cf_wire.specs.Stages.{WireState}
use Rattle.cf_wire.proofs.Turns.{turns_after, turns_quiet, turns_done, flush_turns}
use Rattle.cf_wire.proofs.wire.Wire.turn.Goals as goal

pub returns-in-Ok-clause-turns : goal.returns-in-Ok-clause-turns
returns-in-Ok-clause-turns g c = λ stands.
    turns_after _ _ _ _ _ _ _ _ _ _ _
    (flush_turns _ _ _ _ _ _ c.args.self.now _ c.in-Unflushed.close (Ok c.in-Ok.field-0)
    (sym (ap (λ (w : WireState g.row.S.Denot). w.stage) c.self.view_is) ∙ c.in-Unflushed.is)
    c.flush.ensures.flushed c.flush.ensures.leaves c.in-Ok.ensures.«open» c.in-Ok.ensures.ends)
    c.exchange.ensures.turns

pub returns-in-Err-clause-turns : goal.returns-in-Err-clause-turns
returns-in-Err-clause-turns g c = λ stands.
    turns_done _ _ _ _ _ 0 0 _ _ _ _
    (turns_quiet _ _ _ _ _ 0 0 _ _ _ _ _
    (flush_turns _ _ _ _ _ _ c.args.self.now _ c.in-Unflushed.close (Err c.in-Err.end)
    (sym (ap (λ (w : WireState g.row.S.Denot). w.stage) c.self.view_is) ∙ c.in-Unflushed.is)
    c.flush.ensures.flushed c.flush.ensures.leaves c.in-Err.ensures.«open» c.in-Err.ensures.ends) refl)
    (omega arith)
