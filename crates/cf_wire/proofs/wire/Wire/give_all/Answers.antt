-- What is sent joins the events so far, until the desk has nothing more, the socket stops it, or as much was sent as
-- may be.
use Rattle.std.proofs.Common.{arith, refl, inl}
use Rattle.cf_wire.specs.Turn.{none, emptied}
use Rattle.cf_wire.proofs.Turns.{out_open, out_stopped, turns_one, turns_then, turns_sent_much}
use Rattle.cf_wire.proofs.wire.Wire.give_all.Goals as goal

pub returns-in_default-clause-turns : goal.returns-in_default-clause-turns
returns-in_default-clause-turns g c =
    turns_then _ _ _ _ _ _ _ _ _ _ _ _ _ _ _ _ _ _ _ c.loop-index.invariant.turns
    (turns_one _ _ _ _ _ none 0 0 0 0 emptied _ _ c.in_default.ensures (c.loop-index.invariant.opened, refl)
    (omega arith) (omega arith) (omega arith) (inl (omega arith)) tt)
    (omega arith) (omega arith)

pub returns-in-Err-clause-turns : goal.returns-in-Err-clause-turns
returns-in-Err-clause-turns g c =
    turns_then _ _ _ _ _ _ _ _ _ _ _ _ _ _ _ _ _ _ _ c.loop-index.invariant.turns
    (out_stopped _ _ _ _ _ _ _ _ _ c.in-Some.out c.in-Err.end c.loop-index.invariant.opened c.in-Some.ensures
    c.put.ensures.put c.put.ensures.kept c.in-Err.ensures.ends) (omega arith) (omega arith)

pub returns-clause-turns : goal.returns-clause-turns
returns-clause-turns g c = turns_sent_much _ _ _ _ _ _ _ _ _ _ c.loop-index.invariant.turns (omega arith) refl

pub loop-index-preserved : goal.loop-index-preserved
loop-index-preserved g c = record {
  turns = turns_then _ _ _ _ _ _ _ _ _ _ _ _ _ _ _ _ _ _ _ c.loop-index.invariant.turns
      (out_open _ _ _ _ _ _ _ _ _ c.in-Some.out c.loop-index.invariant.opened c.in-Some.ensures c.put.ensures.put
      c.in_default-put.ensures.«open») (omega arith) (omega arith);
  opened = c.in_default-put.ensures.«open»;
}
