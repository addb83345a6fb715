-- Each time round something is sent and then a message heard: the events so far are one part of a turn, to which the
-- next ones are joined, and each way out ends it.
use Rattle.std.proofs.Common.{◌+◌, arith, refl, inl, inr}
use Rattle.cf_wire.specs.Turn.{going, emptied}
use Rattle.cf_wire.proofs.Turns.{turns_then, turns_quiet, turns_done, turns_go_on, turns_wait}
use Rattle.cf_wire.proofs.wire.Wire.exchange.Goals as goal

pub returns-in-Err-clause-turns : goal.returns-in-Err-clause-turns
returns-in-Err-clause-turns g c =
    turns_done _ _ _ _ _ c.loop-index.index c.loop-index.index _ _ _ _
    (turns_then _ _ _ _ _ c.loop-index.index 0 _ c.loop-index.index 0 c.loop-index.index _ _ _ going _ _ _ _
    c.loop-index.invariant.turns (turns_quiet _ _ _ _ _ _ _ _ _ _ _ _ c.in-Err.ensures.turns refl) (omega arith)
    (omega arith))
    (omega arith)

pub returns-then-not-is_ready-clause-turns : goal.returns-then-not-is_ready-clause-turns
returns-then-not-is_ready-clause-turns g c =
    turns_wait _ _ _ _ _ c.loop-index.index c.loop-index.index _ _ _
    (turns_then _ _ _ _ _ c.loop-index.index 0 _ c.loop-index.index 0 c.loop-index.index _ _ _ going emptied _ _ _
    c.loop-index.invariant.turns (turns_quiet _ _ _ _ _ _ _ _ _ _ _ _ c.in_default.ensures.turns refl) (omega arith)
    (omega arith))
    (omega arith) (cc (c.is_ready.ensures, c.if-not-is_ready.true))

pub returns-then-left-eq0-clause-turns : goal.returns-then-left-eq0-clause-turns
returns-then-left-eq0-clause-turns g c =
    turns_go_on _ _ _ _ _ c.loop-index.index c.loop-index.index _ emptied _ _
    (turns_then _ _ _ _ _ c.loop-index.index 0 _ c.loop-index.index 0 c.loop-index.index _ _ _ going emptied _ _ _
    c.loop-index.invariant.turns (turns_quiet _ _ _ _ _ _ _ _ _ _ _ _ c.in_default.ensures.turns refl) (omega arith)
    (omega arith))
    (omega arith) (inr c.if-left-eq0.true)

pub returns-in-Err-hear-clause-turns : goal.returns-in-Err-hear-clause-turns
returns-in-Err-hear-clause-turns g c =
    turns_done _ _ _ _ _ c.loop-index.index (c.loop-index.index + 1) _ _ _ _
    (turns_then _ _ _ _ _ c.loop-index.index 0 _ c.loop-index.index 1 (c.loop-index.index + 1) _ _ _ emptied _ _ _ _
    (turns_then _ _ _ _ _ c.loop-index.index 0 _ c.loop-index.index 0 c.loop-index.index _ _ _ going emptied _ _ _
    c.loop-index.invariant.turns (turns_quiet _ _ _ _ _ _ _ _ _ _ _ _ c.in_default.ensures.turns refl) (omega arith)
    (omega arith))
    c.in-Err-hear.ensures.turns (omega arith) (omega arith))
    (omega arith)

pub loop-index-preserved : goal.loop-index-preserved
loop-index-preserved g c = record {
  turns =
      (turns_then _ _ _ _ _ c.loop-index.index 1 _ c.loop-index.index 1 (c.loop-index.index + 1) _ _ _ emptied _ _ _ _
      (turns_then _ _ _ _ _ c.loop-index.index 0 _ c.loop-index.index 0 c.loop-index.index _ _ _ going emptied _ _ _
      c.loop-index.invariant.turns (turns_quiet _ _ _ _ _ _ _ _ _ _ _ _ c.in_default.ensures.turns refl) (omega arith)
      (omega arith))
      c.in_default-hear.ensures.turns (omega arith) (omega arith));
  opened = c.in_default-hear.ensures.«open»;
}

pub returns-in-Ok-clause-turns : goal.returns-in-Ok-clause-turns
returns-in-Ok-clause-turns g c =
    turns_go_on _ _ _ _ _ c.loop-index.index c.loop-index.index _ emptied _ _
    (turns_then _ _ _ _ _ c.loop-index.index 0 _ c.loop-index.index 0 c.loop-index.index _ _ _ going emptied _ _ _
    c.loop-index.invariant.turns (turns_quiet _ _ _ _ _ _ _ _ _ _ _ _ c.in-Ok.ensures.turns refl) (omega arith)
    (omega arith))
    (omega arith) (inl (omega arith))

pub returns-in-Err-give_all-clause-turns : goal.returns-in-Err-give_all-clause-turns
returns-in-Err-give_all-clause-turns g c =
    turns_done _ _ _ _ _ c.loop-index.index c.loop-index.index _ _ _ _
    (turns_then _ _ _ _ _ c.loop-index.index 0 _ c.loop-index.index 0 c.loop-index.index _ _ _ going _ _ _ _
    c.loop-index.invariant.turns (turns_quiet _ _ _ _ _ _ _ _ _ _ _ _ c.in-Err-give_all.ensures.turns refl)
    (omega arith) (omega arith))
    (omega arith)
