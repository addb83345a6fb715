-- A message that came, one that is too long, and an error of the read: each is one event of the turn.
use Rattle.std.proofs.Common.{refl, sym, subst, Err}
use Rattle.tungstenite.specs.declared.error.Error.{Error}
use Rattle.cf_wire.specs.Turn.{is_bad}
use Rattle.cf_wire.proofs.Turns.{acted_turns, reject_turns, fail_turns}
use Rattle.cf_wire.proofs.wire.Wire.hear.Goals as goal

pub returns-in-Ok-clause-turns : goal.returns-in-Ok-clause-turns
returns-in-Ok-clause-turns g c =
    acted_turns _ _ _ _ _ _ _ _ _ _ _ _ _ _ c.self.view_is c.requires.«open»
    (c.act_on-acted.ensures.turns _ c.in-Ok.ensures)

pub returns-in-Err-Capacity-clause-turns : goal.returns-in-Err-Capacity-clause-turns
returns-in-Err-Capacity-clause-turns g c =
    let Bad : Error → Type 0 = λ e. is_bad (Err e) in
    reject_turns _ _ _ _ _ _ _ _ _ _ (Err c.in-Err-Capacity.field-0) _ c.shut.result _ _ c.self.view_is
    c.requires.«open» c.requires.ready c.requires.room refl
    (subst Bad (sym c.in-Err-Capacity.field-0-is) tt) c.in-Err-Capacity.ensures c.code.ensures c.shut.ensures.put
    c.shut.ensures.ends

pub returns-in-Err-clause-turns : goal.returns-in-Err-clause-turns
returns-in-Err-clause-turns g c =
    fail_turns _ _ _ _ _ _ _ _ _ _ c.in-Err.error c.fail.result _ _ c.self.view_is c.requires.«open» c.requires.ready
    c.requires.room refl c.in-Err.ensures
    c.fail.ensures.told c.fail.ensures.left c.fail.ensures.halts
