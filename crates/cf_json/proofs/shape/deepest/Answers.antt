-- The loop keeps that the highest level of the whole is that of what is left, from the level reached; each byte moves
-- it by
-- one.
use Rattle.std.proofs.Common.{◌≡◌, max, arith, length, ap, ◌∙◌}
use Rattle.cf_json.proofs.Shapes.{one_level, level_after-le}
use Rattle.cf_json.proofs.shape.deepest.Goals as goal
use Rattle.cf_json.proofs.shape.deepest.Goals.{then-highest-level, else-highest-level}

pub loop-byte-preserved : goal.loop-byte-preserved
loop-byte-preserved c =
    let l = c.loop-byte in
    let level = c.level_after-level.result in
    let higher : c.if-highest-level.highest ≡ max l.highest level =
    elim c.if-highest-level.branch [ then-highest-level w ↦ omega arith | else-highest-level w ↦ omega arith ] in
    record {
      same = one_level l.mode c.next-mode.result l.level level l.highest c.if-highest-level.highest c.in-Some.byte.now
          c.from.result l.rest.now c.in-Some.more.now c.in-Some.ensures.cases.0 c.next-mode.ensures c.from.ensures
          c.level_after-level.ensures higher ∙ l.invariant.same;
      room = omega (
        arith,
        level_after-le l.mode c.in-Some.byte.now l.level,
        c.level_after-level.ensures,
        ap length c.in-Some.ensures.cases.0,
      );
    }
