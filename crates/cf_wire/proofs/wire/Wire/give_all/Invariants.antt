use Rattle.std.proofs.Common.{◌≡◌}
use Rattle.cf_wire.specs.declared.end.Stage.TheVariants.{Open}
use Rattle.cf_wire.specs.Turn.{Part, place, going}
use Rattle.cf_wire.proofs.wire.Wire.give_all.Given as goal

abbrev pub invariant-loop-index : goal.invariant-loop-index
invariant-loop-index g l = record {
  turns : Part g.D.Desk.hears g.D.Desk.gives g.D.Desk.ready g.S.Read.remaining g.S.Write.contents l.index 0 0 0 going
      (place l.initial.desk l.initial.self) (place l.desk l.self);
  opened : l.self.stage ≡ Open;
}
