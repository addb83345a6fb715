-- By the stage's variant.
use Rattle.std.proofs.Common.{ap, sym}
use Rattle.cf_wire.specs.Stages.{is_unflushed}
use Rattle.cf_wire.proofs.wire.Wire.is_unflushed.Goals as goal

pub returns-in-Unflushed : goal.returns-in-Unflushed
returns-in-Unflushed g c = rw (← c.self.view_is) (sym (ap is_unflushed c.in-Unflushed.is))
