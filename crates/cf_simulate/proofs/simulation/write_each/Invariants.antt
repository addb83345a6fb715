use Rattle.std.proofs.Common.{◌≡◌}
use Rattle.cf_machine.specs.Config.{Config}
use Rattle.cf_machine.specs.World.{start}
use Rattle.cf_world.specs.Tie.{Tied}
use Rattle.cf_simulate.proofs.Steps.{Stands}
use Rattle.cf_simulate.proofs.simulation.write_each.Given as goal

abbrev pub invariant-loop-done : goal.invariant-loop-done
invariant-loop-done g l =
    (cfg : Config) → Tied cfg l.initial.world.parts start → l.initial.world.count ≡ 0
    → Stands l.explains cfg l.world l.events l.done (g.W.Write.contents l.initial.writer) (g.W.Write.contents l.writer)
