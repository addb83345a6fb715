use Rattle.std.proofs.Common.{◌≡◌, [], map}
use Rattle.cf_machine.specs.Config.{Config}
use Rattle.cf_machine.specs.World.{start}
use Rattle.cf_world.specs.Tie.{Tied}
use Rattle.cf_schedule.specs.Seen.{seen}
use Rattle.cf_schedule.specs.Shown.{shown_trace}
use Rattle.cf_schedule.proofs.Runs.{Stands}
use Rattle.cf_schedule.proofs.whole.carry_all.Given as goal

abbrev pub invariant-loop-done : goal.invariant-loop-done
invariant-loop-done l =
    (cfg : Config) → Tied cfg l.initial.world.parts start → l.initial.world.count ≡ 0 → shown_trace l.initial.got ≡ []
    → Stands cfg (map seen l.events) l.done l.world l.got
