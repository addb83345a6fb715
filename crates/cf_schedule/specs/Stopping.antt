-- Where a run stops for want of memory.
use Rattle.std.specs.Prelude.{◌≡◌, ℕ, ◌≤◌, List, length, take}
use Rattle.cf_machine.specs.Config.{Config}
use Rattle.cf_machine.specs.Event.{Event}
use Rattle.cf_machine.specs.LooseRun.{lines}
use Rattle.cf_machine.specs.StreamSafety.{Safe}
use Rattle.cf_machine.specs.Told.{trace}
use Rattle.cf_machine.specs.World.{start}
use Rattle.cf_schedule.specs.Shown.{shown_trace}
use Rattle.cf_schedule.specs.declared.trace.Trace.{Trace}
use Rattle.cf_schedule.specs.declared.whole.Stopped.{Stopped}
use Rattle.cf_schedule.specs.declared.whole.Stopped.TheVariants.{Memory}

-- The first `done` events were carried out, and this is their trace, which is safe.
pub record Carries (cfg : Config) (es : List Event) (done : ℕ) (t : Trace) : Type 0 where
  pub within : done ≤ length es
  pub whole : shown_trace t ≡ trace cfg 1 start (take done es)
  pub safe : Safe cfg (lines (take done es)) (shown_trace t)

abbrev pub Stops : Config → List Event → Stopped → Type 0
Stops cfg es (Memory done t) = Carries cfg es done t
