-- A line of a schedule that can be used. (This project's own format.)
use Rattle.std.specs.Prelude.{◌⊎◌, ℕ, List}
use Rattle.cf_machine.specs.Event.{Event}
use Rattle.cf_schedule.specs.ScheduleLine.{Says, IsPassedOver}

-- it is passed over, or says an event
abbrev pub IsReadable : ℕ → List ℕ → Type 0
IsReadable nodes line = IsPassedOver line ⊎ ((e : Event) × Says nodes line e)
