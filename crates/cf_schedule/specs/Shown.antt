-- What the code's applications got in a run, as the machine has it.
use Rattle.std.specs.Prelude.{List, map}
use Rattle.cf_machine.specs.Trace.{Entry}
use Rattle.cf_world.specs.Entries.{shown_entry}
use Rattle.cf_schedule.specs.declared.trace.Trace.{Trace}

abbrev pub shown_trace : Trace → List Entry
shown_trace t = map shown_entry t.entries.items
