use Rattle.std.proofs.Common.{◌≡◌, flat_map, map}
use Rattle.cf_client.specs.Shown.{shown_item}
use Rattle.cf_machine.specs.Told.{entries}
use Rattle.cf_world.specs.Entries.{shown_entry}
use Rattle.cf_world.specs.Items.{told_of}
use Rattle.cf_world.proofs.taking.entries.Given as goal

abbrev pub invariant-loop-event : goal.invariant-loop-event
invariant-loop-event l = record {
  told : map shown_entry l.entries.items ≡ entries l.at l.name (flat_map told_of (map shown_item l.yielded));
}
