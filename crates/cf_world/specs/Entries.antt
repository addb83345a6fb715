-- What the code's applications got, as the machine has it: texts by their bytes.
use Rattle.std.specs.String.{string_bytes}
use Rattle.cf_machine.specs.Trace.{Entry}
use Rattle.cf_world.specs.Items.{got}
use Rattle.cf_world.specs.declared.entry.Entry.{Entry as CodeEntry}

abbrev pub shown_entry : CodeEntry → Entry
shown_entry e = record { at = e.at; client = string_bytes e.client; item = got e.item e.is_got }
