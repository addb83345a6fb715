use Rattle.std.proofs.Common.{◌≡◌, drop}
use Rattle.cf_protocol.specs.Settings.{entry_at, named}
use Rattle.cf_protocol.proofs.table.value_of.Given as goal

abbrev pub invariant-loop-entry : goal.invariant-loop-entry
invariant-loop-entry g l =
    entry_at (named (drop l.entry-index l.entries.items)) l.name ≡ entry_at (named l.entries.items) l.name
