-- The loop keeps that the lines of the entries so far are written.
use Rattle.std.proofs.Common.{◌≡◌, take}
use Rattle.std.specs.Prelude.{string_bytes}
use Rattle.cf_simulate.proofs.Writing.{lines_of_entries}
use Rattle.cf_simulate.proofs.simulation.entry_lines.Given as goal

abbrev pub invariant-loop-entry : goal.invariant-loop-entry
invariant-loop-entry l = string_bytes l.lines ≡ lines_of_entries (take l.entry-index l.entries)
