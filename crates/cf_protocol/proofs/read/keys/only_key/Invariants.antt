use Rattle.std.proofs.Common.{drop}
use Rattle.cf_protocol.specs.Fields.{Fields}
use Rattle.cf_protocol.specs.Reading.{Reads, each_under, with_value}
use Rattle.cf_protocol.proofs.Choices.{HasFound}
use Rattle.cf_protocol.proofs.read.keys.only_key.Given as goal

abbrev pub invariant-loop-entry : goal.invariant-loop-entry
invariant-loop-entry g l =
    (fs : Fields) → Reads l.members.text.now l.members.found.items fs
    → HasFound l.members.text.now with_value l.only (each_under with_value l.keys fs)
    (each_under with_value (drop l.entry-index l.keys) fs)
