use Rattle.std.proofs.Common.{List, map}
use Rattle.cf_json.specs.Grammar.{Tree}
use Rattle.cf_protocol.specs.Command.{command_of}
use Rattle.cf_protocol.specs.Reading.{Stand}
use Rattle.cf_protocol.specs.Shown.{shown_command}
use Rattle.cf_protocol.proofs.ItemsRead.{AreRead}
use Rattle.cf_protocol.proofs.read.frame.read_commands.Given as goal

abbrev pub invariant-loop-span : goal.invariant-loop-span
invariant-loop-span l =
    (ts : List Tree) → Stand l.text l.span-items ts
    → AreRead command_of ts l.span-index (map shown_command l.commands.items)
