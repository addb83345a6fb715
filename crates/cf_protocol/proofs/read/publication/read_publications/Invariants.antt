use Rattle.std.proofs.Common.{List}
use Rattle.cf_json.specs.Grammar.{Tree}
use Rattle.cf_protocol.specs.Fields.{object_as}
use Rattle.cf_protocol.specs.Reading.{Stand}
use Rattle.cf_protocol.specs.Reply.{publication}
use Rattle.cf_protocol.proofs.ItemsRead.{AreRead}
use Rattle.cf_protocol.proofs.read.publication.read_publications.Given as goal

abbrev pub invariant-loop-span : goal.invariant-loop-span
invariant-loop-span l =
    (ts : List Tree) → Stand l.members.text.now l.span-items ts
    → AreRead (object_as publication) ts l.span-index l.publications.items
