use Rattle.std.proofs.Common.{List}
use Rattle.cf_json.specs.Grammar.{Tree}
use Rattle.cf_protocol.specs.Reading.{Stand}
use Rattle.cf_protocol.proofs.Replies.{AreTold}
use Rattle.cf_protocol.proofs.read.frame.read_replies.Given as goal

abbrev pub invariant-loop-span : goal.invariant-loop-span
invariant-loop-span l = (ts : List Tree) → Stand l.text l.span-items ts → AreTold ts l.span-index l.replies.items
