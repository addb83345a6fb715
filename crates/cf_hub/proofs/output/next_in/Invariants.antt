use Rattle.std.proofs.Common.{length}
use Rattle.cf_hub.specs.Hub.{attached_in}
use Rattle.cf_hub.proofs.Naming.{IsNaming}
use Rattle.cf_hub.proofs.output.next_in.Given as goal

abbrev pub invariant-loop-number : goal.invariant-loop-number
invariant-loop-number l = IsNaming (attached_in l.sessions) l.fn.pending l.pending

abbrev pub decreases-loop-number : goal.decreases-loop-number
decreases-loop-number l = length l.pending.numbers
