use Rattle.std.proofs.Common.{map}
use Rattle.cf_protocol.specs.Writing.{Adds}
use Rattle.cf_protocol.proofs.Clients.{pair_member}
use Rattle.cf_protocol.proofs.write.outgoing.write_clients.Given as goal

abbrev pub invariant-loop-client : goal.invariant-loop-client
invariant-loop-client l = Adds l.initial.writer l.writer (map pair_member l.yielded)
