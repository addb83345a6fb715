-- A caller of `tell`, whose clauses it hands on; the namespaces are those of the streams, which stay.
use Rattle.std.proofs.Common.{ap}
use Rattle.cf_stream.specs.Streams.{StreamMap}
use Rattle.cf_speak.proofs.local_node.LocalNodeCommandExecutor.say.Goals as goal

pub returns-clause-does : goal.returns-clause-does
returns-clause-does c = record { remembered = c.tell.ensures.short; step = c.tell.ensures.says }

pub returns-clause-namespaces : goal.returns-clause-namespaces
returns-clause-namespaces c = ap (λ (k : StreamMap). k.namespaces) c.tell.ensures.streams
