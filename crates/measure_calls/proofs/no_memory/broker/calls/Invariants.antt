-- The brand of the broker is given its meaning: the words by their numbers, and the namespaces that were read.
use Rattle.cf_broker.specs.Shards.{by_number}
use Rattle.measure_calls.proofs.no_memory.broker.calls.Given as goal

-- the words that were just made, and the namespaces that were read
abbrev pub ghosts-quiet_call : goal.ghosts-quiet_call
ghosts-quiet_call a = record { words = by_number a.words; namespaces = a.namespaces.now }
