-- The brand of the broker is given its meaning: the words by their numbers, and the namespaces that were read.
use Rattle.cf_broker.specs.Shards.{by_number}
use Rattle.tests_of_libraries.proofs.threads.broker.parts_are_so.Given as goal

-- the words that were just made, and the namespaces that were read
abbrev pub ghosts-play : goal.ghosts-play
ghosts-play g a = record { words = by_number a.words; namespaces = a.namespaces.now }
