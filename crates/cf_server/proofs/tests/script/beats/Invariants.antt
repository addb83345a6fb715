-- The brand of the two nodes is given its meaning: the words by their numbers, and the namespaces of the settings.
use Rattle.cf_broker.specs.Shards.{by_number}
use Rattle.cf_server.proofs.tests.script.beats.Given as goal

-- the words that were just made, and the namespaces that were read
abbrev pub ghosts-two_nodes : goal.ghosts-two_nodes
ghosts-two_nodes g a = record { words = by_number a.words; namespaces = a.settings.now.namespaces }
