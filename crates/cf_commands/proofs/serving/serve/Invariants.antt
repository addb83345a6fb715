-- What `serve_on` requires holds for the names that are chosen here: those of the words and the namespaces at hand.
use Rattle.cf_broker.specs.Shards.{by_number}
use Rattle.cf_commands.proofs.serving.serve.Given as goal

-- the words that were just made, and the namespaces that were read
abbrev pub ghosts-serve_on : goal.ghosts-serve_on
ghosts-serve_on g a = record { words = by_number a.words; namespaces = a.namespaces.now }
