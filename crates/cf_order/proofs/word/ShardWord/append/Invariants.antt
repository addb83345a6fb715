use Rattle.cf_order.specs.Passes.{entry_of}
use Rattle.cf_order.proofs.word.ShardWord.append.Given as goal

abbrev pub ghosts-add : goal.ghosts-add
ghosts-add a = record { entry = entry_of a._entry.now }
