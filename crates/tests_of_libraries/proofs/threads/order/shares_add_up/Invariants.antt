-- The brand of the shares is given its meaning: the word that was just made.
use Rattle.tests_of_libraries.proofs.threads.order.shares_add_up.Given as goal

-- the word that was just made
abbrev pub ghosts-add_up : goal.ghosts-add_up
ghosts-add_up g a = record { word = a.word.now }
