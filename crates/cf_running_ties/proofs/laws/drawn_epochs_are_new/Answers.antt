-- Both clauses follow from what the epochs' crate promises: that two drawn ones are told apart.
use Rattle.cf_running_ties.proofs.ShardLife.{drawn, gained}
use Rattle.cf_running_ties.proofs.laws.drawn_epochs_are_new.Goals as goal

pub returns-clause-drawn : goal.returns-clause-drawn
returns-clause-drawn c = drawn c.told_apart.ensures

pub returns-clause-gained : goal.returns-clause-gained
returns-clause-gained c = gained c.told_apart.ensures
