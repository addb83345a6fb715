-- Each clause is a law of the theory, with its arguments in order.
use Rattle.cf_running_ties.proofs.ShardCalls.{forgets, publishes, sizes, trims, uses}
use Rattle.cf_running_ties.proofs.Gained.{goes_on}
use Rattle.cf_running_ties.proofs.ShardReads.{reads}
use Rattle.cf_running_ties.proofs.ShardTicks.{ticks}
use Rattle.cf_running_ties.proofs.laws.shard_calls_are_sections.Goals as goal

pub returns-clause-publishes : goal.returns-clause-publishes
returns-clause-publishes c = λ config k log channel key d p repeated is gained drawn last answer set_up.
    publishes config k log is channel key d p repeated gained drawn last answer set_up

pub returns-clause-uses : goal.returns-clause-uses
returns-clause-uses c = λ config k log channel e is drawn. uses config k log is channel e drawn

pub returns-clause-trims : goal.returns-clause-trims
returns-clause-trims c = λ config k log channel n is. trims config k log is channel n

pub returns-clause-forgets : goal.returns-clause-forgets
returns-clause-forgets c = λ config k log channel is. forgets config k log is channel

pub returns-clause-sizes : goal.returns-clause-sizes
returns-clause-sizes c = sizes

pub returns-clause-reads : goal.returns-clause-reads
returns-clause-reads c =
    λ config k log channel since p recovered items l is r e. reads config k log is channel since p recovered items l r e

pub returns-clause-ticks : goal.returns-clause-ticks
returns-clause-ticks c = λ config k log now is. ticks config k log is now

pub returns-clause-gained : goal.returns-clause-gained
returns-clause-gained c = goes_on
