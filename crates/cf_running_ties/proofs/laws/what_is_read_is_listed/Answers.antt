-- Each clause is a law of the theory, two of them from what the hub's crate promises of what is said.
use Rattle.cf_running_ties.proofs.ReadAnswers.{histories, reads, starts, stays}
use Rattle.cf_running_ties.proofs.laws.what_is_read_is_listed.Goals as goal

pub returns-clause-starts : goal.returns-clause-starts
returns-clause-starts c = starts

pub returns-clause-stays : goal.returns-clause-stays
returns-clause-stays c = stays

pub returns-clause-reads : goal.returns-clause-reads
returns-clause-reads c = λ site sections channel since p recovered items seen all position h.
    reads c.what_is_said_stays.ensures.read site sections channel since p recovered items seen all position h

pub returns-clause-histories : goal.returns-clause-histories
returns-clause-histories c = λ site sections channel limit p items seen all position h.
    histories c.what_is_said_stays.ensures.read site sections channel limit p items seen all position h
