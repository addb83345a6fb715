-- Each clause is a law of the theory, cited by name or with its arguments in order.
use Rattle.cf_running_ties.proofs.Links.{accepted, offered, others, receives, repeated, sends, starts, stays}
use Rattle.cf_running_ties.proofs.laws.links_carry_what_is_listed.Goals as goal

pub returns-clause-accepted : goal.returns-clause-accepted
returns-clause-accepted c = accepted c.what_is_said_stays.ensures.listed

pub returns-clause-repeated : goal.returns-clause-repeated
returns-clause-repeated c = repeated

pub returns-clause-stays : goal.returns-clause-stays
returns-clause-stays c = stays

pub returns-clause-offered : goal.returns-clause-offered
returns-clause-offered c =
    λ nodes count channel position datum first last old new left h n. offered channel position datum nodes count first
    last old new left h n

pub returns-clause-sent : goal.returns-clause-sent
returns-clause-sent c = sends

pub returns-clause-received : goal.returns-clause-received
returns-clause-received c = λ site s n x sent received left h k. receives site s n x sent received h left k

pub returns-clause-others : goal.returns-clause-others
returns-clause-others c = others

pub returns-clause-starts : goal.returns-clause-starts
returns-clause-starts c = starts
