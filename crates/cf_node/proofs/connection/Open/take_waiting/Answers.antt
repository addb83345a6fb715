-- A caller of the desk's `take_waiting`, whose clause it hands on.
use Rattle.cf_node.proofs.connection.Open.take_waiting.Goals as goal

-- what its desk takes is all that is taken
pub returns-clause-takes : goal.returns-clause-takes
returns-clause-takes g c = c.take_waiting.ensures.takes
