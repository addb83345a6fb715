-- A caller of `take`, whose clause it hands on.
use Rattle.cf_session.proofs.session.Session.answered.Goals as goal

pub returns-clause-goes : goal.returns-clause-goes
returns-clause-goes c = c.take.ensures.goes
