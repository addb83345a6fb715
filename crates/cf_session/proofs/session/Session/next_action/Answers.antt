-- A caller of `act`, whose clause it hands on.
use Rattle.cf_session.proofs.session.Session.next_action.Goals as goal

pub returns-clause-acts : goal.returns-clause-acts
returns-clause-acts c = c.act-action.ensures.acts
