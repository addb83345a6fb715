-- A caller of `hear`, whose clause it hands on.
use Rattle.cf_session.proofs.session.Session.on_text.Goals as goal

pub returns-clause-hears : goal.returns-clause-hears
returns-clause-hears c = c.hear.ensures.hears
