-- Each clause is a law of the theory, cited by name, with what a list held put into one record.
use Rattle.std.proofs.Common.{◌∙◌, sym}
use Rattle.cf_hub.proofs.InNotes.{listed_stays, read_stays, session_grows}
use Rattle.cf_hub.proofs.laws.what_is_said_stays.Goals as goal

pub returns-clause-grows : goal.returns-clause-grows
returns-clause-grows c old new a b g h = session_grows g a b h

pub returns-clause-listed : goal.returns-clause-listed
returns-clause-listed c lists ch e p h r = record { stands = listed_stays lists ch e p h; regular = r }

pub returns-clause-read : goal.returns-clause-read
returns-clause-read c lists ch r missed h is regular at =
    record { listed = λ later g. read_stays lists ch r h later g ∙ sym is; regular = regular; position = at }
