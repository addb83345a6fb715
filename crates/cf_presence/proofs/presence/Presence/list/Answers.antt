-- A channel with nobody lists nothing; another lists what its clients do, carried over the view.
use Rattle.cf_presence.proofs.Texts.{get-by_text}
use Rattle.cf_presence.proofs.Lists.{users_of-empty}
use Rattle.cf_presence.proofs.presence.Presence.list.Goals as goal

pub returns-in-None : goal.returns-in-None
returns-in-None c = rw (← c.self.view_is, get-by_text, ← c.in-None.ensures.value, users_of-empty, c.new.ensures.empty)

pub returns-in-Some : goal.returns-in-Some
returns-in-Some c = rw (← c.self.view_is, get-by_text, ← c.in-Some.ensures.value) c.list.ensures
