-- A channel with nobody counts nothing; another counts what its clients do, carried over the view.
use Rattle.std.proofs.Common.{sym}
use Rattle.std.specs.Ordering.{nat_cmp}
use Rattle.std.specs.Cmp.Lexicographic.{slice_cmp}
use Rattle.std.specs.FinMap as fin
use Rattle.cf_presence.proofs.Texts.{get-by_text}
use Rattle.cf_presence.proofs.Lists.{user_count-empty}
use Rattle.cf_presence.specs.Presence.{Seen}
use Rattle.cf_presence.proofs.presence.Presence.stats.Goals as goal

pub returns-in-None-clause-clients : goal.returns-in-None-clause-clients
returns-in-None-clause-clients c =
    rw (← c.self.view_is, get-by_text, ← c.in-None.ensures.value) (sym (fin.len-empty (slice_cmp nat_cmp) Seen))

pub returns-in-None-clause-users : goal.returns-in-None-clause-users
returns-in-None-clause-users c = rw (← c.self.view_is, get-by_text, ← c.in-None.ensures.value) (sym user_count-empty)

pub returns-in-Some-clause-clients : goal.returns-in-Some-clause-clients
returns-in-Some-clause-clients c = rw (← c.self.view_is, get-by_text, ← c.in-Some.ensures.value) c.stats.ensures.clients

pub returns-in-Some-clause-users : goal.returns-in-Some-clause-users
returns-in-Some-clause-users c = rw (← c.self.view_is, get-by_text, ← c.in-Some.ensures.value) c.stats.ensures.users
