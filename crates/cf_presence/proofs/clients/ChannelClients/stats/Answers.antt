-- The count of clients is the map's length, and that of users the length of the counts, by the invariant.
use Rattle.std.proofs.Common.{◌∙◌}
use Rattle.cf_presence.proofs.Rooms.{len-by_text}
use Rattle.cf_presence.proofs.UserCounts.{users_len}
use Rattle.cf_presence.proofs.clients.ChannelClients.stats.Goals as goal

pub returns-clause-clients : goal.returns-clause-clients
returns-clause-clients c = rw (← c.self.view_is, len-by_text c.self.inside.map c.len.ensures.ordered, c.len.ensures.len)

pub returns-clause-users : goal.returns-clause-users
returns-clause-users c =
    rw (← c.self.view_is) (c.len-2.ensures.len ∙ users_len c.self.inside.users c.self.inside.map c.len-2.ensures.ordered
    c.len.ensures.ordered c.self.invariant)
