-- The map's answer, carried over the view.
use Rattle.cf_presence.proofs.Rooms.{is_empty-by_text}
use Rattle.cf_presence.proofs.clients.ChannelClients.is_empty.Goals as goal

pub returns : goal.returns
returns c = rw (← c.self.view_is) (is_empty-by_text c.self.inside.map c.is_empty.result c.is_empty.ensures)
