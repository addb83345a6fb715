-- What `leave_in` promises of the map is carried over the view.
use Rattle.cf_presence.proofs.Texts.{get-by_text}
use Rattle.cf_presence.proofs.Rooms.{puts}
use Rattle.cf_presence.proofs.presence.Presence.leave.Goals as goal

pub returns : goal.returns
returns c = rw (← c.self.view_is, get-by_text)
    (puts c.self.inside.map c.leave_in.new.map c.args.channel.now _ c.leave_in.ensures)
