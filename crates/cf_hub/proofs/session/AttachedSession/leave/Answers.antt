-- What the table promises of the entry that is taken out is said of the state.
use Rattle.std.proofs.Common.{None}
use Rattle.cf_hub.proofs.Puts.{put_state}
use Rattle.cf_hub.proofs.session.AttachedSession.leave.Goals as goal

pub returns-clause-state : goal.returns-clause-state
returns-clause-state c =
    put_state c.args.self.now.subscriptions c.take_out.new.subscriptions c.args.channel.now None c.args.self.now.queue
    c.take_out.ensures.gone
