-- The session's own reading is said of all sessions by `moved_here`.
use Rattle.std.proofs.Common.{◌∙◌, refl, sym, ap}
use Rattle.std.specs.Option.{option_copied_mut}
use Rattle.cf_hub.specs.Sessions.{takes_read}
use Rattle.cf_hub.proofs.Placing.{moved_here}
use Rattle.cf_hub.proofs.Replies.{read_state}
use Rattle.cf_hub.proofs.subscriptions.read_one.Goals as goal

pub returns-in-Some-clause-here : goal.returns-in-Some-clause-here
returns-in-Some-clause-here c =
    let old = c.in-Some.session.now in
    moved_here c.args.sessions.now c.args.number old _ (takes_read c.args.recovery c.args.channel.now)
    (sym c.get_mut.ensures.value ∙ ap option_copied_mut c.in-Some.is)
    (read_state old.subscriptions c.read_at.new.subscriptions c.args.channel.now c.args.recovery old.queue
    c.read_at.ensures.after) refl
