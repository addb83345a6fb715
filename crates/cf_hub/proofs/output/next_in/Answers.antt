-- The loop keeps that the numbers taken so far name no session with output (`IsNaming`).
use Rattle.cf_hub.specs.Hub.{attached_in}
use Rattle.cf_hub.proofs.Naming.{begins_naming}
use Rattle.cf_hub.proofs.output.next_in.Goals as goal

pub loop-number-init : goal.loop-number-init
loop-number-init c = begins_naming (attached_in c.args.sessions.now) c.args.pending.now
