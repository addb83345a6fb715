-- The session for which the hub has the reply wait is the client's own (`to_own`).
use Rattle.std.proofs.Common.{sym}
use Rattle.std.specs.Prelude.{string_bytes}
use Rattle.cf_node.specs.Own.{Says}
use Rattle.cf_node.proofs.Owning.{to_own}
use Rattle.cf_node.proofs.attached_client.AttachedClient.say_history.Goals as goal

-- it is said to the client's own session
pub returns-in-Some-clause-own : goal.returns-in-Some-clause-own
returns-in-Some-clause-own g c =
    to_own (Says (string_bytes c.args.text)) c.args.self.now.standing.number c.in-Some.number c.args.hub.now.node
    c.say_history.new.self.node (sym c.in-Some.ensures) c.say_history.ensures.session
