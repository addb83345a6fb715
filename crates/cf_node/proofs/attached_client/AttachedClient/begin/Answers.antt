-- The session that begins in the hub is the client's own (`begins_own`); a refusal by the hub is told by its code.
use Rattle.std.proofs.Common.{ap, sym}
use Rattle.std.specs.Prelude.{Err, string_bytes}
use Rattle.cf_node.proofs.Owning.{begins_own}
use Rattle.cf_node.proofs.Refusing.{fails_to_begin}
use Rattle.cf_node.proofs.attached_client.AttachedClient.begin.Goals as goal

-- the client's own session begins what was asked for
pub returns-in-Ok-begin-clause-ok : goal.returns-in-Ok-begin-clause-ok
returns-in-Ok-begin-clause-ok g c =
    begins_own c.args.self.now.standing.number c.in-Some.number (string_bytes c.args.channel) c.args.id c.args.since
    c.args.hub.now.node c.begin.new.self.node (sym c.in-Some.ensures) c.in-Ok-begin.ensures.ok.begins

-- a refusal is told by its code
pub returns-in-Err-clause-code : goal.returns-in-Err-clause-code
returns-in-Err-clause-code g c =
    let said = c.in-Err.ensures in
    fails_to_begin c.args.self.now.standing.number c.in-Some.number (string_bytes c.args.channel) c.args.hub.now.node
    c.in-Err.refusal c.hub_error.result (sym c.in-Some.ensures) c.hub_error.ensures
    (λ is. said.already.0 (ap Err is)) (λ is. said.too_many.0 (ap Err is))
