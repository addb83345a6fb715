-- By the end: before the hub's call no session changed, after it only the new one, which is the client's own then.
use Rattle.std.proofs.Common.{ap, refl}
use Rattle.std.specs.Prelude.{Err, string_bytes}
use Rattle.cf_dispatch.specs.Standing.{Stands}
use Rattle.cf_node.proofs.Owning.{opens_own, spares_all, spares_others}
use Rattle.cf_node.proofs.Refusing.{fails_to_attach}
use Rattle.cf_node.proofs.attached_client.AttachedClient.attach.Goals as goal

-- nothing was done in the hub
pub returns-in-Err-clause-err : goal.returns-in-Err-clause-err
returns-in-Err-clause-err g c =
    spares_all c.args.self.now.standing.number c.args.hub.now.node c.args.hub.now.node (λ j. refl)

-- nor by a refused call
pub returns-in-Err-attach-clause-err : goal.returns-in-Err-attach-clause-err
returns-in-Err-attach-clause-err g c =
    spares_all c.args.self.now.standing.number c.args.hub.now.node c.attach.new.self.node
    c.in-Err-attach.ensures.err.sessions

-- the new session is its own from then on
pub returns-in-Err-from_str-clause-err : goal.returns-in-Err-from_str-clause-err
returns-in-Err-from_str-clause-err g c =
    spares_others c.attach-2.new.self.number c.in-Ok-attach.number c.args.hub.now.node c.attach.new.self.node
    (ap (λ (s : Stands). s.number) c.attach-2.ensures) c.in-Ok-attach.ensures.opens.others

pub returns-in-Err-clone-clause-err : goal.returns-in-Err-clone-clause-err
returns-in-Err-clone-clause-err g c =
    spares_others c.attach-2.new.self.number c.in-Ok-attach.number c.args.hub.now.node c.attach.new.self.node
    (ap (λ (s : Stands). s.number) c.attach-2.ensures) c.in-Ok-attach.ensures.opens.others

pub returns-in-Ok-clone-clause-ok : goal.returns-in-Ok-clone-clause-ok
returns-in-Ok-clone-clause-ok g c =
    opens_own c.attach-2.new.self.number c.in-Ok-attach.number (string_bytes c.args.user) c.args.now
    c.args.hub.now.node c.attach.new.self.node (ap (λ (s : Stands). s.number) c.attach-2.ensures)
    c.in-Ok-attach.ensures.opens

-- a refusal is told by its code
pub returns-in-Err-attach-clause-code : goal.returns-in-Err-attach-clause-code
returns-in-Err-attach-clause-code g c =
    let said = c.in-Err-attach.ensures in
    fails_to_attach c.args.hub.now.node c.in-Err-attach.refusal c.hub_error.result c.hub_error.ensures said.refusals
    (λ is. said.too_many.0 (ap Err is))

-- as is want of memory
pub returns-in-Err-clone-clause-code : goal.returns-in-Err-clone-clause-code
returns-in-Err-clone-clause-code g c = tt
