-- The session for which `take_for` takes what waits is the client's own (`takes_own`, `moves_own`).
use Rattle.std.proofs.Common.{sym}
use Rattle.cf_node.proofs.Handing.{takes_own}
use Rattle.cf_node.proofs.Owning.{moves_own}
use Rattle.cf_node.proofs.attached_client.AttachedClient.take.Goals as goal

-- what is taken is taken for the client's own session
pub returns-in-Some-clause-own : goal.returns-in-Some-clause-own
returns-in-Some-clause-own g c =
    let took = c.take_for.ensures in
    takes_own c.args.self.now.standing.number c.in-Some.number c.args.outbox.now c.take_for.new.outbox
    (sym c.in-Some.ensures) (λ still. (took.nothing still).1) (λ may. (took.own may, took.takes.taken, took.takes.gained))

-- and comes into the outbox, all of it
pub returns-in-Some-clause-moves : goal.returns-in-Some-clause-moves
returns-in-Some-clause-moves g c =
    moves_own c.args.self.now.standing.number c.in-Some.number c.args.hub.now.node c.take_for.new.hub.node
    c.args.outbox.now.outs.items c.take_for.new.outbox.outs.items (sym c.in-Some.ensures) c.take_for.ensures.takes
