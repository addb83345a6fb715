-- What the socket's `send` promises of each answer.
use Rattle.std.proofs.Common.{None, inl, refl, subst}
use Rattle.tungstenite.specs.Content as content
use Rattle.cf_wire.specs.Stages.{WireState}
use Rattle.cf_wire.specs.Turn.{Sends}
use Rattle.cf_wire.specs.declared.end.Stage.TheVariants.{Open}
use Rattle.cf_wire.proofs.Turns.{sends_not}
use Rattle.cf_wire.proofs.wire.Wire.send.Goals as goal

pub returns-in-Ok-clause-sent : goal.returns-in-Ok-clause-sent
returns-in-Ok-clause-sent g c =
    let P : WireState g.row.S.Denot → Type 0 =
    λ v. Sends g.S.Write.contents v.socket (content.text c.args.text) None c.send.new.self Open in
    subst P c.self.view_is (inl (c.in-Ok.ensures.wrote, c.in-Ok.ensures.empty, refl))

pub returns-in-Err-clause-sent : goal.returns-in-Err-clause-sent
returns-in-Err-clause-sent g c =
    let P : WireState g.row.S.Denot → Type 0 =
    λ v. Sends g.S.Write.contents v.socket (content.text c.args.text) None c.pause.new.self.socket
    c.pause.new.self.stage in
    subst P c.self.view_is
    (sends_not g.S.Write.contents _ _ _ (content.text c.args.text) None _ c.in-Err.error c.in-Err.ensures.failed
    c.in-Err.ensures.full c.in-Err.ensures.stream_failed c.in-Err.ensures.memory c.pause.ensures.same
    c.pause.ensures.left)
