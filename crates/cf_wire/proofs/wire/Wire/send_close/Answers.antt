-- What the socket's `write` promises, and its `flush` behind it (`sends_written`).
use Rattle.std.proofs.Common.{Some, subst}
use Rattle.tungstenite.specs.Content as content
use Rattle.tungstenite.specs.Socket.{close_of}
use Rattle.cf_wire.specs.Stages.{WireState}
use Rattle.cf_wire.specs.Turn.{Sends}
use Rattle.cf_wire.proofs.Turns.{sends_not, sends_written}
use Rattle.cf_wire.proofs.wire.Wire.send_close.Goals as goal

pub returns-in-Ok-clause-sent : goal.returns-in-Ok-clause-sent
returns-in-Ok-clause-sent g c =
    let P : WireState g.row.S.Denot → Type 0 =
    λ v. Sends g.S.Write.contents v.socket (content.close (close_of (Some c.args.frame))) (Some c.args.code)
    c.flush.new.self.socket c.flush.new.self.stage in
    subst P c.self.view_is
    (sends_written g.S.Write.contents _ _ _ (content.close (close_of (Some c.args.frame))) (Some c.args.code) _
    c.in-Ok.ensures.wrote c.flush.ensures.flushed c.flush.ensures.leaves)

pub returns-in-Err-clause-sent : goal.returns-in-Err-clause-sent
returns-in-Err-clause-sent g c =
    let P : WireState g.row.S.Denot → Type 0 =
    λ v. Sends g.S.Write.contents v.socket (content.close (close_of (Some c.args.frame))) (Some c.args.code)
    c.pause.new.self.socket c.pause.new.self.stage in
    subst P c.self.view_is
    (sends_not g.S.Write.contents _ _ _ (content.close (close_of (Some c.args.frame))) (Some c.args.code) _
    c.in-Err.error c.in-Err.ensures.failed c.in-Err.ensures.full c.in-Err.ensures.stream_failed
    c.in-Err.ensures.memory c.pause.ensures.same c.pause.ensures.left)
