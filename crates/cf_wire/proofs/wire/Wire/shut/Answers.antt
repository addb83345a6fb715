-- By whether the connection can write, and whether the code may be sent.
use Rattle.std.proofs.Common.{◌≡◌, true, false, ap, subst}
use Rattle.websocket.specs.CloseCode.{close_code_of, is_allowed}
use Rattle.websocket.specs.Connection.{can_write, has_allowed_code}
use Rattle.tungstenite.specs.Content as content
use Rattle.cf_queue.specs.declared.queue.Out.TheVariants.{Close}
use Rattle.cf_wire.specs.Stages.{WireState}
use Rattle.cf_wire.specs.Turn.{Settles}
use Rattle.cf_wire.proofs.Turns.{settles, settles_close, settles_barred, puts_spent, fails_spent}
use Rattle.cf_wire.proofs.wire.Wire.shut.Goals as goal

pub returns-then-not-can_write-clause-put : goal.returns-then-not-can_write-clause-put
returns-then-not-can_write-clause-put g c =
    let spent : can_write c.self.inside.socket.conn.state ≡ false =
    cc (c.can_write.ensures, c.if-not-can_write.true) in
    let P : WireState g.row.S.Denot → Type 0 =
    λ v. Settles g.S.Write.contents v.socket (Close c.args.code) c.settle.new.self.socket c.settle.new.self.stage in
    subst P c.self.view_is
    (settles g.S.Write.contents _ _ _ (Close c.args.code) _ c.close-answer.result
    (puts_spent g.S.Write.contents _ _ c.args.code _ c.close-answer.result c.frame_of-frame.ensures
    c.close-answer.ensures.wrote)
    c.close-answer.ensures.empty
    (fails_spent g.S.Write.contents _ _ c.args.code _ c.close-answer.result c.frame_of-frame.ensures spent
    c.close-answer.ensures.failed c.close-answer.ensures.stream_failed c.close-answer.ensures.memory)
    c.settle.ensures.same c.settle.ensures.ok c.settle.ensures.err)

pub returns-then-not-is_allowed-clause-put : goal.returns-then-not-is_allowed-clause-put
returns-then-not-is_allowed-clause-put g c =
    let writes : can_write c.self.inside.socket.conn.state ≡ true =
    cc (c.can_write.ensures, c.if-not-can_write.false) in
    let same : is_allowed c.frame_of-frame.result.code ≡ is_allowed (close_code_of c.args.code) =
    ap has_allowed_code c.frame_of-frame.ensures in
    let barred : is_allowed (close_code_of c.args.code) ≡ false =
    cc (same, c.is_allowed.ensures, c.if-not-is_allowed.true) in
    let kept : can_write c.args.self.now.socket.conn.state ≡ true =
    subst (λ (v : WireState g.row.S.Denot). can_write v.socket.conn.state ≡ true) c.self.view_is writes in
    settles_barred g.S.Write.contents _ _ c.args.code _ kept barred c.settle-then-not-is_allowed.ensures.same
    c.settle-then-not-is_allowed.ensures.err

pub returns-clause-put : goal.returns-clause-put
returns-clause-put g c =
    let writes : can_write c.self.inside.socket.conn.state ≡ true =
    cc (c.can_write.ensures, c.if-not-can_write.false) in
    let kept : can_write c.args.self.now.socket.conn.state ≡ true =
    subst (λ (v : WireState g.row.S.Denot). can_write v.socket.conn.state ≡ true) c.self.view_is writes in
    let same : is_allowed c.frame_of-frame.result.code ≡ is_allowed (close_code_of c.args.code) =
    ap has_allowed_code c.frame_of-frame.ensures in
    let allowed : is_allowed (close_code_of c.args.code) ≡ true =
    cc (same, c.is_allowed.ensures, c.if-not-is_allowed.false) in
    settles_close g.S.Write.contents _ _ c.args.code _ _ (ap content.close c.frame_of-frame.ensures) kept allowed
    c.send_close.ensures.sent
