-- By whether the connection can write, in which case a text goes by `send`, and a close by `shut`.
use Rattle.std.proofs.Common.{◌≡◌, true, inr, refl, rules, subst}
use Rattle.websocket.specs.Connection.{can_write}
use Rattle.cf_queue.specs.declared.queue.Out.TheVariants.{Text, Close}
use Rattle.cf_wire.specs.Stages.{WireState}
use Rattle.cf_wire.proofs.Turns.{settles_unasked, settles_text, kept_of}
use Rattle.cf_wire.proofs.wire.Wire.put.Goals as goal

pub returns-then-not-can_write-clause-put : goal.returns-then-not-can_write-clause-put
returns-then-not-can_write-clause-put g c =
    settles_unasked g.S.Write.contents _ _ c.args.out _ c.stop.ensures.same c.stop.ensures.over

pub returns-then-not-can_write-clause-kept : goal.returns-then-not-can_write-clause-kept
returns-then-not-can_write-clause-kept g c = inr c.stop.ensures.same

pub returns-in-Text-clause-put : goal.returns-in-Text-clause-put
returns-in-Text-clause-put g c =
    rw c.in-Text.is
    (settles_text g.S.Write.contents _ _ c.in-Text.text _ _ refl (search rules depth 1))

pub returns-in-Text-clause-kept : goal.returns-in-Text-clause-kept
returns-in-Text-clause-kept g c =
    let writes : can_write c.self.inside.socket.conn.state ≡ true =
    cc (c.can_write.ensures, c.if-not-can_write.false) in
    rw c.in-Text.is
    (kept_of g.S.Write.contents _ _ (Text c.in-Text.text) _
    (settles_text g.S.Write.contents _ _ c.in-Text.text _ _ refl c.send.ensures.sent)
    (subst (λ (v : WireState g.row.S.Denot). can_write v.socket.conn.state ≡ true) c.self.view_is writes))

pub returns-in-Close-clause-put : goal.returns-in-Close-clause-put
returns-in-Close-clause-put g c = rw c.in-Close.is c.shut.ensures.put

pub returns-in-Close-clause-kept : goal.returns-in-Close-clause-kept
returns-in-Close-clause-kept g c =
    let writes : can_write c.self.inside.socket.conn.state ≡ true =
    cc (c.can_write.ensures, c.if-not-can_write.false) in
    rw c.in-Close.is
    (kept_of g.S.Write.contents _ _ (Close c.in-Close.code) _ c.shut.ensures.put
    (subst (λ (v : WireState g.row.S.Denot). can_write v.socket.conn.state ≡ true) c.self.view_is writes))
