-- The loop keeps that the lines still to be looked at answer as all do.
use Rattle.std.proofs.Common.{◌≡◌, drop}
use Rattle.websocket.specs.Headers.{fields_of}
use Rattle.cf_handshake.specs.Lines.{lists}
use Rattle.cf_handshake.proofs.lines.lists.Given as goal

abbrev pub invariant-loop-line : goal.invariant-loop-line
invariant-loop-line l =
    lists l.case l.item (fields_of l.head l.lines) l.name
    ≡ lists l.case l.item (fields_of l.head (drop l.line-index l.lines)) l.name
