-- The loop keeps that the count so far and the lines still to come make the count of all.
use Rattle.std.proofs.Common.{◌≡◌, ◌+◌, ◌≤◌, length, drop, codes}
use Rattle.websocket.specs.Headers.{fields_of}
use Rattle.cf_handshake.specs.Lines.{values_of}
use Rattle.cf_health.proofs.ask.count_hosts.Given as goal

abbrev pub invariant-loop-line : goal.invariant-loop-line
invariant-loop-line l =
    (l.count ≤ l.line-index)
    × (l.count + length (values_of (fields_of l.head (drop l.line-index l.lines)) (codes "Host"))
    ≡ length (values_of (fields_of l.head l.lines) (codes "Host")))
