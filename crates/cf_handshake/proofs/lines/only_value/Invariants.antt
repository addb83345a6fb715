use Rattle.std.proofs.Common.{◌≡◌, drop}
use Rattle.websocket.specs.Headers.{fields_of}
use Rattle.cf_handshake.specs.Lines.{values_of}
use Rattle.cf_handshake.proofs.Values.{after}
use Rattle.cf_handshake.proofs.lines.only_value.Given as goal

abbrev pub invariant-loop-line : goal.invariant-loop-line
invariant-loop-line l =
    values_of (fields_of l.head l.lines) l.name ≡ after l.found
    (values_of (fields_of l.head (drop l.line-index l.lines)) l.name)
