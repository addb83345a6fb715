-- The loop keeps that the values are those found and those still to come; a second one is found to be two.
use Rattle.std.proofs.Common.{sym, ap, ◌∙◌}
use Rattle.websocket.specs.Headers.{eq_ignore_case}
use Rattle.cf_handshake.proofs.Values.{named_from, two_values}
use Rattle.cf_handshake.proofs.lines.only_value.Goals as goal

pub returns-then-is_some : goal.returns-then-is_some
returns-then-is_some c =
    let same = ap (λ word. eq_ignore_case word c.args.name.now) (sym c.of.ensures) ∙ sym c.is_same_word.ensures
    ∙ c.if-is_same_word.true in
    let more = named_from c.args.head.now c.args.name.now c.args.lines.now c.loop-line.line-index
    _ c.loop-line-test.true same in
    two_values c.loop-line.found _ _ (sym c.is_some.ensures ∙ c.if-is_some.true) c.loop-line.invariant more
