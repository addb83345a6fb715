-- A new session and a new node are those that the definition begins with, so what `serve_lines` promises is said of
-- them.
use Rattle.std.proofs.Common.{sym}
use Rattle.cf_speak.proofs.conversation.converse.Goals as goal

pub returns-clause-done : goal.returns-clause-done
returns-clause-done g c =
    rw (sym c.in_ok-node.ensures) (rw (sym c.new-session.ensures.progress)
    (rw (sym c.new-session.ensures.tables) c.serve_lines.ensures.done))

pub returns-clause-not_utf8 : goal.returns-clause-not_utf8
returns-clause-not_utf8 g c =
    rw (sym c.in_ok-node.ensures) (rw (sym c.new-session.ensures.progress)
    (rw (sym c.new-session.ensures.tables) c.serve_lines.ensures.not_utf8))
