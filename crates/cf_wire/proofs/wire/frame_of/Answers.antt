-- Code and reason are the definition's, so the frame is (`frame_same`).
use Rattle.std.proofs.Common.{◌∙◌}
use Rattle.cf_wire.proofs.Turns.{frame_same}
use Rattle.cf_wire.proofs.wire.frame_of.Goals as goal

pub returns : goal.returns
returns c = frame_same _ _ _ _ c.from.ensures (c.from_static.ensures ∙ c.close_reason.ensures)
