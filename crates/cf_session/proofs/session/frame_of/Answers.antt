-- A text that `read_commands` calls bad is no frame of commands, which is one way to be unreadable.
use Rattle.std.proofs.Common.{inr}
use Rattle.std.proofs.lemmas.Result.{IfErr-weaker}
use Rattle.cf_session.proofs.session.frame_of.Goals as goal

pub returns-clause-bad : goal.returns-clause-bad
returns-clause-bad c =
    IfErr-weaker c.read_commands.result _ _ (λ fault no_frame is_bad. inr (no_frame is_bad)) c.read_commands.ensures.bad
