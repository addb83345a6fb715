-- How the machine says and keeps things is how a session speaks in notes, by cf_model; and how long a command's one
-- text is. Before a reply all places are kept that came: if a node gives them up, it finishes as if too many had
-- come (see LooseRun).
use Rattle.std.specs.Prelude.{ℕ, length}
use Rattle.cf_protocol.specs.Note.{Lists}
use Rattle.cf_protocol.specs.Request.{Command}
use Rattle.cf_protocol.specs.Written.{command_text}
use Rattle.cf_model.specs.Sessions.{spoken}
use Rattle.cf_machine.specs.Session.{Words}

unfoldable pub command_length : Command → ℕ
command_length k = length (command_text k)

abbrev pub wording : Lists → Words
wording lists = spoken lists
