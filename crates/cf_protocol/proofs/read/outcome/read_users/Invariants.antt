use Rattle.std.proofs.Common.{◌≡◌, Some}
use Rattle.cf_json.specs.Grammar.{Tree}
use Rattle.cf_protocol.specs.Fields.{Fields, as_object}
use Rattle.cf_protocol.specs.Reading.{Reads}
use Rattle.cf_protocol.proofs.Users.{Gathered}
use Rattle.cf_protocol.proofs.read.outcome.read_users.Given as goal

abbrev pub invariant-loop-client : goal.invariant-loop-client
invariant-loop-client l =
    (t : Tree) (fs : Fields) → as_object t ≡ Some fs → Reads l.clients.text.now l.clients.found.items fs
    → Gathered fs l.client-index l.users
