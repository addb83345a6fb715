use Rattle.std.proofs.Common.{◌≡◌, None, length}
use Rattle.std.specs.Map.{update_all}
use Rattle.std.specs.Str.{bytes_eq}
use Rattle.cf_presence.proofs.Lists.{told, pairs}
use Rattle.cf_presence.proofs.clients.ChannelClients.list.Given as goal

abbrev pub invariant-loop-client : goal.invariant-loop-client
invariant-loop-client l =
    update_all bytes_eq (told l.users) (pairs l.rest)
    ≡ update_all bytes_eq (λ _. None) (pairs l.self-inside.map.entries)

abbrev pub decreases-loop-client : goal.decreases-loop-client
decreases-loop-client l = length l.rest
