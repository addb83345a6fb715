use Rattle.std.proofs.Common.{map}
use Rattle.cf_protocol.specs.Shown.{shown_outgoing}
use Rattle.cf_client.specs.ClientCalls.{TakesAll}
use Rattle.cf_client.specs.Draft.{drafted}
use Rattle.cf_client.specs.Shown.{known_state, shown_item}
use Rattle.cf_client.proofs.draft.draft_of.Given as goal

abbrev pub invariant-loop-outgoing : goal.invariant-loop-outgoing
invariant-loop-outgoing l =
    TakesAll (map shown_outgoing l.yielded) (known_state l.known) (drafted l.known l.draft)
    (map shown_item l.draft.events.items)
