-- In the one arm that isn't answered at once, the asked position is that of the client.
use Rattle.std.proofs.Common.{sym, subst}
use Rattle.cf_client.specs.ClientView.{state_of}
use Rattle.cf_world.specs.ClientTie.{AsksFrom, request_by}
use Rattle.cf_world.specs.declared.client_command.ClientCommand.{ClientCommand}
use Rattle.cf_world.proofs.clients.Peer.send.Goals as goal

pub returns-in-AskFrom-clause-since : goal.returns-in-AskFrom-clause-since
returns-in-AskFrom-clause-since c =
    subst (λ (e : ClientCommand). AsksFrom (request_by e (state_of c.args.self.now.client).client))
    (sym c.in-AskFrom.is) c.ask_from.ensures.regular
