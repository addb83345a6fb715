-- Without a desk at the session's slot nothing is taken (`takes_nothing`).
use Rattle.std.proofs.Common.{[]}
use Rattle.cf_node.proofs.Waiting.{takes_nothing}
use Rattle.cf_node.proofs.io_loop.IoLoopOutlets.take.Goals as goal

-- where no desk stands, nothing is taken
pub returns-in_default : goal.returns-in_default
returns-in_default g c =
    record { had = []; has = []; taking = takes_nothing c.args.session c.args.hub.now.node []; getting = tt }

pub returns-in_default-2 : goal.returns-in_default-2
returns-in_default-2 g c =
    record { had = []; has = []; taking = takes_nothing c.args.session c.args.hub.now.node []; getting = tt }
