-- The one session that is checked still says what was seen, whatever the check finds (`checks-keep`).
use Rattle.cf_hub.specs.Wordings.{plain}
use Rattle.cf_model.specs.Sessions.{checks}
use Rattle.cf_node_hub.specs.Told.{IsReply}
use Rattle.cf_node_hub.specs.Seen.{seen_lists}
use Rattle.cf_node_hub.proofs.Speaking.{checks-keep, meets-says}
use Rattle.cf_node_hub.proofs.node_hub.NodeHub.check.Goals as goal

pub invariant_of-self : goal.invariant_of-self
invariant_of-self g c =
    λ sound. let lists = seen_lists c.self.inside.seen in
    meets-says IsReply lists c.args.session (checks plain c.args.channel.now c.args.top)
    _ _ (checks-keep IsReply lists (c.moves_are_among.ensures lists) c.args.channel.now c.args.top)
    c.check.ensures.session (c.self.invariant sound)
