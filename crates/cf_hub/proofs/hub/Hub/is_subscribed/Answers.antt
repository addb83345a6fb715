-- A row's place is there exactly if the definition has the session subscribed.
use Rattle.std.proofs.Common.{◌∙◌, is_some, ap}
use Rattle.cf_hub.specs.Hub.{sub_at}
use Rattle.cf_hub.proofs.Checks.{is_placed}
use Rattle.cf_hub.proofs.hub.Hub.is_subscribed.Goals as goal

pub returns : goal.returns
returns c = c.is_some.ensures ∙ ap is_some c.position_of.ensures
    ∙ is_placed (sub_at c.args.self.now c.args.session c.args.channel.now)
