-- The table's count of the session's rows is that of its names, one for one.
use Rattle.std.proofs.Common.{◌∙◌, sym, ap, length}
use Rattle.cf_subscribers.specs.Follows.{channels_of}
use Rattle.cf_subscribers.specs.Names.{name_at}
use Rattle.cf_subscribers.proofs.ByName.{channels_named}
use Rattle.cf_subscribers.proofs.subscribers.Subscribers.count.Goals as goal

pub returns : goal.returns
returns c =
    c.channel_count.ensures ∙ sym (channels_named (name_at c.self.inside.names) c.self.inside.rows c.args.session)
    ∙ ap (λ l. length (channels_of l c.args.session)) c.self.view_is
