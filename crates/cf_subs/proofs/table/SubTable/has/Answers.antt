-- A row is found exactly if it is followed, and that is whether it is among the channel's and the session's.
use Rattle.std.proofs.Common.{sym, ap, ◌∙◌}
use Rattle.std.specs.Prelude.{is_some}
use Rattle.cf_subs.specs.Rows.{follows}
use Rattle.cf_subs.proofs.Finds.{place_is}
use Rattle.cf_subs.proofs.Members.{among_channels, among_sessions}
use Rattle.cf_subs.proofs.table.SubTable.has.Goals as goal

pub returns-clause-followed : goal.returns-clause-followed
returns-clause-followed c =
    c.is_some.ensures ∙ ap is_some c.find.ensures
    ∙ place_is c.self.inside.rows.row_blocks.blocks.held c.args.channel c.args.session
    ∙ ap (λ l. follows l c.args.channel c.args.session) c.self.view_is

pub returns-clause-in_channel : goal.returns-clause-in_channel
returns-clause-in_channel c =
    returns-clause-followed c ∙ sym (among_sessions c.args.self.now c.args.channel c.args.session)

pub returns-clause-in_session : goal.returns-clause-in_session
returns-clause-in_session c =
    returns-clause-followed c ∙ sym (among_channels c.args.self.now c.args.channel c.args.session)
