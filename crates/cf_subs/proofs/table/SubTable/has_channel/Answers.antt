-- The channel has a first row exactly if somebody follows it.
use Rattle.std.proofs.Common.{sym, ◌∙◌, ap}
use Rattle.std.specs.Prelude.{is_some}
use Rattle.cf_subs.proofs.Members.{first_is_some, no_channel, no_followers, no_sessions}
use Rattle.cf_subs.proofs.table.SubTable.has_channel.Goals as goal

pub returns-clause-followed : goal.returns-clause-followed
returns-clause-followed c =
    c.is_some.ensures ∙ ap is_some c.first.ensures.first ∙ first_is_some c.args.self.now c.args.channel

pub returns-clause-none : goal.returns-clause-none
returns-clause-none c = (
  λ h. no_sessions c.args.self.now c.args.channel (sym (returns-clause-followed c) ∙ h),
  λ h. returns-clause-followed c ∙ no_channel c.args.self.now c.args.channel h,
)

pub returns-clause-members : goal.returns-clause-members
returns-clause-members c = λ h s. no_followers c.args.self.now c.args.channel s (sym (returns-clause-followed c) ∙ h)
