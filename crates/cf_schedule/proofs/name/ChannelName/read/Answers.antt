-- The test of the text decides whether it is a name, and only memory is left as another reason.
use Rattle.std.proofs.Common.{◌∙◌, refl, subst, sym}
use Rattle.std.proofs.lemmas.Bool.{false≢true}
use Rattle.std.proofs.lemmas.Result.{err_from_is_err_and}
use Rattle.cf_schedule.specs.Word.{IsChannelName}
use Rattle.cf_schedule.proofs.name.ChannelName.read.Goals as goal

pub invariant_of-result : goal.invariant_of-result
invariant_of-result c =
    subst IsChannelName (sym c.in_ok-from_str.ensures.ok)
    (sym c.is_channel_name.ensures ∙ c.if-not-is_channel_name.false)

pub returns-clause-unreadable : goal.returns-clause-unreadable
returns-clause-unreadable c =
    (λ e. absurd (cc (e)), λ no. absurd (no (sym c.is_channel_name.ensures ∙ c.if-not-is_channel_name.false)))

pub returns-then-not-is_channel_name-clause-unreadable : goal.returns-then-not-is_channel_name-clause-unreadable
returns-then-not-is_channel_name-clause-unreadable c =
    (λ e is. absurd (false≢true (sym c.if-not-is_channel_name.true ∙ (c.is_channel_name.ensures ∙ is))), λ no. refl)

pub returns-in_err-from_str-clause-unreadable : goal.returns-in_err-from_str-clause-unreadable
returns-in_err-from_str-clause-unreadable c =
    let fault = err_from_is_err_and c.from_residual.result c.from_residual.ensures.1 in (
      λ e. absurd (cc (e, fault.1, fault.2)),
      λ no. absurd
          (no (sym c.is_channel_name.ensures ∙ c.if-not-is_channel_name.false)),
    )
