-- By the two names and then by the word: each arm is that kind of line, and a name that can't be read is refused.
use Rattle.std.proofs.Common.{codes, rules, subst}
use Rattle.std.proofs.lemmas.Result.{err_from_is_err_and}
use Rattle.cf_schedule.specs.Word.{IsClientName, IsChannelName}
use Rattle.cf_schedule.proofs.Spacing.{never_cut, unspaced_client}
use Rattle.cf_schedule.proofs.Refusals.{last_in_channel, line_in_channel, none_in_channel, refused_name, same_cut}
use Rattle.cf_schedule.proofs.event.in_channel.Goals as goal

pub returns-in_default : goal.returns-in_default
returns-in_default c =
    λ nodes is. none_in_channel nodes c.args.word.now c.args.text.now is
    (λ x d client channel e. never_cut c.args.text.now x d c.in_default.ensures e)

pub returns-in_err-client : goal.returns-in_err-client
returns-in_err-client c = λ nodes is.
    let p = err_from_is_err_and c.from_residual.result c.from_residual.ensures.1 in
    rw (p.1, p.2) (refused_name _ _ _ c.in_err-client.ensures.unreadable
    (λ not_name. none_in_channel nodes c.args.word.now c.args.text.now is (λ x d client channel e.
    let cut = same_cut c.args.text.now c.in-Some.client.now c.in-Some.channel.now x d c.in-Some.ensures
    (unspaced_client x client) e in
    not_name (subst IsClientName cut.0 client))))

pub returns-in_err-channel : goal.returns-in_err-channel
returns-in_err-channel c = λ nodes is.
    let p = err_from_is_err_and c.from_residual-in_err-channel.result c.from_residual-in_err-channel.ensures.1 in
    rw (p.1, p.2) (refused_name _ _ _ c.in_err-channel.ensures.unreadable
    (λ not_name. none_in_channel nodes c.args.word.now c.args.text.now is (λ x d client channel e.
    let cut = same_cut c.args.text.now c.in-Some.client.now c.in-Some.channel.now x d c.in-Some.ensures
    (unspaced_client x client) e in
    not_name (subst IsChannelName cut.1 channel))))

pub returns-in-ask : goal.returns-in-ask
returns-in-ask c =
    λ nodes is. (
      search rules,
      search rules,
      line_in_channel c.args.word.now (codes "ask") c.args.text.now
          c.in-Some.client.now c.in-Some.channel.now _ _ c.in-ask.is c.in-Some.ensures c.in_ok-client.ensures.ok
          c.in_ok-channel.ensures.ok,
    )

pub returns-in-askfrom : goal.returns-in-askfrom
returns-in-askfrom c =
    λ nodes is. (
      search rules,
      search rules,
      line_in_channel c.args.word.now (codes "askfrom") c.args.text.now
          c.in-Some.client.now c.in-Some.channel.now _ _ c.in-askfrom.is c.in-Some.ensures c.in_ok-client.ensures.ok
          c.in_ok-channel.ensures.ok,
    )

pub returns-in-read : goal.returns-in-read
returns-in-read c =
    λ nodes is. (
      search rules,
      search rules,
      line_in_channel c.args.word.now (codes "read") c.args.text.now
          c.in-Some.client.now c.in-Some.channel.now _ _ c.in-read.is c.in-Some.ensures c.in_ok-client.ensures.ok
          c.in_ok-channel.ensures.ok,
    )

pub returns-in-finish : goal.returns-in-finish
returns-in-finish c =
    λ nodes is. (
      search rules,
      search rules,
      line_in_channel c.args.word.now (codes "finish") c.args.text.now
          c.in-Some.client.now c.in-Some.channel.now _ _ c.in-finish.is c.in-Some.ensures c.in_ok-client.ensures.ok
          c.in_ok-channel.ensures.ok,
    )

pub returns-in-leave : goal.returns-in-leave
returns-in-leave c =
    λ nodes is. (
      search rules,
      search rules,
      line_in_channel c.args.word.now (codes "leave") c.args.text.now
          c.in-Some.client.now c.in-Some.channel.now _ _ c.in-leave.is c.in-Some.ensures c.in_ok-client.ensures.ok
          c.in_ok-channel.ensures.ok,
    )

pub returns-in_default-word : goal.returns-in_default-word
returns-in_default-word c = λ nodes is.
    let d = c.in_default-word in
    let check = last_in_channel c.args.word.now is d.not-ask d.not-askfrom d.not-read d.not-finish d.not-leave in (
      search rules,
      search rules,
      line_in_channel c.args.word.now (codes "check") c.args.text.now c.in-Some.client.now
          c.in-Some.channel.now _ _ check c.in-Some.ensures c.in_ok-client.ensures.ok c.in_ok-channel.ensures.ok,
    )
