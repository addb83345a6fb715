-- The session asks for a begin, and what is left of its script is what comes after the answer to that.
use Rattle.std.proofs.Common.{◌≡◌, ◌∙◌, ap, inl, rules, Some, string_bytes}
use Rattle.cf_session.specs.CommandScripts.{after_begin}
use Rattle.cf_session.specs.SessionMachine.{Out}
use Rattle.cf_session.specs.Shown.{shown_action}
use Rattle.cf_session.specs.Standing.{rest_of, progress_of}
use Rattle.cf_session.specs.declared.kind.CommandKind.TheVariants as kind
use Rattle.cf_session.proofs.session.Session.begin.Goals as goal

pub returns-clause-acts : goal.returns-clause-acts
returns-clause-acts c who =
    let channel = string_bytes c.args.channel in
    let goes : progress_of c.call.new.self ≡ Out kind.Begin
    (after_begin c.args.id channel channel c.args.since.now (rest_of c.args.self.now)) = search rules in
    inl (
      record { acts = ap (λ a. Some (shown_action a)) c.call.ensures.action; goes = goes },
      c.call.ensures.refusals ∙ c.requires.fresh,
    )
