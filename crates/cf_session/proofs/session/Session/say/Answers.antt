-- If memory is refused for a reply, the command is given up: a connect by a close, all others by an error.
use Rattle.std.proofs.Common.{inr, ap, Some, sym, ◌∙◌}
use Rattle.cf_protocol.specs.Shown.{shown_outcome}
use Rattle.cf_session.specs.Standing.{tables_of, rest_of}
use Rattle.cf_session.proofs.Steps.{falls_at_reply, falls_at_connected}
use Rattle.cf_session.proofs.session.Session.say.Goals as goal

pub returns-in-Err-clause-acts : goal.returns-in-Err-clause-acts
returns-in-Err-clause-acts c =
    inr (
    falls_at_connected (tables_of c.args.self.now) c.args.id (shown_outcome c.args.outcome) (rest_of c.args.self.now)
    _ _ _
    (sym c.is_connected-connects.ensures ∙ c.if-connects.true) (ap Some c.give_up.ensures.act)
    c.give_up.ensures.progress c.give_up.ensures.refusals
    )

pub returns-in-Err-2-clause-acts : goal.returns-in-Err-2-clause-acts
returns-in-Err-2-clause-acts c =
    inr (
    falls_at_reply (tables_of c.args.self.now) c.args.id (shown_outcome c.args.outcome) (rest_of c.args.self.now) _ _ _
    (sym c.is_connected-connects.ensures ∙ c.if-connects.false) c.refuse_for_memory.ensures.falls
    )
