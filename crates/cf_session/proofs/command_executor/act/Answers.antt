-- Each action is a call of the node; a leave's clause is rewritten by its variant and by the channel's bytes.
use Rattle.std.proofs.Common.{ℕ, Some, List, sym, subst}
use Rattle.cf_session.specs.Calls.{Leave, Done}
use Rattle.cf_session.specs.SessionMachine.{Calls}
use Rattle.cf_session.specs.Shown.{shown_action}
use Rattle.cf_session.specs.declared.action.Action.{Action}
use Rattle.cf_session.proofs.command_executor.act.Goals as goal

pub returns-in-Leave-clause-does : goal.returns-in-Leave-clause-does
returns-in-Leave-clause-does g c =
    subst (λ (a : Action). g.N.CommandExecutor.does c.args.node.now (shown_action a) (Some Done) c.leave.new.self)
    (sym c.in-Leave.is)
    (subst (λ (bytes : List ℕ). g.N.CommandExecutor.does c.args.node.now (Calls (Leave bytes)) (Some Done) c.leave.new.self)
    c.as_str-in-Leave.ensures.value c.leave.ensures.does)
