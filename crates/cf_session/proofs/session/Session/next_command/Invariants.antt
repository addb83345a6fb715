-- The loop keeps the script that is left, as a command that is passed over has no step in it, and fewer are left.
use Rattle.std.proofs.Common.{◌≡◌, ◌≤◌, length}
use Rattle.cf_session.specs.Standing.{tables_of, rest_of, refusals}
use Rattle.cf_session.specs.declared.stage.ScriptStage.TheVariants as stage
use Rattle.cf_session.proofs.session.Session.next_command.Given as goal

abbrev pub invariant-loop-command : goal.invariant-loop-command
invariant-loop-command l =
    (l.self.stage ≡ stage.Ready)
    × (tables_of l.self ≡ tables_of l.fn.self)
    × (rest_of l.self ≡ rest_of l.fn.self)
    × (refusals l.self ≡ 0)
    × (length l.self.frame.items ≤ length l.fn.self.frame.items)

abbrev pub decreases-loop-command : goal.decreases-loop-command
decreases-loop-command l = length l.self.frame.items
