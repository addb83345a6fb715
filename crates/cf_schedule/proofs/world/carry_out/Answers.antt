-- Only a take writes anything; what `carry_on` promises holds of the other events.
use Rattle.std.proofs.Common.{sym, ap, ◌∙◌}
use Rattle.cf_machine.specs.Event as said
use Rattle.cf_machine.specs.IntervalMachine.{run}
use Rattle.cf_machine.specs.World.{start}
use Rattle.cf_schedule.specs.Seen.{seen}
use Rattle.cf_schedule.proofs.Carrying.{goes-ok, quiet}
use Rattle.cf_schedule.proofs.world.carry_out.Goals as goal

pub returns-in_ok-carry_on-in_default-clause-ok : goal.returns-in_ok-carry_on-in_default-clause-ok
returns-in_ok-carry_on-in_default-clause-ok c = c.in_ok-carry_on-in_default.ensures c.in_default.not-Take

pub returns-in_ok-carry_on-in_default-clause-writes : goal.returns-in_ok-carry_on-in_default-clause-writes
returns-in_ok-carry_on-in_default-clause-writes c =
    λ cfg past t. quiet c.args.event.now c.in_default.not-Take c.new.ensures.items cfg c.args.at (run cfg start past)

pub returns-in-Take-clause-ok : goal.returns-in-Take-clause-ok
returns-in-Take-clause-ok c =
    goes-ok c.args.parts.now c.take.new.self c.take.result
    (ap seen c.in-Take.is ∙ (λ i. said.Take (sym c.as_str.ensures i))) c.take.ensures.ok
