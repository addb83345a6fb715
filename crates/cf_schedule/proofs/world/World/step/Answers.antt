-- What `carry_out` promises of the parts is said of the world, one event later.
use Rattle.std.proofs.Common.{ℕ, ◌≡◌, ◌+◌, rules, subst}
use Rattle.std.specs.Result.{IfOk}
use Rattle.cf_schedule.specs.Seen.{seen}
use Rattle.cf_world.specs.Tie.{Writes}
use Rattle.cf_schedule.proofs.world.World.step.Goals as goal

pub returns-clause-ok : goal.returns-clause-ok
returns-clause-ok c = rw (← c.self.view_is) c.carry_out-got.ensures.ok

pub returns-clause-writes : goal.returns-clause-writes
returns-clause-writes c =
    let next : c.in-Some.at ≡ c.self.inside.count + 1 = search rules in
    rw (← c.self.view_is)
    (subst (λ (n : ℕ). IfOk c.carry_out-got.result
    (λ es. Writes n (seen c.args.event.now) c.self.inside.parts es.items)) next c.carry_out-got.ensures.writes)
