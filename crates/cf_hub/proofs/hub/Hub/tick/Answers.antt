-- The loop keeps that the sessions below were pinged and those above are as they were, and ends where no session is
-- left.
use Rattle.std.proofs.Common.{rules, arith}
use Rattle.cf_hub.proofs.Pinging.{begins_pinging, ends_pinging, goes_on_pinging, skips_pinging}
use Rattle.cf_hub.proofs.hub.Hub.tick.Goals as goal

pub loop-number-init : goal.loop-number-init
loop-number-init c =
    record {
      pinging = begins_pinging c.args.now c.args.self.now c.invariant.ensures.agrees c.invariant.ensures.small;
      same = search rules;
      within = omega arith;
    }

pub loop-number-preserved : goal.loop-number-preserved
loop-number-preserved c =
    let next = c.in-Some.ensures.next.0 in let below = c.in-Some.ensures.next.1 in record {
      pinging =
          goes_on_pinging c.args.now c.in-Some.number c.args.self.now c.loop-number.self c.ping.new.self
          c.ping.ensures.step
          (skips_pinging c.args.now c.loop-number.from c.args.self.now c.loop-number.self
          c.loop-number.invariant.pinging c.in-Some.number next.above next.between) next.taken;
      same = search rules;
      within = omega (arith, below);
    }

pub returns-clause-each : goal.returns-clause-each
returns-clause-each c =
    ends_pinging c.args.now c.loop-number.from c.args.self.now c.loop-number.self c.loop-number.invariant.pinging
    c.in_default.ensures.none
