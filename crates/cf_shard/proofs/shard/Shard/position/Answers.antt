-- The pass has then seen the owner's log, off which the stream's position is read (`position_by_log`).
use Rattle.std.proofs.Common.{sym, ap, subst}
use Rattle.cf_order.specs.Passes.{PassState}
use Rattle.cf_shard.specs.LogAnswer.{IsPosition}
use Rattle.cf_shard.proofs.Calls.{position_by_log}
use Rattle.cf_shard.proofs.shard.Shard.position.Goals as goal

pub returns-clause-answer : goal.returns-clause-answer
returns-clause-answer g c = rw (← c.self.view_is) c.position.ensures.list_answer

pub returns-clause-by_log : goal.returns-clause-by_log
returns-clause-by_log g c =
    subst (λ log. IsPosition g.N.Naming.namespaces log c.args.channel.now c.position.result)
    (sym (ap (λ (p : PassState). p.log) c.follow.ensures.pass))
    (position_by_log _ _ _ _ _ _ c.self.invariant.0 c.position.ensures.list_answer)
