-- The pass is of this word, so it may look at the count (`looks`).
use Rattle.std.proofs.Common.{sym, ap, ◌∙◌, arith}
use Rattle.cf_order.proofs.Steps.{looks}
use Rattle.cf_order.proofs.word.ShardWord.look.Goals as goal

pub load-requires : goal.load-requires
load-requires c =
    let words = c.self.invariant in
    (ap (λ k. k.word) c.pass.view_is ∙ c.requires ∙ sym c.self.view_is, omega arith, looks _ _ _ c.pass.invariant.owns)
