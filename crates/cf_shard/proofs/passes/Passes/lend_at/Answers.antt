-- The pass at a shard's number is of that shard's word (`named_get`), and so is the one that is lent of it.
use Rattle.std.proofs.Common.{sym, ap, ◌∙◌}
use Rattle.cf_order.specs.Passes.{PassState}
use Rattle.cf_shard.proofs.Named.{named_get}
use Rattle.cf_shard.proofs.passes.Passes.lend_at.Goals as goal

pub lend-requires : goal.lend-requires
lend-requires g c =
    named_get g.N.Naming.words c.self.inside.list.items c.args.shard _ _ c.self.invariant c.requires
    c.index_mut-pass.ensures.value ∙ sym c.shard_word.ensures

pub returns-clause-word : goal.returns-clause-word
returns-clause-word g c =
    ap (λ (p : PassState). p.word) c.lend.ensures.lent
    ∙ named_get g.N.Naming.words c.self.inside.list.items c.args.shard _ _ c.self.invariant c.requires
    c.index_mut-pass.ensures.value
