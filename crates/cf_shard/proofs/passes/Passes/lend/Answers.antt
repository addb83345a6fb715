-- A loop over the sixteen passes: those that were lent so far are of the first shards, in order.
use Rattle.std.proofs.Common.{◌≡◌, ◌<◌, arith, ap, sym, subst, ◌∙◌, length}
use Rattle.cf_shard.specs.Shards.{AreOfShards, lent, pass_at}
use Rattle.cf_shard.proofs.Named.{lent_all, lent_step, named_lent, named_length}
use Rattle.cf_shard.proofs.passes.Passes.lend.Goals as goal

pub lend_at-pass-requires : goal.lend_at-pass-requires
lend_at-pass-requires g c =
    let sixteen = named_length g.N.Naming.words c.self.inside.list.items c.self.invariant in
    omega (arith, c.loop-shard-test.true, c.len-shard-end.ensures, sixteen)

pub invariant_of-result : goal.invariant_of-result
invariant_of-result g c =
    let named : AreOfShards g.N.Naming.words c.args.self.now =
    subst (AreOfShards g.N.Naming.words) c.self.view_is c.self.invariant in
    let sixteen : length c.args.self.now ≡ 16 = named_length g.N.Naming.words c.args.self.now named in
    let inside : length c.self.inside.list.items ≡ 16 =
    named_length g.N.Naming.words c.self.inside.list.items c.self.invariant in
    let all : length c.args.self.now ≡ c.loop-shard.shard =
    omega (arith, sixteen, inside, c.loop-shard-test.false, c.loop-shard.auto.shard-end, c.len-shard-end.ensures) in
    subst (AreOfShards g.N.Naming.words) (sym (c.loop-shard.invariant.1
    ∙ lent_all c.args.self.now c.loop-shard.shard all)) (named_lent g.N.Naming.words c.args.self.now named)

pub loop-shard-preserved : goal.loop-shard-preserved
loop-shard-preserved g c =
    let i = c.loop-shard.invariant in
    let sixteen : length c.args.self.now ≡ 16 =
    named_length g.N.Naming.words c.args.self.now
    (subst (AreOfShards g.N.Naming.words) c.self.view_is c.self.invariant) in
    let inside : length c.self.inside.list.items ≡ 16 =
    named_length g.N.Naming.words c.self.inside.list.items c.self.invariant in
    let less : c.loop-shard.shard < length c.args.self.now =
    omega (arith, sixteen, inside, c.loop-shard-test.true, c.loop-shard.auto.shard-end, c.len-shard-end.ensures) in
    let given = c.lend_at-pass.ensures.lent ∙ ap (λ ps. lent (pass_at ps c.loop-shard.shard)) i.0 in (
      c.lend_at-pass.ensures.same ∙ i.0,
      lent_step c.args.self.now c.loop-shard.shard c.loop-shard.list.items c.push.new.self.items c.lend_at-pass.result
          less i.1 given c.in_ok-push.ensures.items,
    )
