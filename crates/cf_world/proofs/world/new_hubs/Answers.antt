-- The loop keeps that the hubs so far are new ones, by number.
use Rattle.std.proofs.Common.{◌≡◌, ℕ, ◌+◌, List, [], ◌∷◌, ◌++◌, length, arith, sym, ap, ◌∙◌, subst}
use Rattle.cf_hub.specs.Hub.{Node, empty}
use Rattle.cf_world.specs.HubCalls.{AreNew}
use Rattle.cf_world.proofs.Starting.{length-snoc, new-snoc}
use Rattle.cf_world.proofs.world.new_hubs.Goals as goal

pub loop-node-preserved : goal.loop-node-preserved
loop-node-preserved c =
    let old : List Node = c.loop-node.hubs.items in
    let node : ℕ = c.loop-node.node in
    let items : c.push.new.self.items ≡ old ++ c.new.result ∷ [] = c.in_ok-push.ensures.items in
    let is : c.push.new.self.items ≡ old ++ empty node 1 ∷ [] =
    items ∙ ap (λ (h : Node). old ++ h ∷ []) c.new.ensures in
    let count : length old ≡ node = c.loop-node.invariant.0 in (
      ap length is ∙ length-snoc old (empty node 1) ∙ ap (λ (k : ℕ). k + 1) count,
      subst (AreNew 0) (sym is) (new-snoc 0 old node (omega (arith, count)) c.loop-node.invariant.1),
    )
