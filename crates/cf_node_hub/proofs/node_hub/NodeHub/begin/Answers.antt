-- To lend a pass leaves what was seen as it was; a session that begins, or is refused, says no more (`begin_kept`).
use Rattle.std.proofs.Common.{rules, subst, sym, List}
use Rattle.cf_order.specs.Passes.{PassState}
use Rattle.cf_node_hub.specs.Told.{IsReply}
use Rattle.cf_node_hub.specs.Told.{SpeaksOf}
use Rattle.cf_node_hub.proofs.Calls.{begin_kept}
use Rattle.cf_node_hub.proofs.node_hub.NodeHub.begin.Goals as goal

pub invariant_of-self : goal.invariant_of-self
invariant_of-self g c =
    subst (λ (seen : List PassState). SpeaksOf IsReply seen c.begin.new.self) (sym c.lent_of-pass.ensures.same)
    (begin_kept c.moves_are_among.ensures c.self.inside.seen c.args.session c.channel.result.now c.args.id
    c.since.result c.self.inside.hub c.begin.new.self c.begin.result
    (c.requires, search rules) c.begin.ensures.ok c.begin.ensures.err c.self.invariant)
