-- The words' invariant says that the passes are their first ones; the words are the shards', and so are the passes.
use Rattle.cf_broker.proofs.Numbers.{firsts_named}
use Rattle.cf_order.specs.Passes.{first_pass}
use Rattle.std.proofs.Common.{ap, map, ◌∙◌}
use Rattle.cf_broker.proofs.broker.Broker.new.Goals as goal

pub new-requires : goal.new-requires
new-requires g c = firsts_named g.N.Naming.words _ _ c.words.invariant (c.words.view_is ∙ c.requires.words)

pub returns-clause-passes : goal.returns-clause-passes
returns-clause-passes g c =
    c.new.ensures ∙ (c.words.invariant ∙ ap (map first_pass) (c.words.view_is ∙ c.requires.words))
