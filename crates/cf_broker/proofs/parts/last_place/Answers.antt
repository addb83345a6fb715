-- The last of the words that are left is the one of this shard's number.
use Rattle.std.proofs.Common.{rules, ap, ◌∙◌}
use Rattle.cf_order.specs.Passes.{OwnerState}
use Rattle.cf_broker.proofs.Numbers.{last_name, names_some}
use Rattle.cf_broker.proofs.parts.last_place.Goals as goal

pub unreachable-requires-in_default-pop : goal.unreachable-requires-in_default-pop
unreachable-requires-in_default-pop g c =
    let some = names_some g.N.Naming.words g.row.I c.args.words.now.items c.requires.words in
    search (rules, c.in_default-pop.ensures.variant, some)

pub new-requires : goal.new-requires
new-requires g c =
    let last = last_name g.N.Naming.words g.row.I c.args.words.now.items c.pop-2.new.self.items c.in-Some-pop.new
    c.requires.words c.in-Some-pop.ensures.items in (
      search rules,
      (
        c.in-Some.part.empty,
        (
          c.new.view_is ∙ last.1,
          ap (λ (o : OwnerState). o.word) c.new.invariant,
          ap (λ (o : OwnerState). o.log) c.new.invariant,
        ),
      ),
    )

pub returns-clause-words : goal.returns-clause-words
returns-clause-words g c =
    (last_name g.N.Naming.words g.row.I c.args.words.now.items c.pop-2.new.self.items c.in-Some-pop.new c.requires.words
    c.in-Some-pop.ensures.items).0
