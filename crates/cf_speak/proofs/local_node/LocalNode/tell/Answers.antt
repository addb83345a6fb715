-- What the hub says is what the definition has the node say.
use Rattle.std.proofs.Common.{rules, ap, option_map, subst}
use Rattle.std.specs.String.{string_bytes}
use Rattle.cf_speak.specs.Steps.{brings_due}
use Rattle.cf_speak.proofs.local_node.LocalNode.tell.Goals as goal

pub returns-clause-says : goal.returns-clause-says
returns-clause-says c long = record {
  between = c.say.new.self;
  says = search (rules, long);
  brings = subst (λ d. brings_due d c.args.self.now.streams c.say.new.self c.bring_due-2.new.hub)
      (ap (option_map string_bytes) c.take-due.ensures.value)
      (c.bring_due-2.ensures.brings (search (rules, long)));
  rest = search (rules, long);
}
