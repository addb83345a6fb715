-- The value at the span is an array, as its kind says, so its items may be asked for.
use Rattle.std.proofs.Common.{subst}
use Rattle.cf_json.specs.Spans.{IsAt}
use Rattle.tests_of_libraries.proofs.KindsTell.{is_array}
use Rattle.tests_of_libraries.proofs.texts.json.vectors.items_of.Goals as goal

pub items-requires : goal.items-requires
items-requires c = let e = c.in-Some.ensures in let k = is_array e.0 e.2 in
    (k.0, subst (λ t. IsAt c.args.text.now t c.in-Some.span) k.1 e.1)
