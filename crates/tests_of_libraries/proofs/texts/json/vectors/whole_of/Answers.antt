-- The value at the span is a number, as its kind says, so it may be read.
use Rattle.std.proofs.Common.{subst}
use Rattle.cf_json.specs.Spans.{IsAt}
use Rattle.tests_of_libraries.proofs.KindsTell.{is_number}
use Rattle.tests_of_libraries.proofs.texts.json.vectors.whole_of.Goals as goal

pub read_whole-requires : goal.read_whole-requires
read_whole-requires c = let e = c.in-Some.ensures in let k = is_number e.0 e.2 in
    (k.0, subst (λ t. IsAt c.args.text.now t c.in-Some.span) k.1 e.1)
