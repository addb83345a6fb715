-- The value at the span is a text, as its kind says, so it may be read.
use Rattle.std.proofs.Common.{subst}
use Rattle.cf_json.specs.Spans.{IsAt}
use Rattle.tests_of_libraries.proofs.KindsTell.{is_text}
use Rattle.tests_of_libraries.proofs.texts.json.vectors.text_of.Goals as goal

pub read_text-requires : goal.read_text-requires
read_text-requires c = let e = c.in-Some.ensures in let k = is_text e.0 e.2 in
    (k.0, subst (λ t. IsAt c.args.text.now t c.in-Some.span) k.1 e.1)
