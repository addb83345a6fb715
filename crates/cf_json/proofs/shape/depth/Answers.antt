-- What lies within the span is the value's own text, of which `deepest` tells the depth.
use Rattle.std.proofs.Common.{ap, ◌∙◌, drop, take, arith}
use Rattle.cf_json.specs.Levels.{deepest}
use Rattle.cf_json.specs.declared.squeeze.SqueezeMode.TheVariants.{Between}
use Rattle.cf_json.proofs.Shapes.{depth_at}
use Rattle.cf_json.proofs.Cuts.{cut}
use Rattle.cf_json.proofs.shape.depth.Goals as goal

pub split_at-requires-2 : goal.split_at-requires-2
split_at-requires-2 c = let k = cut c.args.text.now c.requires.0 c.args.span c.utf8.text c.requires.1 in
    omega (arith, k.ordered, c.split_at.ensures.front_len)

pub returns : goal.returns
returns c = λ t h.
    let own = c.split_at-2.ensures.back ∙ ap (drop c.args.span.from)
    (c.split_at.ensures.front ∙ ap (take c.args.span.to) c.as_bytes.ensures.value) in
    c.deepest.ensures ∙ ap (deepest Between 0 0) own ∙ depth_at c.args.text.now t c.args.span c.utf8.text h
