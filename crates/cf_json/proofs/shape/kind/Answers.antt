-- The value's first byte tells its kind, by `kind_at`.
use Rattle.std.proofs.Common.{ap, ◌∙◌, get_or}
use Rattle.cf_json.specs.Kinds.{kind_from}
use Rattle.cf_json.proofs.Shapes.{kind_at}
use Rattle.cf_json.proofs.shape.kind.Goals as goal

pub returns : goal.returns
returns c = λ t h. c.kind_from.ensures ∙ ap (λ u. kind_from (get_or u c.args.span.from 0))
    c.as_bytes-bytes.ensures.value ∙ kind_at c.args.text.now t c.args.span h
