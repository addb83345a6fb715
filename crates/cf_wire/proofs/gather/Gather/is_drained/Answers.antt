-- Whether the vector is empty goes by its length, which is that of its items.
use Rattle.std.proofs.Common.{◌==◌, ◌∙◌, ap}
use Rattle.cf_wire.proofs.gather.Gather.is_drained.Goals as goal

pub returns : goal.returns
returns g c =
    let counted = ap (λ n. n == 0) c.self.inside.waiting.ok.0 in
    rw (← c.self.view_is) (c.is_empty.ensures ∙ counted)
