-- By whether the stream would block, which is how the definition tells the stage that is left.
use Rattle.std.proofs.Common.{◌≡◌, ◌∙◌, true, if◌then◌else◌, sym, ap}
use Rattle.cf_wire.specs.declared.end.Stage.TheVariants.{Over}
use Rattle.cf_wire.specs.Stages.{end_by}
use Rattle.cf_wire.proofs.wire.Wire.pause.Goals as goal

pub returns-then-waits-clause-left : goal.returns-then-waits-clause-left
returns-then-waits-clause-left g c =
    let waits : c.would_block-waits.result ≡ true = cc in
    ap (λ b. if b then c.args.stage else Over (end_by c.args.error)) (sym waits ∙ c.would_block-waits.ensures)
