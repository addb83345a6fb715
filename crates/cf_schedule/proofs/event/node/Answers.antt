-- Two numerals of one text are one number, so a node that isn't there is refused.
use Rattle.std.proofs.Common.{arith, sym, ◌∙◌}
use Rattle.std.proofs.lemmas.Fmt.{decimal_injective}
use Rattle.cf_schedule.proofs.event.node.Goals as goal

pub returns-else-number-from : goal.returns-else-number-from
returns-else-number-from c = λ n l e.
    let same = decimal_injective n c.in_ok-number.number (omega arith) (omega arith) (sym e ∙ c.in_ok-number.ensures) in
    omega arith
