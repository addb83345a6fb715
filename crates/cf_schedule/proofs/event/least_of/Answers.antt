-- Two numerals of one text are one number, so one that is too low is refused.
use Rattle.std.proofs.Common.{arith, sym, ◌∙◌}
use Rattle.std.proofs.lemmas.Fmt.{decimal_injective}
use Rattle.cf_schedule.proofs.event.least_of.Goals as goal

pub returns-else-number-le-END_OF_LIMITS : goal.returns-else-number-le-END_OF_LIMITS
returns-else-number-le-END_OF_LIMITS c = λ n l e.
    let same = decimal_injective n c.in_ok-number.number (omega arith) (omega arith) (sym e ∙ c.in_ok-number.ensures) in
    omega arith
