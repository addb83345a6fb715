-- Two numerals of one text are one number, so one out of bounds is refused.
use Rattle.std.proofs.Common.{arith, sym, ◌∙◌}
use Rattle.std.proofs.lemmas.Fmt.{decimal_injective}
use Rattle.cf_schedule.proofs.number.HistorySize.read.Goals as goal
use Rattle.cf_schedule.proofs.number.HistorySize.read.Goals.{then-count-lt1-via-then-count-lt1}
use Rattle.cf_schedule.proofs.number.HistorySize.read.Goals.{then-count-lt1-via-else-count-lt1+then-count-gt-LARGEST_SIZE}

pub returns-then-count-lt1 : goal.returns-then-count-lt1
returns-then-count-lt1 c = λ n low high e.
    let same = decimal_injective n c.in_ok-count.count (omega arith) (omega arith) (sym e ∙ c.in_ok-count.ensures) in
    elim c.then-count-lt1.branch [
      | then-count-lt1-via-then-count-lt1 w ↦ let less = w.if-count-lt1.true in omega arith
      | then-count-lt1-via-else-count-lt1+then-count-gt-LARGEST_SIZE w ↦ let more = w.if-count-gt-LARGEST_SIZE.true in
          omega arith
    ]
