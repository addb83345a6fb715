-- The count is the mark or less exactly if the comparison says so, and then nothing was added since (`still_that`).
use Rattle.std.proofs.Common.{leb-true, le-leb}
use Rattle.cf_order.proofs.Prefixes.{still_that}
use Rattle.cf_order.proofs.word.ShardWord.is_quiet_since.Goals as goal

pub returns-clause-answer : goal.returns-clause-answer
returns-clause-answer c =
    rw (← c.look-count.ensures.count) (leb-true c.look-count.result c.args.mark, le-leb c.look-count.result c.args.mark)

pub returns-clause-still : goal.returns-clause-still
returns-clause-still c = λ quiet at.
    still_that _ _ c.look-count.result _ c.look-count.ensures.seen c.look-count.ensures.count (leb-true _ _ quiet) at
