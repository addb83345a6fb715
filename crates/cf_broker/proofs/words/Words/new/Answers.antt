-- The loop keeps as many words as it counts, each with its first pass; a list is named by itself (`names_self`).
use Rattle.std.proofs.Common.{arith}
use Rattle.cf_broker.proofs.Numbers.{names_self}
use Rattle.cf_broker.proofs.words.Words.new.Goals as goal

pub returns : goal.returns
returns c = names_self c.loop-number.list.items 16
    (omega (arith, c.loop-number.invariant.0, c.loop-number-test.false, c.loop-number.auto._number-end))
