use Rattle.std.proofs.Common.{◌≡◌, length, map}
use Rattle.cf_order.specs.Passes.{first_pass}
use Rattle.cf_broker.proofs.words.Words.new.Given as goal

abbrev pub invariant-loop-number : goal.invariant-loop-number
invariant-loop-number l = (length l.list.items ≡ l._number) × (l.passes.items ≡ map first_pass l.list.items)
