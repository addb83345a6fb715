use Rattle.std.proofs.Common.{◌≡◌, map}
use Rattle.cf_speak.specs.Drawing.{AreGiven}
use Rattle.cf_speak.proofs.epochs.GivenEpochs.read.Given as goal

abbrev pub invariant-loop-word : goal.invariant-loop-word
invariant-loop-word l = record {
  read : l.left.items ≡ map (λ s. s.now) l.yielded;
  given : AreGiven l.left.items;
}
