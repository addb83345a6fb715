-- What the slices' comparison answers is the clause: an epoch is seen as the characters that are compared.
use Rattle.std.proofs.Common.{◌∙◌}
use Rattle.std.specs.Str.{bytes_eq}
use Rattle.cf_protocol.proofs.epoch.EpochPartialEq.eq.Goals as goal

pub returns-clause-answers : goal.returns-clause-answers
returns-clause-answers g = g.eq.ensures ∙ (λ i. bytes_eq (g.self.view_is i) (g.other.view_is i))
