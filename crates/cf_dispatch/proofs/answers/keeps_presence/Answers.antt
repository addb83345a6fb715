-- By whether the channel has settings, which by what `find` promises are those that the definition looks at.
use Rattle.std.proofs.Common.{ap}
use Rattle.cf_dispatch.specs.Answers.{has_presence}
use Rattle.cf_dispatch.proofs.answers.keeps_presence.Goals as goal

pub returns-in-Some : goal.returns-in-Some
returns-in-Some c = ap has_presence c.in-Some.ensures.found

pub returns-in-None : goal.returns-in-None
returns-in-None c = ap has_presence c.in-None.ensures.found
