-- The verdict on a delivery, as the code answers it.
use Rattle.cf_model.specs.Recovery.{Verdict, Drop, Pass, Insufficient}
use Rattle.cf_recovery.specs.declared.verdict.Verdict.{Verdict as Answer}
use Rattle.cf_recovery.specs.declared.verdict.Verdict.TheVariants as answer

abbrev pub meaning : Answer → Verdict
meaning answer.Drop = Drop
meaning answer.Pass = Pass
meaning answer.Insufficient = Insufficient
