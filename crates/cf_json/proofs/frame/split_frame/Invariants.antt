use Rattle.std.proofs.Common.{length}
use Rattle.cf_json.proofs.Frames.{Head}
use Rattle.cf_json.proofs.frame.split_frame.Given as goal

abbrev pub invariant-values : goal.invariant-values
invariant-values l = Head l.text l.rest l.found.items

abbrev pub decreases-values : goal.decreases-values
decreases-values l = length l.rest
