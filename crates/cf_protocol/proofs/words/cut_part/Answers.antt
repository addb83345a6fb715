-- The kit's cut at the first comma is the definition's.
use Rattle.std.proofs.Common.{arith}
use Rattle.cf_protocol.proofs.Cutting.{cut_by}
use Rattle.cf_protocol.proofs.words.cut_part.Goals as goal

pub returns : goal.returns
returns c = cut_by 44 (omega arith) c.args.text.now c.split_once.result c.split_once.ensures.cases
