-- Sources that give one epoch are the same, so none gives one twice (`none-twice`), and none opens again in a log.
use Rattle.cf_running_ties.proofs.Sources.{none-twice, once-by-log}
use Rattle.cf_running_ties.proofs.laws.no_epoch_opens_again.Goals as goal

pub returns-clause-sources : goal.returns-clause-sources
returns-clause-sources c = none-twice c.told_apart.ensures

pub returns-clause-once : goal.returns-clause-once
returns-clause-once c =
    λ source log before channel epoch fresh begins is. once-by-log channel epoch before log
    (fresh (none-twice c.told_apart.ensures)).once begins is
