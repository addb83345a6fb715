-- Each clause is a law of the theory, the last two the halves of what a release stands for.
use Rattle.std.proofs.Common.{refl}
use Rattle.cf_recovery.proofs.Keeping.{stands_more, within-arrival}
use Rattle.cf_recovery.proofs.Releasing.{stands_released}
use Rattle.cf_recovery.proofs.laws.what_is_kept_stands.Goals as goal

pub returns-clause-within : goal.returns-clause-within
returns-clause-within c = within-arrival

pub returns-clause-arrival : goal.returns-clause-arrival
returns-clause-arrival c = stands_more

pub returns-clause-run : goal.returns-clause-run
returns-clause-run c k arrived r w s h =
    (stands_released k (record { epoch = r.epoch; offset = r.top }) arrived _ _ w s h refl refl).0

pub returns-clause-short : goal.returns-clause-short
returns-clause-short c k arrived r w s h =
    (stands_released k (record { epoch = r.epoch; offset = r.top }) arrived _ _ w s h refl refl).1
