-- The difference of the moments, which ends at 0, reaches the limit exactly once a close's time is over (`is_over`).
use Rattle.std.proofs.Common.{arith}
use Rattle.cf_dispatch.proofs.Waits.{is_over}
use Rattle.cf_dispatch.proofs.life.is_close_over.Goals as goal

pub returns : goal.returns
returns c = is_over c.args.closed_at c.args.now _ c.saturating_sub.result c.saturating_sub.ensures (omega arith)
