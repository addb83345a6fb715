-- As many publications as the vectors have are kept, so the test of their number is the definition's.
use Rattle.std.proofs.Common.{◌≡◌, length, rules}
use Rattle.cf_recovery.proofs.Keeping.{full-test}
use Rattle.cf_recovery.proofs.waiting.Waiting.is_full.Goals as goal

pub returns : goal.returns
returns c =
    let many : c.len.result ≡ length c.self.inside.publications.items = search rules in
    rw (← c.self.view_is) (full-test c.self.inside.epochs.items c.self.inside.publications.items c.len.result
    c.self.invariant.beside many)
