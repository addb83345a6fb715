-- By the request's variant, with which the checks are read.
use Rattle.std.proofs.Common.{ap, sym}
use Rattle.cf_protocol.specs.Checks.{checks, first_failed}
use Rattle.cf_protocol.specs.Shown.{shown_request}
use Rattle.cf_session.proofs.refusal.refusal_of.Goals as goal

pub returns-in-Other : goal.returns-in-Other
returns-in-Other c = ap (λ r. first_failed (checks c.args.namespaces.now (shown_request r))) (sym c.in-Other.is)
