-- What a node's sessions become when one of them is lent to be changed.
use Rattle.std.specs.Prelude.{ℕ, Option, Some, slice_set}
use Rattle.std.specs.Borrow.{LendsIf, MutBor, Fml}
use Rattle.cf_hub.specs.declared.session.AttachedSession.{AttachedSession}
use Rattle.cf_hub.specs.contracts.session.AttachedSession.{the_row as session_row}
use Rattle.cf_hub.specs.contracts.session_table.Sessions.{the_row}
use Rattle.cf_hub.specs.Places.{Places}

-- number k has what was last behind r; if it has no session, nothing changes
abbrev pub LendsSession : MutBor Places → ℕ → Option (MutBor AttachedSession) → Fml
LendsSession s k r = LendsIf the_row session_row s r (λ w. slice_set s.now k (Some w)) s.now
