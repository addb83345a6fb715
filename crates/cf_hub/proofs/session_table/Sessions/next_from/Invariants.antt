-- The loop keeps that no place between the start and here has a session.
use Rattle.std.proofs.Common.{◌≡◌, ◌≤◌, ◌<◌, ℕ, None}
use Rattle.cf_hub.specs.Hub.{attached_in}
use Rattle.cf_hub.proofs.session_table.Sessions.next_from.Given as goal

abbrev pub invariant-loop-place : goal.invariant-loop-place
invariant-loop-place l = (j : ℕ) → l.from ≤ j → j < l.place → attached_in l.self j ≡ None
