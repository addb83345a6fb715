-- A session that can be carried on, by what a desk keeps of it.
use Rattle.std.proofs.Common.{◌≡◌, refl, Bool, true, false, None}
use Rattle.cf_session.specs.SessionMachine.{Progress, Todo, Out, awaits}
use Rattle.cf_session.specs.Standing.{progress_of, tables_of}
use Rattle.cf_session.specs.declared.session.Session.{Session}
use Rattle.cf_session.specs.Played.{AskStreams}
use Rattle.cf_session.specs.Turn.{CanGoOn}
use Rattle.cf_node.specs.Ready.{is_out}

pub none_is_out : (p : Progress) → awaits p ≡ None → is_out p ≡ false
none_is_out (Todo s) e = refl
none_is_out (Out kind after) e = absurd (cc)

pub awaits_none : (p : Progress) → is_out p ≡ false → awaits p ≡ None
awaits_none (Todo s) e = refl
awaits_none (Out kind after) e = absurd (cc)

pub can_go_on : (s : Session) → is_out (progress_of s) ≡ false → AskStreams (tables_of s).namespaces (progress_of s)
    → CanGoOn s
can_go_on s between asks = record { awaits = awaits_none (progress_of s) between; asks = asks }

-- who stays short of memory once he was wasn't short before he isn't
pub still_long : (old new : Bool) → (old ≡ true → new ≡ true) → new ≡ false → old ≡ false
still_long false new stays long = refl
still_long true new stays long = absurd (cc (stays refl, long))
