-- A row stands exactly if a session's channel isn't off.
use Rattle.std.specs.Prelude.{◌≡◌, ℕ, not, Bool, true, false, if◌then◌else◌, Option, Some, None, List}
use Rattle.std.specs.Str.{bytes_eq}
use Rattle.cf_subscribers.specs.Follows.{Follow, follows, without_follow, without_session}
use Rattle.cf_hub.specs.Session.{Attached}
use Rattle.cf_model.specs.Sessions.{Subscription, Off, is_off}
use Rattle.cf_hub.specs.Wordings.{Held}
use Rattle.cf_hub.specs.declared.fate.Fate.{Fate}
use Rattle.cf_hub.specs.declared.fate.Fate.TheVariants as fate

abbrev pub sub_in : Option Attached → List ℕ → Subscription Held
sub_in None c = Off
sub_in (Some a) c = a.state.subs c

abbrev pub Agrees : (ℕ → Option Attached) → List Follow → Type 0
Agrees sessions rows = (c : List ℕ) (k : ℕ) → follows rows c k ≡ not (is_off (sub_in (sessions k) c))

-- whether channel d is off after a call at channel c met its session so, if it was before or not
abbrev pub off_after : Fate → List ℕ → List ℕ → Bool → Bool
off_after fate.Passed c d off = off
off_after fate.Kept c d off = off
off_after fate.Dropped c d off = off
off_after fate.Ended c d off = if bytes_eq d c then true else off
off_after fate.Closed c d off = true

-- the rows after a call met its session so
abbrev pub rows_after : Fate → List ℕ → ℕ → List Follow → List Follow
rows_after fate.Passed c k rows = rows
rows_after fate.Kept c k rows = rows
rows_after fate.Dropped c k rows = rows
rows_after fate.Ended c k rows = without_follow rows c k
rows_after fate.Closed c k rows = without_session rows k

-- session k's channels went off as this fate at channel c says, and its rows are those from before
abbrev pub WentOff : Fate → List ℕ → ℕ → Option Attached → List Follow → Type 0
WentOff f c k o rows = (d : List ℕ) → is_off (sub_in o d) ≡ off_after f c d (not (follows rows d k))

-- the rows are those from before a call that met the followers of channel c and no other session
pub record AgreedBefore (c : List ℕ) (sessions : ℕ → Option Attached) (rows : List Follow) : Type 0 where
  pub met : (k : ℕ) → follows rows c k ≡ true → (f : Fate) × WentOff f c k (sessions k) rows
  pub others : (k : ℕ) → follows rows c k ≡ false → (d : List ℕ)
      → follows rows d k ≡ not (is_off (sub_in (sessions k) d))

-- whatever a call at channel c did with a session for which that channel was on, this fate does the same
abbrev pub TellsFate : Fate → List ℕ → Option Attached → Type 0
TellsFate f c o =
    (k : ℕ) (rows : List Follow) (g : Fate) → follows rows c k ≡ true → WentOff g c k o rows
    → WentOff f c k o rows
