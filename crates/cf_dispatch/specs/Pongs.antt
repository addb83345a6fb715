-- Whether a client's answer to a ping is late. (Centrifugo's client protocol; times are this project's own profile.)
use Rattle.std.specs.Prelude.{◌-◌, ◌&&◌, ℕ, nat_le, Bool, false, not, if◌then◌else◌, Option, Some, None}

-- when a session was pinged last, and since when the answer that its client owes can be heard
pub record Watched : Type 0 where
  pub pinged : ℕ
  pub owed : Option ℕ

abbrev pub is_ping_due : ℕ → Watched → Bool
is_ping_due now w = nat_le 25 (now - w.pinged)

-- while something may be unread the answer may lie in it, so its time begins anew
abbrev pub owed_after : ℕ → Bool → Bool → Option ℕ → Option ℕ
owed_after now unheard due None = if due then Some now else None
owed_after now unheard due (Some since) = Some (if unheard then now else since)

abbrev pub pongs_after : ℕ → Bool → Watched → Watched
pongs_after now unheard w = record {
  pinged = if is_ping_due now w then now else w.pinged;
  owed = owed_after now unheard (is_ping_due now w) w.owed;
}

-- nothing is unread, and has not been for 8 seconds
abbrev pub is_late : ℕ → Bool → Option ℕ → Bool
is_late now unheard None = false
is_late now unheard (Some since) = not unheard && nat_le 8 (now - since)
