-- When the work of a new second is done. (This project's own profile.)
use Rattle.std.specs.Prelude.{ℕ, ◌+◌, ◌==◌, nat_lt, Bool, not, ◌&&◌, if◌then◌else◌}

-- the last second whose work was done, and by how many turns the next one is late
pub record Clock : Type 0 where
  pub done : ℕ
  pub late : ℕ

abbrev pub new_clock : Clock
new_clock = record { done = 0; late = 0 }

abbrev pub most_late : ℕ
most_late = 40

-- a second waits while more sockets may be ready than were heard, and has not waited too long
abbrev pub waits : Clock → Bool → Bool
waits k may_be_more = may_be_more && nat_lt k.late most_late

-- its work is to be done at the end of this turn
abbrev pub is_due : Clock → ℕ → Bool → Bool
is_due k now may_be_more = not (now == k.done) && not (waits k may_be_more)

-- the clock after a turn that ends at this moment
abbrev pub tick_after : Clock → ℕ → Bool → Clock
tick_after k now may_be_more =
    if now == k.done then k
    else if waits k may_be_more then record k { late = k.late + 1 }
    else record { done = now; late = 0 }
