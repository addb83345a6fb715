-- What a node knows of a client's session in its hub. (This project's own profile.)
use Rattle.std.specs.Prelude.{ℕ, Bool, false, not, ◌||◌, Option, None, Some}
use Rattle.cf_hub.specs.Hub.{Node, attached_at, is_open}

-- the session's number, once it has one, and whether it is over
pub record Stands : Type 0 where
  pub number : Option ℕ
  pub is_over : Bool

-- a client that has no session yet
abbrev pub nobody : Stands
nobody = record { number = None; is_over = false }

-- the hub has closed the session, or has none of this number
abbrev pub is_gone : Node → Option ℕ → Bool
is_gone h None = false
is_gone h (Some k) = not (is_open (attached_at h k))

-- what is known once it was looked: what is over stays over
abbrev pub looked : Node → Stands → Stands
looked h s = record s { is_over = s.is_over || is_gone h s.number }
