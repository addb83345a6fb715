-- A walk along turns, to the first session for whose client something waits.
use Rattle.std.proofs.Common.{◌≡◌, ◌≢◌, ℕ, Bool, true, false, if◌then◌else◌, Option, Some, List, [], ◌∷◌, refl}
use Rattle.std.specs.Prelude.{IfSome}
use Rattle.cf_queue.specs.OutQueue.{Item}
use Rattle.cf_hub.specs.Hub.{is_waiting, waits_in}
use Rattle.cf_hub.specs.Session.{Attached}
use Rattle.cf_hub.specs.Turns.{Turns, first_turn, turns_left}

abbrev pub waits : (ℕ → Option Attached) → ℕ → Bool
waits sessions k = is_waiting (waits_in (sessions k))

-- for none of those that were passed does anything wait
pub record IsNaming (sessions : ℕ → Option Attached) (old now : Turns) : Type 0 where
  pub first : first_turn (waits sessions) now.numbers ≡ first_turn (waits sessions) old.numbers
  pub left : turns_left (waits sessions) now.numbers ≡ turns_left (waits sessions) old.numbers
  pub known : now.known ≡ old.known

pub begins_naming : (sessions : ℕ → Option Attached) (t : Turns) → IsNaming sessions t t
begins_naming sessions t = record { first = refl; left = refl; known = refl }

something : (ns : List Item) → is_waiting ns ≡ true → ns ≢ []
something [] e f = absurd (cc)
something (n ∷ ns) e f = absurd (cc)

-- who is named has something that waits
pub named_waits : (sessions : ℕ → Option Attached) (ks : List ℕ)
    → IfSome (first_turn (waits sessions) ks) (λ k. waits_in (sessions k) ≢ [])
named_waits sessions [] = tt
named_waits sessions (k ∷ ks) = by_value (waits sessions k) refl (named_waits sessions ks)
  where
    by_value : (t : Bool) → waits sessions k ≡ t → IfSome (first_turn (waits sessions) ks)
        (λ j. waits_in (sessions j) ≢ [])
        → IfSome (if t then Some k else first_turn (waits sessions) ks) (λ j. waits_in (sessions j) ≢ [])
    by_value true e rest = something (waits_in (sessions k)) e
    by_value false e rest = rest
