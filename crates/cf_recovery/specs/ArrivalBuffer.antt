-- What contracts see of the publications that wait for the reply to a subscribe, and what the calls do and answer.
-- (Centrifugo buffers them between subscribing and the reply; the limit, and that it gives them all up, are this
-- project's own profile.)
use Rattle.std.specs.Prelude.{◌≡◌, ℕ, ◌||◌, Bool, true, false, if◌then◌else◌, List, [], ◌∷◌, length, map}
use Rattle.std.specs.List.{All, Contains}
use Rattle.cf_protocol.specs.Datum.{Datum, Placed, numbered}
use Rattle.cf_protocol.specs.Note.{Reading}
use Rattle.cf_protocol.specs.Position.{Position}
use Rattle.cf_model.specs.Recovery.{has, overfull, AreOnce}
use Rattle.cf_model.specs.Recovery.{run_length}

-- a publication that came: its place, and what was published
pub record Arrival : Type 0 where
  pub at : Position
  pub datum : Datum

abbrev pub arrival : List ℕ → Placed → Arrival
arrival e p = record { at = record { epoch = e; offset = p.offset }; datum = p.datum }

abbrev pub places : List Arrival → List Position
places arrivals = map (λ a. a.at) arrivals

-- what is kept, the newest first; whether all was given up; and whether that was since memory was refused
pub record ArrivalBuffer : Type 0 where
  pub arrived : List Arrival
  pub overflow : Bool
  pub short : Bool

-- nothing came yet
abbrev pub nothing_kept : ArrivalBuffer
nothing_kept = record { arrived = []; overflow = false; short = false }

-- all is given up
abbrev pub given_up : Bool → ArrivalBuffer
given_up short = record { arrived = []; overflow = true; short = short }

-- After a publication came, if no memory is refused. What stands already stays as first kept; with one too many
-- all is given up.
abbrev pub with_arrival : Arrival → ArrivalBuffer → ArrivalBuffer
with_arrival a k =
    if k.overflow || has (places k.arrived) a.at.epoch a.at.offset then k
    else if overfull (a.at ∷ places k.arrived) then given_up k.short
    else record k { arrived = a ∷ k.arrived }

-- the publication is one more to be kept, so that memory is asked for
pub record TakesRoom (a : Arrival) (k : ArrivalBuffer) : Type 0 where
  pub whole : k.overflow ≡ false
  pub first : has (places k.arrived) a.at.epoch a.at.offset ≡ false
  pub fits : overfull (a.at ∷ places k.arrived) ≡ false

-- what always holds of what is kept
pub record IsWithin (k : ArrivalBuffer) : Type 0 where
  pub once : AreOnce (places k.arrived)
  pub few : overfull (places k.arrived) ≡ false
  pub nothing : k.overflow ≡ true → k.arrived ≡ []
  pub cause : k.short ≡ true → k.overflow ≡ true

-- It stands for the places that arrived: it keeps them, or more arrived than are kept, or memory was refused.
pub record StandsFor (k : ArrivalBuffer) (arrived : List Position) : Type 0 where
  pub all : k.overflow ≡ false → places k.arrived ≡ arrived
  pub more : k.overflow ≡ true → k.short ≡ false → overfull arrived ≡ true

-- the reading of a reply that ends at the position
abbrev pub ended_at : Position → Reading
ended_at p = record { epoch = p.epoch; low = p.offset; top = p.offset; recovered = false }

-- these are what is kept at the offsets that follow the position without a gap, in order
pub record IsRun (k : ArrivalBuffer) (p : Position) (run : List Placed) : Type 0 where
  pub counted : length run ≡ run_length (places k.arrived) (ended_at p)
  pub at_offsets : run ≡ numbered p.offset (map (λ x. x.datum) run)
  pub kept : All (λ x. Contains k.arrived (arrival p.epoch x)) run
