-- What is kept before a reply, though memory may have been refused for it.
use Rattle.std.proofs.Common.{◌≡◌, ℕ, ◌||◌, Bool, true, false, if◌then◌else◌, Option, Some, None, List, [], ◌∷◌, refl}
use Rattle.std.specs.List.{All}
use Rattle.std.proofs.lemmas.List.Elements.{All-cons, All-nil}
use Rattle.cf_protocol.specs.Datum.{Placed}
use Rattle.cf_protocol.specs.Note.{Lists, Reading}
use Rattle.cf_protocol.specs.Position.{Position}
use Rattle.cf_protocol.specs.Regular.{IsCode}
use Rattle.cf_model.specs.Recovery.{arrives, has, overfull}
use Rattle.cf_recovery.specs.ArrivalBuffer.{Arrival, IsWithin, ArrivalBuffer, StandsFor, arrival, given_up}
use Rattle.cf_recovery.specs.ArrivalBuffer.{nothing_kept, places, with_arrival}
use Rattle.cf_model.specs.Recovery.{falls_short, run_length}
use Rattle.cf_hub.specs.InNotes.{AreMissed, IsListed, placed_of}
use Rattle.cf_hub.specs.Wordings.{Held, at_offset, held}
use Rattle.cf_hub_moves.specs.Held.{IsHeld}

pub holds_nothing : (lists : Lists) (c : List ℕ) (id : ℕ) → IsCode id → IsHeld lists c id None (held nothing_kept []) []
holds_nothing lists c id code = record {
  is_code = code;
  within = record { once = tt; few = refl; nothing = λ h. absurd (cc); cause = λ h. absurd (cc) };
  stands = record { all = λ h. refl; more = λ h s. absurd (cc) };
  listed = All-nil (λ a. IsListed lists c a.at.epoch (placed_of a));
  missed = tt;
}

pub holds_read : (lists : Lists) (c : List ℕ) (r : Reading) (missed : List Placed) → AreMissed lists c r missed
    → (id : ℕ) (k : Held) (arrived : List Position)
    → IsHeld lists c id None k arrived → IsHeld lists c id (Some r) (record k { missed = missed }) arrived
holds_read lists c r missed m id k arrived h =
    record { is_code = h.is_code; within = h.within; stands = h.stands; listed = h.listed; missed = m }

-- all is given up, since memory was refused: it stands for whatever arrived
pub holds_up : (lists : Lists) (c : List ℕ) (id : ℕ) (x : Option Reading) (k : Held) (arrived more : List Position)
    → IsHeld lists c id x k arrived → IsHeld lists c id x (record k { kept = given_up true }) more
holds_up lists c id x k arrived more h = record {
  is_code = h.is_code;
  within = record { once = tt; few = refl; nothing = λ i. refl; cause = λ i. refl };
  stands = record { all = λ i. absurd (cc); more = λ i j. absurd (cc) };
  listed = All-nil (λ a. IsListed lists c a.at.epoch (placed_of a));
  missed = h.missed;
}

module _
    (within : (a : Arrival) (k : ArrivalBuffer) → IsWithin k → IsWithin (with_arrival a k))
    (stands : (a : Arrival) (k : ArrivalBuffer) (arrived : List Position) → StandsFor k arrived
    → StandsFor (with_arrival a k) (arrives a.at arrived))
    (run : (k : ArrivalBuffer) (arrived : List Position) (r : Reading) → IsWithin k → StandsFor k arrived
    → k.short ≡ false → run_length (places k.arrived) r ≡ run_length arrived r)
    (short : (k : ArrivalBuffer) (arrived : List Position) (r : Reading) → IsWithin k → StandsFor k arrived
    → k.short ≡ false → (k.overflow || falls_short (places k.arrived) r) ≡ falls_short arrived r)
    (lists : Lists) where
  listed_more : (P : Arrival → Type 0) (a : Arrival) (k : ArrivalBuffer) → P a → All P k.arrived
      → All P (with_arrival a k).arrived
  listed_more P a k p h =
      by_test (k.overflow || has (places k.arrived) a.at.epoch a.at.offset) (overfull (a.at ∷ places k.arrived))
    where
      by_test : (known many : Bool) → All P (if known then k else if many then given_up k.short
          else record k { arrived = a ∷ k.arrived }).arrived
      by_test true many = h
      by_test false true = All-nil P
      by_test false false = All-cons P a k.arrived p h

  pub holds_one : (c e : List ℕ) (p : Placed) → IsListed lists c e p
      → (id : ℕ) (x : Option Reading) (k : Held) (arrived : List Position) → IsHeld lists c id x k arrived
      → IsHeld lists c id x (record k { kept = with_arrival (arrival e p) k.kept }) (arrives (at_offset e p) arrived)
  holds_one c e p l id x k arrived h = record {
    is_code = h.is_code;
    within = within (arrival e p) k.kept h.within;
    stands = stands (arrival e p) k.kept arrived h.stands;
    listed = listed_more (λ a. IsListed lists c a.at.epoch (placed_of a)) (arrival e p) k.kept l h.listed;
    missed = h.missed;
  }
