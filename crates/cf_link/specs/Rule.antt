-- The rule of the queue behind a link. One pass at most may push, and it has the list of what was sent; the same for
-- pops. What any pass knows of the other end is how that began.
use Rattle.std.specs.Prelude.{◌≡◌, ℕ, Bool, true, List, ◌++◌}
use mathlib.Core.List.{IsPrefix}
use mathlib.Core.Option.{some}
use lib.ListN.{get_elem?}
use Rattle.cf_link.specs.declared.log.Log.{Log}

module _ {T : Type 0} where
  abbrev pub log : Bool → Bool → List T → List T → Log T
  log a b sent received = record { pushes = a; pops = b; sent = sent; received = received }

  -- the pass at this port knows how the lists of what was sent and of what was received begin, and has the whole list
  -- of what was sent if it is the writer, and of what was received if it is the reader
  abbrev pub Fits : ℕ → ℕ → List T → List T → ℕ → Log T → Type 0
  Fits writer reader sent received port v =
      IsPrefix v.sent sent × IsPrefix v.received received
      × (v.pushes ≡ true → (port ≡ writer) × (v.sent ≡ sent))
      × (v.pops ≡ true → (port ≡ reader) × (v.received ≡ received))

  -- what was sent is what was received and then what waits
  abbrev pub IsLinked : List T → List (Log T) → Type 0
  IsLinked waiting views =
      (writer : ℕ) × (reader : ℕ) × (sent : List T) × (received : List T) × (sent ≡ received ++ waiting)
      × ((port : ℕ) (v : Log T) → get_elem? views port ≡ some v → Fits writer reader sent received port v)
