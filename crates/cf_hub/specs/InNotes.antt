-- When a session of texts and publications, as the code has it, says and keeps what a session of notes and positions
-- does: each text is that of its note with the data of the publication lists, and each publication that is kept is
-- the one that is listed at its place. What is said of lists stays when they grow.
use Rattle.std.specs.Prelude.{◌≡◌, ⊤, ◌-◌, ◌++◌, ℕ, false, Option, Some, None, List}
use Rattle.std.specs.List.{All}
use Rattle.cf_protocol.specs.Datum.{Datum, Placed}
use Rattle.cf_protocol.specs.Note.{Lists, Note, Reading, outgoing_of, placed_at, placed_from}
use Rattle.cf_protocol.specs.Note as note
use Rattle.cf_protocol.specs.Outgoing.{Outgoing}
use Rattle.cf_protocol.specs.Position.{Position}
use Rattle.cf_protocol.specs.Regular.{ArePlaced, IsBody, IsCode, IsPlaced, IsPosition, IsRegular}
use Rattle.cf_protocol.specs.Written.{outgoing_text}
use Rattle.cf_queue.specs.OutQueue.{Item, Text, Close}
use Rattle.cf_recovery.specs.ArrivalBuffer.{Arrival, IsWithin, StandsFor}
use Rattle.cf_hub.specs.Alike.{Alike}
use Rattle.cf_hub.specs.Session.{Attached}
use Rattle.cf_model.specs.Sessions.{SessionState}
use Rattle.cf_hub.specs.Wordings.{Held}

-- these lists go on from those
pub record Grown (old new : Lists) : Type 0 where
  pub later : (c e : List ℕ) → (ds : List Datum) × (new c e ≡ old c e ++ ds)

-- the publication is the one that is listed at its place, and its text can be read back
pub record IsListed (lists : Lists) (c e : List ℕ) (p : Placed) : Type 0 where
  pub stands : (later : Lists) → Grown lists later → placed_at (later c e) p.offset ≡ Some p
  pub regular : IsPlaced IsBody p

-- ---- what waits for the client

-- the text says the note with its data, and is read back as that alone
pub record IsSaid (lists : Lists) (t : List ℕ) (n : Note) : Type 0 where
  pub said : Outgoing
  pub stays : (later : Lists) → Grown lists later → outgoing_of later n ≡ Some said
  pub regular : IsRegular said
  pub text : t ≡ outgoing_text said

abbrev pub SaysNote : Lists → Item → Note → Type 0
SaysNote lists (Text t) n = IsSaid lists t n
SaysNote lists (Close code) n = n ≡ note.Close code

-- ---- what is kept before a reply

-- the publications that the read gave are those of its reading
pub record AreMissed (lists : Lists) (c : List ℕ) (r : Reading) (missed : List Placed) : Type 0 where
  pub listed : (later : Lists) → Grown lists later → placed_from (later c r.epoch) r.low (r.top - r.low) ≡ missed
  pub regular : ArePlaced IsBody missed
  pub position : IsPosition (record { epoch = r.epoch; offset = r.top })

abbrev pub MissedBy : Lists → List ℕ → Option Reading → List Placed → Type 0
MissedBy lists c None missed = ⊤
MissedBy lists c (Some r) missed = AreMissed lists c r missed

abbrev pub placed_of : Arrival → Placed
placed_of a = record { offset = a.at.offset; datum = a.datum }

-- What is kept stands for the positions that arrived, and no memory was refused for it.
pub record IsKept (lists : Lists) (c : List ℕ) (id : ℕ) (read : Option Reading) (h : Held)
    (arrived : List Position) : Type 0 where
  pub is_code : IsCode id
  pub within : IsWithin h.kept
  pub stands : StandsFor h.kept arrived
  pub whole : h.kept.short ≡ false
  pub listed : All (λ a. IsListed lists c a.at.epoch (placed_of a)) h.kept.arrived
  pub missed : MissedBy lists c read h.missed

-- ---- a session

abbrev pub SaysSession : Lists → SessionState Held Item → SessionState (List Position) Note → Type 0
SaysSession lists a b = Alike (IsKept lists) (SaysNote lists) a b

-- the session of a number, which is there
abbrev pub SaysAt : Lists → Option Attached → SessionState (List Position) Note → Type 0
SaysAt lists None b = ⊥
SaysAt lists (Some a) b = SaysSession lists a.state b
