-- What a read and a history of a shard answer is listed, and can be said. (This project's own profile.)
use Rattle.std.specs.Prelude.{◌≡◌, ⊤, ℕ, ℤ, Bool, Option, Some, List}
use Rattle.std.specs.List.{AllByRecursion}
use Rattle.cf_protocol.specs.Datum.{Datum, Placed}
use Rattle.cf_protocol.specs.Note.{Listed, Lists, Note, outgoing_of}
use Rattle.cf_protocol.specs.Outgoing.{Answer, Outgoing, Past}
use Rattle.cf_protocol.specs.Position.{Position}
use Rattle.cf_protocol.specs.Regular.{IsCode, IsRegular}
use Rattle.cf_stream.specs.PublicationList.{state_of}
use Rattle.cf_model.specs.Streams.{Life}
use Rattle.cf_model.specs.Streams.{listed_above, read_of}
use Rattle.cf_hub.specs.InNotes.{AreMissed, Grown}
use Rattle.cf_machine.specs.ReadBack.{IsDatum}
use Rattle.cf_running.specs.Server.{Publishes, Section, Server, Site, ToPublish, Work, life_of, lists_of}
use Rattle.cf_hub_moves.specs.Readings.{answered}

-- what a worker, or a section, is to publish has this
abbrev pub WorkHas : (Datum → Type 0) → Work → Type 0
WorkHas P (ToPublish c id key d) = P d
WorkHas P other = ⊤

abbrev pub SectionHas : (Datum → Type 0) → Server → Section → Type 0
SectionHas P s (Publishes k) = WorkHas P (s.connections k).work
SectionHas P s other = ⊤

-- what is published can be read back, and so can all that is listed
pub record AllReadBack (site : Site) (s : Server) : Type 0 where
  pub each : (c e : List ℕ) → AllByRecursion IsDatum (lists_of site s c e)

-- the answer to a read is the reading that the worker has in hand then, and brings what is listed there
pub record IsReading (site : Site) (s : Server) (c : List ℕ) (since : Option Position) (p : Position)
    (recovered : Bool) (items : List Placed) : Type 0 where
  pub life : Life
  pub stands : life_of site s c ≡ Some life
  pub same : answered p recovered items ≡ read_of since (state_of life)
  pub missed : AreMissed (lists_of site s) c (answered p recovered items) items

-- this says the note, also when the lists have grown
abbrev pub SaysLater : Lists → Note → Outgoing → Type 0
SaysLater lists n o = (later : Lists) → Grown lists later → outgoing_of later n ≡ Some o

-- the reply to a history says the note that the worker has in hand then, and can be read back
pub record IsListing (site : Site) (s : Server) (c : List ℕ) (limit : ℤ) (p : Position)
    (items : List Placed) : Type 0 where
  pub life : Life
  pub stands : life_of site s c ≡ Some life
  pub says : (id : ℕ)
      → SaysLater (lists_of site s)
      (let found = listed_above 0 limit (state_of life) in Listed c id found.at found.low found.count)
      (Answer id (Past p items))
  pub regular : (id : ℕ) → IsCode id → IsRegular (Answer id (Past p items))
