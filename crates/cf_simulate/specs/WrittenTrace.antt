-- What `simulate` wrote, read as the lines of a trace, of which a contract can then say what holds.
use Rattle.std.specs.Prelude.{◌≡◌, ◌⊎◌, ℕ, ◌≤◌, Bool, true, false, Option, List, [], ◌∷◌, length, take, flat_map}
use Rattle.std.specs.Io.KnownBytes.{Keeps, Appends}
use Rattle.cf_machine.specs.Config.{Config}
use Rattle.cf_machine.specs.Event.{Event}
use Rattle.cf_machine.specs.Told.{trace}
use Rattle.cf_machine.specs.Trace.{Entry}
use Rattle.cf_machine.specs.TraceLine.{printed}
use Rattle.cf_machine.specs.World.{start}
use Rattle.cf_simulate.specs.ScheduleText.{IsSchedule}
use Rattle.cf_simulate.specs.Simulation.{AddsPart, HasRemarksFirst}

-- part by part: remarks, and then the lines of its entries
abbrev pub AreRemarked : List (List Entry) → List ℕ → Type 0
AreRemarked [] bytes = bytes ≡ []
AreRemarked (part ∷ parts) bytes = HasRemarksFirst (printed part) (AreRemarked parts) bytes

-- the entries in parts, and remarks before the lines of each
pub record HasRemarksAmong (entries : List Entry) (bytes : List ℕ) : Type 0 where
  pub parts : List (List Entry)
  pub whole : entries ≡ flat_map (λ part. part) parts
  pub remarked : AreRemarked parts bytes

-- the lines of these entries, bare or with remarks among them
abbrev pub AreLinesOf : Bool → List Entry → List ℕ → Type 0
AreLinesOf false entries bytes = bytes ≡ printed entries
AreLinesOf true entries bytes = HasRemarksAmong entries bytes

-- the bytes are the lines of the trace of these events, of which this holds
pub record ShowsTrace (explains : Bool) (cfg : Config) (events : List Event)
    (Holds : List Event → List Entry → Type 0) (bytes : List ℕ) : Type 0 where
  pub entries : List Entry
  pub told : entries ≡ trace cfg 1 start events
  pub holds : Holds events entries
  pub lines : AreLinesOf explains entries bytes

-- the input is a schedule, and the lines of its trace are added, of which this holds
pub record WritesTrace (explains : Bool) (cfg : Config) (input : List ℕ) (old new : Option (List ℕ))
    (Holds : List Event → List Entry → Type 0) : Type 0 where
  pub events : List Event
  pub schedule : IsSchedule cfg.nodes input events
  pub bytes : List ℕ
  pub shows : ShowsTrace explains cfg events Holds bytes
  pub adds : Appends old new bytes

-- the same of some first events, of whose lines the front is added
pub record WritesFront (explains : Bool) (cfg : Config) (input : List ℕ) (old new : Option (List ℕ))
    (Holds : List Event → List Entry → Type 0) : Type 0 where
  pub events : List Event
  pub schedule : IsSchedule cfg.nodes input events
  pub done : ℕ
  pub within : done ≤ length events
  pub bytes : List ℕ
  pub shows : ShowsTrace explains cfg (take done events) Holds bytes
  pub adds : AddsPart old new bytes

-- that, or nothing is added
abbrev pub WritesFrontAtMost : Bool → Config → List ℕ → Option (List ℕ) → Option (List ℕ)
    → (List Event → List Entry → Type 0) → Type 0
WritesFrontAtMost explains cfg input old new Holds = Keeps old new ⊎ WritesFront explains cfg input old new Holds
