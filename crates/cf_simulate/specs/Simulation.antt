-- What `simulate` writes, and when each fault comes. If the writer's bytes are known, this says what is added to
-- them.
use Rattle.std.specs.Prelude.{◌≡◌, ◌⊎◌, ℕ, suc, ◌+◌, ◌≤◌, Bool, true, false, Option, List, [], ◌∷◌, ◌++◌, length, take}
use Rattle.std.specs.Str.{IsUtf8}
use Rattle.std.specs.Io.KnownBytes.{Keeps, Appends}
use Rattle.cf_machine.specs.Config.{Config}
use Rattle.cf_machine.specs.Event.{Event}
use Rattle.cf_machine.specs.IntervalMachine.{happens, run}
use Rattle.cf_machine.specs.Told.{trace, writes}
use Rattle.cf_machine.specs.TraceLine.{printed}
use Rattle.cf_machine.specs.World.{World, start}
use Rattle.cf_schedule.specs.Running.{Running}
use Rattle.cf_world.specs.Tie.{Tied}
use Rattle.cf_explain.specs.Remarks.{AreRemarks, BeginsWith, IsOneLine, heading}
use Rattle.cf_simulate.specs.ScheduleText.{IsSchedule, IsUnreadableAt, IsRepeatedAt}
use Rattle.cf_simulate.specs.declared.schedule.Line.{Line}
use Rattle.cf_simulate.specs.declared.error.SimulateError.{SimulateError}
use Rattle.cf_simulate.specs.declared.error.SimulateError.TheVariants.{Unreadable, UsedTwice, NotUtf8, Memory}
use Rattle.cf_simulate.specs.declared.error.SimulateError.TheVariants.{InputOutput}

-- ---- what is written of a run

-- what the machine prints in a run of these events
abbrev pub lines_of_run : Config → List Event → List ℕ
lines_of_run cfg events = printed (trace cfg 1 start events)

-- remarks, and behind them these lines
pub record HasRemarks (lines bytes : List ℕ) : Type 0 where
  pub remarks : List ℕ
  pub are : AreRemarks remarks
  pub cut : bytes ≡ remarks ++ lines

-- remarks, behind them these lines, and then the rest
pub record HasRemarksFirst (lines : List ℕ) (Rest : List ℕ → Type 0) (bytes : List ℕ) : Type 0 where
  pub front : List ℕ
  pub rest : List ℕ
  pub explained : HasRemarks lines front
  pub further : Rest rest
  pub cut : bytes ≡ front ++ rest

-- event by event: remarks on it, and then the lines that the machine prints in it
abbrev pub AreExplained : Config → ℕ → World → List Event → List ℕ → Type 0
AreExplained cfg n m [] bytes = bytes ≡ []
AreExplained cfg n m (e ∷ es) bytes =
    HasRemarksFirst (printed (writes cfg n m e)) (AreExplained cfg (suc n) (happens cfg m e) es) bytes

-- how the run of these events is shown, bare or explained
abbrev pub AreShown : Bool → Config → List Event → List ℕ → Type 0
AreShown false cfg events bytes = bytes ≡ lines_of_run cfg events
AreShown true cfg events bytes = AreExplained cfg 1 start events bytes

-- how an event's lines are shown
abbrev pub IsShown : Bool → List ℕ → List ℕ → Type 0
IsShown false lines bytes = bytes ≡ lines
IsShown true lines bytes = HasRemarks lines bytes

-- so the next event is shown
abbrev pub ShowsEvent : Bool → Event → Running → List ℕ → Type 0
ShowsEvent explains e old bytes =
    (cfg : Config) (past : List Event) → Tied cfg old.parts (run cfg start past)
    → IsShown explains (printed (writes cfg (old.count + 1) (run cfg start past) e)) bytes

-- what explains an event begins with the number and the text of its line
abbrev pub IsHeaded : Bool → Line → List ℕ → Type 0
IsHeaded false line bytes = Unit {0}
IsHeaded true line bytes = IsOneLine line.text.now → BeginsWith (heading line.number line.text.now) bytes

-- ---- what is added to the output

-- the front of these bytes is added
pub record AddsPart (old new : Option (List ℕ)) (bs : List ℕ) : Type 0 where
  pub part : List ℕ
  pub rest : List ℕ
  pub cut : bs ≡ part ++ rest
  pub adds : Appends old new part

-- the front of bs is added, and the rest is left
pub record Leaves (old new : Option (List ℕ)) (bs rest : List ℕ) : Type 0 where
  pub part : List ℕ
  pub cut : bs ≡ part ++ rest
  pub adds : Appends old new part

-- ---- how a run of events ends

-- all events were carried out, and they are shown
pub record WritesAll (explains : Bool) (cfg : Config) (events : List Event) (old new : Option (List ℕ)) : Type 0 where
  pub bytes : List ℕ
  pub shown : AreShown explains cfg events bytes
  pub adds : Appends old new bytes

-- some first events were carried out, and they are shown, and none but they
pub record PrintsWhole (explains : Bool) (cfg : Config) (events : List Event)
    (old new : Option (List ℕ)) : Type 0 where
  pub done : ℕ
  pub within : done ≤ length events
  pub bytes : List ℕ
  pub shown : AreShown explains cfg (take done events) bytes
  pub adds : Appends old new bytes

-- some first events were carried out, and the front of what shows them is written
pub record PrintsPart (explains : Bool) (cfg : Config) (events : List Event)
    (old new : Option (List ℕ)) : Type 0 where
  pub done : ℕ
  pub within : done ≤ length events
  pub bytes : List ℕ
  pub shown : AreShown explains cfg (take done events) bytes
  pub adds : AddsPart old new bytes

abbrev pub EndsRun : Bool → Config → List Event → Option (List ℕ) → Option (List ℕ) → SimulateError
    → Type 0
EndsRun explains cfg events old new Memory = PrintsWhole explains cfg events old new
EndsRun explains cfg events old new InputOutput = PrintsPart explains cfg events old new
EndsRun explains cfg events old new f = ⊥

-- memory was refused, or a read failed
abbrev pub IsOutside : SimulateError → Type 0
IsOutside f = (f ≡ Memory) ⊎ (f ≡ InputOutput)

-- ---- the whole

-- the input is a schedule, and all of it is carried out and shown
pub record Prints (explains : Bool) (cfg : Config) (input : List ℕ) (old new : Option (List ℕ)) : Type 0 where
  pub text : IsUtf8 input
  pub events : List Event
  pub schedule : IsSchedule cfg.nodes input events
  pub writes : WritesAll explains cfg events old new

-- the input is a schedule, and its run ends so
pub record Stops (explains : Bool) (cfg : Config) (input : List ℕ) (old new : Option (List ℕ))
    (f : SimulateError) : Type 0 where
  pub text : IsUtf8 input
  pub events : List Event
  pub schedule : IsSchedule cfg.nodes input events
  pub ends : EndsRun explains cfg events old new f

-- Why it ended before its end. If the input can't be used, or can't be read, nothing is written.
abbrev pub Ends : Bool → Config → List ℕ → Option (List ℕ) → Option (List ℕ) → SimulateError → Type 0
Ends explains cfg input old new NotUtf8 = (IsUtf8 input → ⊥) × Keeps old new
Ends explains cfg input old new (Unreadable n) = IsUtf8 input × IsUnreadableAt cfg.nodes input n × Keeps old new
Ends explains cfg input old new (UsedTwice n e) = IsUtf8 input × IsRepeatedAt cfg.nodes input n e × Keeps old new
Ends explains cfg input old new Memory = Keeps old new ⊎ Stops explains cfg input old new Memory
Ends explains cfg input old new InputOutput = Keeps old new ⊎ Stops explains cfg input old new InputOutput
