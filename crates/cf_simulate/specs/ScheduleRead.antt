-- What the readers of a schedule answer.
use Rattle.std.specs.Prelude.{◌≡◌, ◌+◌, ℕ, Option, Some, true, false, ◌||◌, List, map, slice_get}
use Rattle.std.specs.List.{AllZip}
use Rattle.std.specs.BTreeSet.{BTreeSet, contains_text}
use Rattle.std.specs.Str.{bytes_eq}
use Rattle.std.specs.declared.string.String.{String}
use Rattle.std.specs.declared.alloc.Global.{Global}
use Rattle.cf_protocol.specs.Names.{is_among}
use Rattle.cf_machine.specs.Event.{Event, Epoch}
use Rattle.cf_schedule.specs.Seen.{seen}
use Rattle.cf_schedule.specs.ScheduleLine.{Says}
use Rattle.cf_simulate.specs.ScheduleText.{events_of, epochs_of, Give, IsUnreadable, IsUnreadableAt, IsRepeatedAt}
use Rattle.cf_simulate.specs.declared.error.SimulateError.{SimulateError}
use Rattle.cf_simulate.specs.declared.error.SimulateError.TheVariants.{Unreadable, UsedTwice, Memory}
use Rattle.cf_simulate.specs.declared.schedule.Line.{Line}
use Rattle.cf_simulate.specs.declared.schedule.Schedule.{Schedule}

-- these lines were read, and this is kept of them
pub record IsReadTo (nodes : ℕ) (lines : List (List ℕ)) (s : Schedule) : Type 0 where
  pub given : List (Option Event)
  pub give : Give nodes lines given
  pub events : map seen s.events.items ≡ events_of given
  pub epochs : (e : List ℕ) → contains_text s.epochs e ≡ is_among e (epochs_of given)

-- this is one of the lines, with its number from 1, and says the event
pub record IsLineOf (nodes : ℕ) (lines : List (List ℕ)) (line : Line) (event : Event) : Type 0 where
  pub before : ℕ
  pub number : line.number ≡ before + 1
  pub stands : slice_get lines before ≡ Some line.text.now
  pub says : Says nodes line.text.now event

-- beside each event of a schedule over these lines stands the one that says it
abbrev pub HasLines : ℕ → List (List ℕ) → Schedule → Type 0
HasLines nodes lines s = AllZip (IsLineOf nodes lines) s.lines.items (map seen s.events.items)

-- the line beside the event behind so many
abbrev pub line_at : Schedule → ℕ → Option Line
line_at s done = slice_get s.lines.items done

-- why line n, behind these, was refused
abbrev pub RefusesLine : ℕ → List ℕ → ℕ → List (Option Event) → SimulateError → Type 0
RefusesLine nodes line n given (Unreadable m) = (m ≡ n) × IsUnreadable nodes line
RefusesLine nodes line n given (UsedTwice m e) =
    (m ≡ n) × Says nodes line (Epoch e) × (is_among e (epochs_of given) ≡ true)
RefusesLine nodes line n given Memory = Unit {0}
RefusesLine nodes line n given f = ⊥

-- ---- the epochs that came

abbrev pub Epochs : Type 0
Epochs = BTreeSet (String Global)

-- the epoch that the event brings, if any, didn't come before and has come now
abbrev pub KeepsEpoch : Epochs → Event → Epochs → Type 0
KeepsEpoch old (Epoch e) new =
    (contains_text old e ≡ false)
    × ((q : List ℕ) → contains_text new q ≡ (bytes_eq e q || contains_text old q))
KeepsEpoch old event new = (q : List ℕ) → contains_text new q ≡ contains_text old q

-- the epoch that the event brings came before
abbrev pub RefusesEpoch : Epochs → Event → ℕ → SimulateError → Type 0
RefusesEpoch old event n (UsedTwice m e) = (m ≡ n) × (event ≡ Epoch e) × (contains_text old e ≡ true)
RefusesEpoch old event n Memory = Unit {0}
RefusesEpoch old event n f = ⊥

-- ---- the whole text

-- why a text was refused
abbrev pub RefusesText : ℕ → List ℕ → SimulateError → Type 0
RefusesText nodes text (Unreadable n) = IsUnreadableAt nodes text n
RefusesText nodes text (UsedTwice n e) = IsRepeatedAt nodes text n e
RefusesText nodes text Memory = Unit {0}
RefusesText nodes text f = ⊥
