-- What a schedule's text says, line by line, and the first line that can't be used. (This project's own format.)
use Rattle.std.specs.Prelude.{◌≡◌, ℕ, ◌+◌, ◌==◌, true, Option, Some, None, List, [], ◌∷◌, ◌++◌, length, flat_map}
use Rattle.std.specs.Prelude.{option_to_list}
use Rattle.std.specs.List.{slice_split, AllZip}
use Rattle.cf_protocol.specs.Names.{is_among}
use Rattle.cf_machine.specs.Event.{Event, Epoch}
use Rattle.cf_schedule.specs.ScheduleLine.{Says, IsPassedOver}
use Rattle.cf_schedule.specs.LineRead.{IsNone}
use Rattle.cf_machine.specs.FreshEpochs.{AreDistinct}

-- a line ends at a line feed or at the end of the input
abbrev pub lines_of : List ℕ → List (List ℕ)
lines_of text = slice_split (λ b. b == 10) text

-- a line gives nothing if it is passed over, and else the event that it says
abbrev pub Gives : ℕ → List ℕ → Option Event → Type 0
Gives nodes line None = IsPassedOver line
Gives nodes line (Some e) = Says nodes line e

abbrev pub events_of : List (Option Event) → List Event
events_of given = flat_map option_to_list given

abbrev pub epochs_by : Event → List (List ℕ)
epochs_by (Epoch e) = e ∷ []
epochs_by e = []

abbrev pub epochs_of : List (Option Event) → List (List ℕ)
epochs_of given = flat_map epochs_by (events_of given)

-- the lines give these, and no epoch twice
pub record Give (nodes : ℕ) (lines : List (List ℕ)) (given : List (Option Event)) : Type 0 where
  pub each : AllZip (Gives nodes) lines given
  pub once : AreDistinct (epochs_of given)

-- the text says these events
pub record IsSchedule (nodes : ℕ) (text : List ℕ) (events : List Event) : Type 0 where
  pub given : List (Option Event)
  pub give : Give nodes (lines_of text) given
  pub are : events ≡ events_of given

-- ---- what can't be used

abbrev pub IsUnreadable : ℕ → List ℕ → Type 0
IsUnreadable nodes line = (IsPassedOver line → ⊥) × IsNone (Says nodes line)

-- line n is the first that can't be used, and this is why
pub record IsFirstFault (nodes : ℕ) (text : List ℕ) (n : ℕ)
    (Why : List ℕ → List (Option Event) → Type 0) : Type 0 where
  pub before : List (List ℕ)
  pub line : List ℕ
  pub after : List (List ℕ)
  pub cut : lines_of text ≡ before ++ line ∷ after
  pub number : n ≡ length before + 1
  pub given : List (Option Event)
  pub give : Give nodes before given
  pub why : Why line given

abbrev pub IsUnreadableAt : ℕ → List ℕ → ℕ → Type 0
IsUnreadableAt nodes text n = IsFirstFault nodes text n (λ line given. IsUnreadable nodes line)

-- an earlier line brought the epoch that this one brings
abbrev pub IsRepeatedAt : ℕ → List ℕ → ℕ → List ℕ → Type 0
IsRepeatedAt nodes text n e =
    IsFirstFault nodes text n (λ line given. Says nodes line (Epoch e) × (is_among e (epochs_of given) ≡ true))
