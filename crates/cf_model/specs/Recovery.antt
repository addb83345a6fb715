-- What a subscription is given of the publications that come around its reply: those that go on where the reply ends.
-- Where something may be missing it ends, and the client asks again.
use Rattle.std.specs.Prelude.{◌≡◌, ℕ, ◌==◌, nat_le, nat_lt, max, ◌&&◌, ◌||◌, Bool, true, false, if◌then◌else◌, List}
use Rattle.std.specs.Prelude.{[], ◌∷◌, length, suc, zero, ◌+◌, ◌<◌, ◌≤◌, not, Option, Some, None}
use Rattle.std.specs.Str.{bytes_eq}
use Rattle.cf_protocol.specs.Position.{Position}
use Rattle.cf_protocol.specs.Note.{Reading}

-- The publications that come to a node while a subscription is being asked for: a set of positions in its channel.
-- (Centrifugo buffers them between subscribing and the reply; the limit is this project's own profile.)

-- whether the position is among these
abbrev pub has : List Position → List ℕ → ℕ → Bool
has [] epoch offset = false
has (first ∷ arrived) epoch offset =
    (bytes_eq first.epoch epoch && (first.offset == offset)) || has arrived epoch offset

-- One more arrives. It is a set: what came twice is there once.
abbrev pub arrives : Position → List Position → List Position
arrives at arrived = if has arrived at.epoch at.offset then arrived else at ∷ arrived

-- the most that are kept
abbrev pub most_kept : ℕ
most_kept = 1000

-- whether more came than are kept
abbrev pub overfull : List Position → Bool
overfull arrived = nat_lt most_kept (length arrived)

-- the highest offset of these, or 0
abbrev pub highest : List Position → ℕ
highest [] = 0
highest (first ∷ arrived) = max first.offset (highest arrived)

-- whether each is of this epoch and not above this offset
abbrev pub all_within : List Position → List ℕ → ℕ → Bool
all_within [] epoch top = true
all_within (first ∷ arrived) epoch top =
    (bytes_eq first.epoch epoch && nat_le first.offset top) && all_within arrived epoch top

-- each of these is there once
abbrev pub AreOnce : List Position → Type 0
AreOnce [] = Unit {0}
AreOnce (first ∷ arrived) = (has arrived first.epoch first.offset ≡ false) × AreOnce arrived

-- What follows the reply to a subscribe: the publications that came meanwhile and go on where the reply ends.
-- (Centrifugo, history and recovery: a subscriber that may have missed something is told so and asks again.)

-- whether so many positions of this epoch that follow the offset all arrived
abbrev pub all_arrived : List Position → List ℕ → ℕ → ℕ → Bool
all_arrived arrived epoch offset zero = true
all_arrived arrived epoch offset (suc count) =
    all_arrived arrived epoch offset count && has arrived epoch (offset + suc count)

-- the greatest number up to this one that passes the test, or 0
abbrev pub greatest : (ℕ → Bool) → ℕ → ℕ
greatest test zero = 0
greatest test (suc count) = if test (suc count) then suc count else greatest test count

-- How many are passed on after a reply that ends at the reading's top: the greatest number such that everything from
-- there up to it arrived; none if more came than are kept.
abbrev pub run_length : List Position → Reading → ℕ
run_length arrived reading =
    if overfull arrived then 0 else greatest (all_arrived arrived reading.epoch reading.top) (highest arrived)

-- Whether something came that the run does not reach, or of another epoch: the subscription then ends.
abbrev pub falls_short : List Position → Reading → Bool
falls_short arrived reading =
    overfull arrived || not (all_within arrived reading.epoch (reading.top + run_length arrived reading))

-- every position of this epoch above the one offset, up to the other, arrived
abbrev pub Reaches : List Position → List ℕ → ℕ → ℕ → Type 0
Reaches arrived epoch low high = (i : ℕ) → low < i → i ≤ high → has arrived epoch i ≡ true

-- what arrived is all of this epoch, and none of it above this offset
abbrev pub LiesWithin : List Position → List ℕ → ℕ → Type 0
LiesWithin arrived epoch high = (other : List ℕ) (i : ℕ) → has arrived other i ≡ true → (other ≡ epoch) × (i ≤ high)

-- What a subscription that stands at a position does with a publication that is delivered. (Centrifugo: insufficient
-- state.)

pub data Verdict : Type 0 where
  -- it is known already
  Drop : Verdict
  -- it is the next one
  Pass : Verdict
  -- something is missing before it, or it is of another epoch
  Insufficient : Verdict

abbrev pub next : Position → Position
next at = record { epoch = at.epoch; offset = at.offset + 1 }

abbrev pub verdict : Position → Position → Verdict
verdict at came =
    if bytes_eq came.epoch at.epoch && nat_le came.offset at.offset then Drop
    else if bytes_eq came.epoch at.epoch && (came.offset == at.offset + 1) then Pass
    else Insufficient

-- Now and then a node compares where a subscription stands with where its stream stands.
-- (Centrifugo: periodic check of the position; that it takes two checks is this project's own profile.)

pub data Checked : Type 0 where
  -- nothing is missing
  Fine : Checked
  -- the stream is ahead, as it may be for a while
  Behind : Checked
  -- it stands where it stood at the last check, or the stream is another one
  Ended : Checked

-- the stream is ahead: `behind_at` is the offset at which the last check found the subscription behind
abbrev pub behind : ℕ → Option ℕ → Checked
behind offset None = Behind
behind offset (Some behind_at) = if behind_at == offset then Ended else Behind

abbrev pub position_check : Option Position → Position → Option ℕ → Checked
position_check None at behind_at = Ended
position_check (Some top) at behind_at =
    if not (bytes_eq top.epoch at.epoch) then Ended
    else if nat_le top.offset at.offset then Fine
    else behind at.offset behind_at
