-- STREAM SAFETY: what a trace may say, beside the happenings that it is of.
-- A reader has to believe the machine in five things, which are not in the trace: whether the condition of an event
-- held, which node a client is on, whether its subscription was asked for there, the stream as its node read it (see
-- ClientSteps), and what had been published at each place. All else is taken from the events themselves and the trace.
use Rattle.std.specs.Prelude.{◌≡◌, ℕ, zero, suc, ◌-◌, ◌≤◌, ◌<◌, min, ◌↔◌, IsTrue, Bool, true, false, if◌then◌else◌}
use Rattle.std.specs.Prelude.{Option, Some, None, List, [], ◌∷◌, ◌++◌, ◌⊎◌, length, take}
use Rattle.cf_protocol.specs.Position.{Position}
use Rattle.cf_protocol.specs.Note.{Lists}
use Rattle.cf_model.specs.Streams.{StreamState, position_of}
use Rattle.cf_model.specs.Streams.{most_in_reply}
use Rattle.cf_model.specs.Recovery.{next}
use Rattle.cf_machine.specs.Config.{Config}
use Rattle.cf_machine.specs.PublicationList.{body_at}
use Rattle.cf_machine.specs.World.{start}
use Rattle.cf_machine.specs.LooseRun.{Happening, loose_run}
use Rattle.cf_machine.specs.Trace.{Item, Published as ToldPublished, Entry}
use Rattle.cf_machine.specs.ClientSteps.{ClientStep, Asks, Reads, Subscribed, Published, Stops, befell_from}

-- ---- numbered

-- The numbers of entries never fall, and lie between these two.
abbrev pub AreNumbered : ℕ → ℕ → List Entry → Type 0
AreNumbered low high [] = Unit {0}
AreNumbered low high (e ∷ es) = (low ≤ e.at) × (e.at ≤ high) × AreNumbered e.at high es

-- ---- one datum

-- An entry that tells a publication has the body that stands at its place, which is one that exists.
abbrev pub IsTrueTo : Lists → Item → Type 0
IsTrueTo lists (ToldPublished c p body) =
    (0 < p.offset) × (p.offset ≤ length (lists c p.epoch)) × (body ≡ body_at lists c p)
IsTrueTo lists i = Unit {0}

-- each entry, by what stood in the lists at its number
abbrev pub AreTrueTo : (ℕ → Lists) → List Entry → Type 0
AreTrueTo lists [] = Unit {0}
AreTrueTo lists (e ∷ es) = IsTrueTo (lists e.at) e.item × AreTrueTo lists es

-- what had been published when event number n began; events are numbered from 1
abbrev pub lists_before : Config → List Happening → ℕ → Lists
lists_before cfg hs n = (loose_run cfg start (take (n - 1) hs)).broker.lists

abbrev pub IsOneOf : Entry → List Entry → Type 0
IsOneOf e [] = ⊥
IsOneOf e (x ∷ xs) = (e ≡ x) ⊎ IsOneOf e xs

-- Two entries of any clients that tell of one place tell the same.
abbrev pub OneDatum : List Entry → Type 0
OneDatum t =
    (d e : Entry) → IsOneOf d t → IsOneOf e t
    → (c : List ℕ) (p : Position) (a b : List ℕ) → d.item ≡ ToldPublished c p a
    → e.item ≡ ToldPublished c p b → a ≡ b

-- ---- what befell one client at one channel so far, the latest first

-- the position of the last Subscribed or Published
abbrev pub last_position : List ClientStep → Option Position
last_position [] = None
last_position (Subscribed recovered at ∷ ms) = Some at
last_position (Published at ∷ ms) = Some at
last_position (Asks from ∷ ms) = last_position ms
last_position (Reads found ∷ ms) = last_position ms
last_position (Stops ∷ ms) = last_position ms

-- the old position: the one from which the last ask asked, if from one
abbrev pub old_position : List ClientStep → Option Position
old_position [] = None
old_position (Asks from ∷ ms) = if from then last_position ms else None
old_position (Reads found ∷ ms) = old_position ms
old_position (Subscribed recovered at ∷ ms) = old_position ms
old_position (Published at ∷ ms) = old_position ms
old_position (Stops ∷ ms) = old_position ms

-- Whether an ask is out: until its application is told that it is subscribed, or the client stops.
abbrev pub asks_now : List ClientStep → Bool
asks_now [] = false
asks_now (Asks from ∷ ms) = true
asks_now (Reads found ∷ ms) = asks_now ms
asks_now (Subscribed recovered at ∷ ms) = false
asks_now (Published at ∷ ms) = asks_now ms
asks_now (Stops ∷ ms) = false

-- The stream as the last read found it that was made for the ask that is out. Each read answers once.
abbrev pub last_read : List ClientStep → Option StreamState
last_read [] = None
last_read (Reads found ∷ ms) = if asks_now ms then Some found else None
last_read (Asks from ∷ ms) = None
last_read (Subscribed recovered at ∷ ms) = None
last_read (Published at ∷ ms) = last_read ms
last_read (Stops ∷ ms) = None

-- where a subscription sets out: from the old position if it recovered, else from the reply's
abbrev pub sets_out : Bool → Option Position → Position → Position
sets_out true (Some p) at = record { epoch = at.epoch; offset = p.offset }
sets_out true None at = at
sets_out false old at = at

-- The place after which the next Published has to come: that of the Published before it, or where the subscription
-- set out. None before the first Subscribed, after the client asks, and after it was told of an end or a close, left,
-- broke or was restarted.
abbrev pub run_of : List ClientStep → Option Position
run_of [] = None
run_of (Published at ∷ ms) = Some at
run_of (Subscribed recovered at ∷ ms) = Some (sets_out recovered (old_position ms) at)
run_of (Asks from ∷ ms) = None
run_of (Stops ∷ ms) = None
run_of (Reads found ∷ ms) = run_of ms

-- a past, the latest first, and what follows it
abbrev pub onto : List ClientStep → List ClientStep → List ClientStep
onto [] ms = ms
onto (m ∷ past) ms = onto past (m ∷ ms)

abbrev pub all_of : List (List ClientStep) → List ClientStep
all_of [] = []
all_of (ms ∷ more) = ms ++ all_of more

-- ---- unbroken, recovered run, honest recovery: of what befalls one client at one channel, event by event

abbrev pub Follows : Option Position → Position → Type 0
Follows None at = ⊥
Follows (Some p) at = at ≡ next p

-- UNBROKEN: wherever a Published stands, it comes right after the place before it.
abbrev pub Unbroken : List (List ClientStep) → Type 0
Unbroken history =
    (past after : List ClientStep) (at : Position) → all_of history ≡ onto past (Published at ∷ after)
    → Follows (run_of past) at

-- n places that follow one
abbrev pub places : Position → ℕ → List ClientStep
places p zero = []
places p (suc n) = Published (next p) ∷ places (next p) n

-- those after the old position, up to the reply's; none if the old position is not below that
abbrev pub all_places : Option Position → Position → List ClientStep
all_places None at = []
all_places (Some p) at = places p (at.offset - p.offset)

-- RECOVERED RUN: a recovered Subscribed is followed, in the same event, by exactly the places from the old position
-- to its own.
abbrev pub RecoveredRun : List (List ClientStep) → Type 0
RecoveredRun history =
    (before after : List (List ClientStep)) (ms past more : List ClientStep) (at : Position)
    → history ≡ before ++ ms ∷ after
    → all_of before ++ ms ≡ onto past (Subscribed true at ∷ more)
    → length more < length ms
    → more ≡ all_places (old_position past) at

-- The stream is of the old position's epoch and held everything after it, within the limit of one reply.
-- Nothing here keeps the old offset from being above the top: `-` stops at 0, and this then holds of a full stream. A
-- machine that says recovered only if the old offset is not above the top so has to prove that it never is.
abbrev pub StillHeld : Option Position → StreamState → Type 0
StillHeld None s = ⊥
StillHeld (Some p) s = (p.epoch ≡ s.epoch) × (s.top - p.offset ≤ min s.held most_in_reply)

-- what may be said after this read: recovered exactly if all was still held, and where the stream stood
abbrev pub IsHonest : Option Position → Option StreamState → Bool → Position → Type 0
IsHonest old None recovered at = ⊥
IsHonest old (Some found) recovered at = (IsTrue recovered ↔ StillHeld old found) × (at ≡ position_of found)

-- HONEST RECOVERY: a Subscribed stands behind a read made for the ask that it answers, and says recovered exactly
-- if the stream then still held everything since the old position; and it gives the position at which that read
-- found the stream.
abbrev pub HonestRecovery : List (List ClientStep) → Type 0
HonestRecovery history =
    (past after : List ClientStep) (recovered : Bool) (at : Position)
    → all_of history ≡ onto past (Subscribed recovered at ∷ after)
    → IsHonest (old_position past) (last_read past) recovered at

-- ---- the whole

-- what befalls client x at channel c in these happenings, by a trace
abbrev pub befell : Config → List Happening → List Entry → List ℕ → List ℕ → List (List ClientStep)
befell cfg hs t x c = befell_from cfg x c t 1 start hs

-- A trace is safe beside the happenings that it is of.
pub record Safe (cfg : Config) (hs : List Happening) (t : List Entry) : Type 0 where
  -- entries stand in the order of their events
  pub numbered : AreNumbered 1 (length hs) t
  -- what is told of a publication is the datum that stood at its place when the entry's event began
  pub true_to : AreTrueTo (lists_before cfg hs) t
  -- no two entries tell different data of one place
  pub one_datum : OneDatum t
  -- what an application gets after subscribing is a run without gap or repeat
  pub unbroken : (x c : List ℕ) → Unbroken (befell cfg hs t x c)
  -- a recovered subscription brings exactly what was missed
  pub recovered_run : (x c : List ℕ) → RecoveredRun (befell cfg hs t x c)
  -- and it says recovered exactly if all of that was still held
  pub honest_recovery : (x c : List ℕ) → HonestRecovery (befell cfg hs t x c)
