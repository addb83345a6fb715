-- Three sentences of stream safety as an automaton that goes through what befalls one client at one channel.
use Rattle.std.specs.Prelude.{◌≡◌, Bool, true, false, if◌then◌else◌, Option, Some, None, List, [], ◌∷◌}
use Rattle.cf_protocol.specs.Position.{Position}
use Rattle.cf_model.specs.Streams.{StreamState}
use Rattle.cf_machine.specs.ClientSteps.{ClientStep, Asks, Reads, Subscribed, Published, Stops}
use Rattle.cf_machine.specs.StreamSafety.{sets_out, Follows, all_places, IsHonest}

-- What a client's steps so far say: the last position, the old position, whether an ask is out, the stream as it was
-- read for
-- it, and the
-- place after which the next Published has to come.
pub record Seen : Type 0 where
  pub last : Option Position
  pub old : Option Position
  pub asks : Bool
  pub read : Option StreamState
  pub run : Option Position

abbrev pub nothing_seen : Seen
nothing_seen = record { last = None; old = None; asks = false; read = None; run = None }

abbrev pub sees : Seen → ClientStep → Seen
sees s (Asks from) = record { last = s.last; old = if from then s.last else None; asks = true; read = None; run = None }
sees s (Reads found) =
    record { last = s.last; old = s.old; asks = s.asks; read = if s.asks then Some found else None; run = s.run }
sees s (Subscribed recovered at) =
    record { last = Some at; old = s.old; asks = false; read = None; run = Some (sets_out recovered s.old at) }
sees s (Published at) = record { last = Some at; old = s.old; asks = s.asks; read = s.read; run = Some at }
sees s Stops = record { last = s.last; old = s.old; asks = false; read = None; run = None }

abbrev pub sees_all : Seen → List ClientStep → Seen
sees_all s [] = s
sees_all s (m ∷ ms) = sees_all (sees s m) ms

-- a client's step is as it must be after what was seen
abbrev pub IsSound : Seen → ClientStep → Type 0
IsSound s (Asks from) = Unit {0}
IsSound s (Reads found) = Unit {0}
IsSound s (Subscribed recovered at) = IsHonest s.old s.read recovered at
IsSound s (Published at) = Follows s.run at
IsSound s Stops = Unit {0}

abbrev pub AreSound : Seen → List ClientStep → Type 0
AreSound s [] = Unit {0}
AreSound s (m ∷ ms) = IsSound s m × AreSound (sees s m) ms

-- in its event a Subscribed is followed by its run, and by nothing else
abbrev pub IsWhole : Seen → List ClientStep → Type 0
IsWhole s [] = Unit {0}
IsWhole s (Subscribed true at ∷ ms) = ms ≡ all_places s.old at
IsWhole s (Subscribed false at ∷ ms) = ms ≡ []
IsWhole s (Asks from ∷ ms) = IsWhole (sees s (Asks from)) ms
IsWhole s (Reads found ∷ ms) = IsWhole (sees s (Reads found)) ms
IsWhole s (Published at ∷ ms) = IsWhole (sees s (Published at)) ms
IsWhole s (Stops ∷ ms) = IsWhole (sees s Stops) ms

abbrev pub IsSafe : Seen → List (List ClientStep) → Type 0
IsSafe s [] = Unit {0}
IsSafe s (ms ∷ more) = AreSound s ms × IsWhole s ms × IsSafe (sees_all s ms) more
