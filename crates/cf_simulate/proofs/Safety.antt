-- What was written, read as the lines of a trace that is safe.
use Rattle.std.proofs.Common.{◌≡◌, ℕ, suc, Bool, true, false, Option, Some, None, Result, Ok, Err, List, [], ◌∷◌, ◌++◌}
use Rattle.std.proofs.Common.{take, flat_map, refl, sym, ap, subst, ◌∙◌, ◌⊎◌, inl, inr}
use Rattle.std.specs.Prelude.{OnErr, OnOk, IfErr, IfSome}
use Rattle.std.specs.Io.KnownBytes.{Keeps}
use Rattle.cf_machine.specs.Config.{Config}
use Rattle.cf_machine.specs.Event.{Event}
use Rattle.cf_machine.specs.IntervalMachine.{happens}
use Rattle.cf_machine.specs.LooseRun.{lines}
use Rattle.cf_machine.specs.StreamSafety.{Safe}
use Rattle.cf_machine.specs.Told.{trace, writes}
use Rattle.cf_machine.specs.Trace.{Entry}
use Rattle.cf_machine.specs.World.{World, start}
use Rattle.cf_simulate.specs.ScheduleText.{IsSchedule}
use Rattle.cf_simulate.specs.Simulation.{AreExplained, AreShown, Ends, EndsRun, IsOutside, Prints, Stops}
use Rattle.cf_simulate.specs.WrittenTrace.{AreLinesOf, AreRemarked, ShowsTrace, WritesFront, WritesFrontAtMost}
use Rattle.cf_simulate.specs.WrittenTrace.{WritesTrace}
use Rattle.cf_simulate.specs.declared.error.SimulateError.{SimulateError}
use Rattle.cf_simulate.specs.declared.error.SimulateError.TheVariants.{Unreadable, UsedTwice, NotUtf8, Memory}
use Rattle.cf_simulate.specs.declared.error.SimulateError.TheVariants.{InputOutput}
use Rattle.cf_simulate.proofs.Writing.{Bytes, all_part, keeps_same}

abbrev pub SafeLaw : Type 0
SafeLaw = (cfg : Config) (es : List Event) → Safe cfg (lines es) (trace cfg 1 start es)

abbrev pub IsSafe : Config → List Event → List Entry → Type 0
IsSafe cfg events entries = Safe cfg (lines events) entries

-- ---- a trace, event by event

abbrev parts_of : Config → ℕ → World → List Event → List (List Entry)
parts_of cfg n m [] = []
parts_of cfg n m (e ∷ es) = writes cfg n m e ∷ parts_of cfg (suc n) (happens cfg m e) es

all_parts : (cfg : Config) (n : ℕ) (m : World) (es : List Event)
    → trace cfg n m es ≡ flat_map (λ (part : List Entry). part) (parts_of cfg n m es)
all_parts cfg n m [] = refl
all_parts cfg n m (e ∷ es) = ap (λ (t : List Entry). writes cfg n m e ++ t) (all_parts cfg (suc n) (happens cfg m e) es)

parts_remarked : (cfg : Config) (n : ℕ) (m : World) (es : List Event) (bytes : List ℕ) → AreExplained cfg n m es bytes
    → AreRemarked (parts_of cfg n m es) bytes
parts_remarked cfg n m [] bytes h = h
parts_remarked cfg n m (e ∷ es) bytes h = record {
  front = h.front;
  rest = h.rest;
  explained = h.explained;
  further = parts_remarked cfg (suc n) (happens cfg m e) es h.rest h.further;
  cut = h.cut;
}

lines_so : (explains : Bool) (cfg : Config) (es : List Event) (bytes : List ℕ) → AreShown explains cfg es bytes
    → AreLinesOf explains (trace cfg 1 start es) bytes
lines_so false cfg es bytes h = h
lines_so true cfg es bytes h =
    record {
      parts = parts_of cfg 1 start es;
      whole = all_parts cfg 1 start es;
      remarked = parts_remarked cfg 1 start es bytes h;
    }

shows_so : SafeLaw → (explains : Bool) (cfg : Config) (es : List Event) (bytes : List ℕ)
    → AreShown explains cfg es bytes → ShowsTrace explains cfg es (IsSafe cfg) bytes
shows_so law explains cfg es bytes h =
    record { entries = trace cfg 1 start es; told = refl; holds = law cfg es; lines = lines_so explains cfg es bytes h }

-- ---- how a simulation ends

prints_so : SafeLaw → (explains : Bool) (cfg : Config) (input : List ℕ) (a b : Bytes) → Prints explains cfg input a b
    → WritesTrace explains cfg input a b (IsSafe cfg)
prints_so law explains cfg input a b h = record {
  events = h.events;
  schedule = h.schedule;
  bytes = h.writes.bytes;
  shows = shows_so law explains cfg h.events h.writes.bytes h.writes.shown;
  adds = h.writes.adds;
}

front_so : SafeLaw → (explains : Bool) (cfg : Config) (input : List ℕ) (events : List Event) (a b : Bytes)
    (f : SimulateError)
    → IsSchedule cfg.nodes input events → EndsRun explains cfg events a b f
    → WritesFront explains cfg input a b (IsSafe cfg)
front_so law explains cfg input events a b Memory s h = record {
  events = events;
  schedule = s;
  done = h.done;
  within = h.within;
  bytes = h.bytes;
  shows = shows_so law explains cfg (take h.done events) h.bytes h.shown;
  adds = all_part a b b h.bytes h.adds (keeps_same b);
}
front_so law explains cfg input events a b InputOutput s h = record {
  events = events;
  schedule = s;
  done = h.done;
  within = h.within;
  bytes = h.bytes;
  shows = shows_so law explains cfg (take h.done events) h.bytes h.shown;
  adds = h.adds;
}
front_so law explains cfg input events a b (Unreadable n) s h = absurd h
front_so law explains cfg input events a b (UsedTwice n e) s h = absurd h
front_so law explains cfg input events a b NotUtf8 s h = absurd h

either_so : SafeLaw → (explains : Bool) (cfg : Config) (input : List ℕ) (a b : Bytes) (f : SimulateError)
    → Keeps a b ⊎ Stops explains cfg input a b f → WritesFrontAtMost explains cfg input a b (IsSafe cfg)
either_so law explains cfg input a b f (inl kept) = inl kept
either_so law explains cfg input a b f (inr stops) =
    inr (front_so law explains cfg input stops.events a b f stops.schedule stops.ends)

ends_so : SafeLaw → (explains : Bool) (cfg : Config) (input : List ℕ) (a b : Bytes) (f : SimulateError)
    → Ends explains cfg input a b f → WritesFrontAtMost explains cfg input a b (IsSafe cfg)
ends_so law explains cfg input a b NotUtf8 h = inl h.1
ends_so law explains cfg input a b (Unreadable n) h = inl h.2
ends_so law explains cfg input a b (UsedTwice n e) h = inl h.2
ends_so law explains cfg input a b Memory h = either_so law explains cfg input a b Memory h
ends_so law explains cfg input a b InputOutput h = either_so law explains cfg input a b InputOutput h

pub safe_done : {T : Type 0} → SafeLaw → (explains : Bool) (cfg : Config) (input : List ℕ) (a b : Bytes)
    (r : Result T SimulateError)
    → OnOk r (Prints explains cfg input a b) → OnOk r (WritesTrace explains cfg input a b (IsSafe cfg))
safe_done law explains cfg input a b (Ok x) h = prints_so law explains cfg input a b h
safe_done law explains cfg input a b (Err f) h = tt

pub safe_front : {T : Type 0} → SafeLaw → (explains : Bool) (cfg : Config) (input : List ℕ) (a b : Bytes)
    (r : Result T SimulateError)
    → IfErr r (Ends explains cfg input a b) → OnErr r (WritesFrontAtMost explains cfg input a b (IsSafe cfg))
safe_front law explains cfg input a b (Ok x) h = tt
safe_front law explains cfg input a b (Err f) h = ends_so law explains cfg input a b f h

-- ---- what is so of the bytes that were read is so of the reader's

held_so : (P : List ℕ → Type 0) (left : Option (List ℕ)) (before now held : List ℕ) → before ≡ [] → held ≡ now
    → IfSome left (λ bytes. now ≡ before ++ bytes) → P held → IfSome left P
held_so P None before now held none is read h = tt
held_so P (Some bytes) before now held none is read h = subst P (is ∙ read ∙ ap (λ t. t ++ bytes) none) h

pub on_input : {T : Type 0} (r : Result T SimulateError) (P : List ℕ → Type 0) (left : Option (List ℕ))
    (before now held : List ℕ)
    → before ≡ [] → held ≡ now → IfSome left (λ bytes. now ≡ before ++ bytes) → OnOk r (P held) → OnOk r (IfSome left P)
on_input (Err f) P left before now held none is read h = tt
on_input (Ok x) P left before now held none is read h = held_so P left before now held none is read h

pub fails_on_input : {T : Type 0} (r : Result T SimulateError) (P : List ℕ → SimulateError → Type 0)
    (left : Option (List ℕ)) (before now held : List ℕ)
    → before ≡ [] → held ≡ now → IfSome left (λ bytes. now ≡ before ++ bytes) → IfErr r (P held)
    → IfErr r (λ f. IfSome left (λ input. P input f))
fails_on_input (Err f) P left before now held none is read h =
    held_so (λ input. P input f) left before now held none is read h
fails_on_input (Ok x) P left before now held none is read h = tt

pub front_on_input : {T : Type 0} (r : Result T SimulateError) (P : List ℕ → Type 0) (left : Option (List ℕ))
    (before now held : List ℕ)
    → before ≡ [] → held ≡ now → IfSome left (λ bytes. now ≡ before ++ bytes) → OnErr r (P held)
    → OnErr r (IfSome left P)
front_on_input (Err f) P left before now held none is read h = held_so P left before now held none is read h
front_on_input (Ok x) P left before now held none is read h = tt

-- ---- where the input isn't read

pub unread_ends : (explains : Bool) (cfg : Config) (f : SimulateError) (left : Option (List ℕ)) (a : Bytes)
    → IsOutside f → IfSome left (λ input. Ends explains cfg input a a f)
unread_ends explains cfg f None a out = tt
unread_ends explains cfg f (Some input) a (inl e) =
    subst (λ (g : SimulateError). Ends explains cfg input a a g) (sym e) (inl (keeps_same a))
unread_ends explains cfg f (Some input) a (inr e) =
    subst (λ (g : SimulateError). Ends explains cfg input a a g) (sym e) (inl (keeps_same a))

pub unread_front : (explains : Bool) (cfg : Config) (left : Option (List ℕ)) (a : Bytes)
    → IfSome left (λ input. WritesFrontAtMost explains cfg input a a (IsSafe cfg))
unread_front explains cfg None a = tt
unread_front explains cfg (Some input) a = inl (keeps_same a)
