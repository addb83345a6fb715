-- One event more of the code's events, and a run that stopped after so many.
use Rattle.std.proofs.Common.{◌≡◌, ℕ, ◌+◌, ◌<◌, ◌≤◌, List, [], ◌∷◌, ◌++◌, length, map, take, sym, ap, subst, ◌∙◌, arith}
use Rattle.std.proofs.lemmas.List.{length-map, length-take-le, map-append, take-map, take_all}
use Rattle.cf_machine.specs.Config.{Config}
use Rattle.cf_machine.specs.Event.{Event}
use Rattle.cf_machine.specs.IntervalMachine.{run}
use Rattle.cf_machine.specs.LooseRun.{lines}
use Rattle.cf_machine.specs.StreamSafety.{Safe}
use Rattle.cf_machine.specs.Told.{trace}
use Rattle.cf_machine.specs.Trace.{Entry}
use Rattle.cf_machine.specs.World.{start}
use Rattle.cf_world.specs.Tie.{Tied}
use Rattle.cf_schedule.specs.Running.{Running}
use Rattle.cf_schedule.specs.Seen.{seen}
use Rattle.cf_schedule.specs.Shown.{shown_trace}
use Rattle.cf_schedule.specs.Stopping.{Carries}
use Rattle.cf_schedule.specs.declared.event.Event.{Event as CodeEvent}
use Rattle.cf_schedule.specs.declared.trace.Trace.{Trace}

-- the first so many events are carried out, and this is their trace
pub record Stands (cfg : Config) (es : List Event) (done : ℕ) (w : Running) (t : Trace) : Type 0 where
  pub tied : Tied cfg w.parts (run cfg start (take done es))
  pub counted : w.count ≡ done
  pub told : shown_trace t ≡ trace cfg 1 start (take done es)

pub seen-more : (es : List CodeEvent) (i : ℕ) (e : CodeEvent) → take (i + 1) es ≡ take i es ++ e ∷ []
    → take (i + 1) (map seen es) ≡ take i (map seen es) ++ seen e ∷ []
seen-more es i e h =
    take-map seen (i + 1) es ∙ ap (map seen) h ∙ map-append seen (take i es) (e ∷ [])
    ∙ ap (λ l. l ++ seen e ∷ []) (sym (take-map seen i es))

-- the number of the next event
pub past-length : (es : List CodeEvent) (i : ℕ) → i < length es → 1 + length (take i (map seen es)) ≡ i + 1
past-length es i h =
    let many : length (map seen es) ≡ length es = length-map es seen in
    let less : i ≤ length (map seen es) = omega arith in
    let is : length (take i (map seen es)) ≡ i = length-take-le i (map seen es) less in
    omega arith

-- after the last event
pub all-seen : (es : List CodeEvent) (i : ℕ) → length es ≤ i → take i (map seen es) ≡ map seen es
all-seen es i h =
    let many : length (map seen es) ≡ length es = length-map es seen in
    let past : length (map seen es) ≤ i = omega arith in
    take_all i (map seen es) past

abbrev pub SafeLaw : Type 0
SafeLaw = (cfg : Config) (es : List Event) → Safe cfg (lines es) (trace cfg 1 start es)

pub safe-so : SafeLaw → (cfg : Config) (es : List Event) (t : Trace) → shown_trace t ≡ trace cfg 1 start es
    → Safe cfg (lines es) (shown_trace t)
safe-so law cfg es t told = subst (λ (l : List Entry). Safe cfg (lines es) l) (sym told) (law cfg es)

-- a run that stopped after so many events
pub carries : SafeLaw → (cfg : Config) (es : List CodeEvent) (done : ℕ) (t : Trace) → done < length es
    → shown_trace t ≡ trace cfg 1 start (take done (map seen es)) → Carries cfg (map seen es) done t
carries law cfg es done t lt told =
    let many : length (map seen es) ≡ length es = length-map es seen in
    record { within = omega arith; whole = told; safe = safe-so law cfg (take done (map seen es)) t told }

-- and one that stopped before the first
pub carries-none : SafeLaw → (cfg : Config) (es : List CodeEvent) (t : Trace) → shown_trace t ≡ []
    → Carries cfg (map seen es) 0 t
carries-none law cfg es t none = record { within = omega arith; whole = none; safe = safe-so law cfg [] t none }
