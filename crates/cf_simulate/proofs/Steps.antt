-- A schedule that is carried out event by event: what stands written after each.
use Rattle.std.proofs.Common.{◌≡◌, ℕ, suc, ◌+◌, ◌<◌, ◌≤◌, Bool, true, false, Result, Ok, Err, List, [], ◌∷◌, ◌++◌}
use Rattle.std.proofs.Common.{length, map, take, get_or, refl, sym, ap, subst, ◌∙◌, arith}
use Rattle.std.specs.Prelude.{OnOk, IfErr}
use Rattle.std.specs.Io.KnownBytes.{Keeps, Appends}
use Rattle.std.proofs.lemmas.Grind.{flat_map-append}
use Rattle.std.proofs.lemmas.List.{append-nil, append_assoc, length-map, length-take-le, take_more, get_or-map}
use Rattle.std.proofs.lemmas.List.{take_all}
use Rattle.cf_machine.specs.Config.{Config}
use Rattle.cf_machine.specs.Event.{Event}
use Rattle.cf_machine.specs.IntervalMachine.{happens, run}
use Rattle.cf_machine.specs.Told.{trace, writes}
use Rattle.cf_machine.specs.Trace.{Entry}
use Rattle.cf_machine.specs.TraceLine.{line_of, printed}
use Rattle.cf_machine.specs.World.{World, start}
use Rattle.cf_schedule.specs.Running.{Running}
use Rattle.cf_schedule.specs.Seen.{seen}
use Rattle.cf_schedule.specs.declared.event.Event as declared
use Rattle.cf_world.specs.Tie.{Tied, GoesOn}
use Rattle.cf_simulate.specs.Simulation.{AddsPart, AreExplained, AreShown, EndsRun, HasRemarks, IsShown, PrintsPart}
use Rattle.cf_simulate.specs.Simulation.{PrintsWhole, ShowsEvent, WritesAll, lines_of_run}
use Rattle.cf_simulate.specs.declared.error.SimulateError.{SimulateError}
use Rattle.cf_simulate.specs.declared.error.SimulateError.TheVariants.{Memory, InputOutput}
use Rattle.cf_simulate.proofs.Writing.{Bytes, none_added, adds_more, adds_kept, further_part, part_kept}

-- ---- one event more

abbrev pub RunLaw : Type 0
RunLaw = (cfg : Config) (es : List Event) (e : Event) → run cfg start (es ++ e ∷ []) ≡ happens cfg (run cfg start es) e

abbrev pub TraceLaw : Type 0
TraceLaw = (cfg : Config) (es : List Event) (e : Event)
    → trace cfg 1 start (es ++ e ∷ []) ≡ trace cfg 1 start es ++ writes cfg (1 + length es) (run cfg start es) e

abbrev pub past : List declared.Event → ℕ → List Event
past es i = take i (map seen es)

next_past : (es : List declared.Event) (i : ℕ) (e : declared.Event) → i < length es → e ≡ get_or es i e
    → past es (i + 1) ≡ past es i ++ seen e ∷ []
next_past es i e lt is =
    let many : length (map seen es) ≡ length es = length-map es seen in
    let low : i < length (map seen es) = omega arith in
    take_more (map seen es) i (seen e) low ∙ ap (λ x. past es i ++ x ∷ [])
    (get_or-map seen es i e (seen e) lt ∙ ap seen (sym is))

past_length : (es : List declared.Event) (i : ℕ) → i < length es → 1 + length (past es i) ≡ i + 1
past_length es i lt =
    let many : length (map seen es) ≡ length es = length-map es seen in
    let low : i ≤ length (map seen es) = omega arith in
    let is : length (past es i) ≡ i = length-take-le i (map seen es) low in
    omega arith

-- ---- what shows the events, with one more

explained_more : (cfg : Config) (n : ℕ) (m : World) (es : List Event) (e : Event) (bytes front : List ℕ)
    → AreExplained cfg n m es bytes → HasRemarks (printed (writes cfg (n + length es) (run cfg m es) e)) front
    → AreExplained cfg n m (es ++ e ∷ []) (bytes ++ front)
explained_more cfg n m [] e bytes front h k = record {
  front = front;
  rest = [];
  explained = subst (λ at. HasRemarks (printed (writes cfg at m e)) front) (omega arith) k;
  further = refl;
  cut = ap (λ t. t ++ front) h ∙ sym (append-nil front);
}
explained_more cfg n m (x ∷ xs) e bytes front h k =
    let count : n + suc (length xs) ≡ suc n + length xs = omega arith in
    record {
      front = h.front;
      rest = h.rest ++ front;
      explained = h.explained;
      further = explained_more cfg (suc n) (happens cfg m x) xs e h.rest front h.further
          (subst (λ at. HasRemarks (printed (writes cfg at (run cfg (happens cfg m x) xs) e)) front) count k);
      cut = ap (λ t. t ++ front) h.cut ∙ append_assoc h.front h.rest front;
    }

shown_more : (explains : Bool) (cfg : Config) (es : List Event) (e : Event) (bytes front : List ℕ) → TraceLaw
    → AreShown explains cfg es bytes → IsShown explains (printed (writes cfg (1 + length es) (run cfg start es) e))
    front → AreShown explains cfg (es ++ e ∷ []) (bytes ++ front)
shown_more false cfg es e bytes front law h k =
    ap (λ t. t ++ front) h
    ∙ ap (λ t. lines_of_run cfg es ++ t) k
    ∙ sym (ap printed (law cfg es e) ∙ flat_map-append (λ (x : Entry). line_of x ++ 10 ∷ []) (trace cfg 1 start es)
    (writes cfg (1 + length es) (run cfg start es) e))
shown_more true cfg es e bytes front law h k = explained_more cfg 1 start es e bytes front h k

none_shown : (explains : Bool) (cfg : Config) → AreShown explains cfg [] []
none_shown false cfg = refl
none_shown true cfg = refl

-- ---- what stands after the first i events

pub record Stands (explains : Bool) (cfg : Config) (w : Running) (es : List declared.Event) (i : ℕ) (a b : Bytes) : Type
    0 where
  pub tied : Tied cfg w.parts (run cfg start (past es i))
  pub counted : w.count ≡ i
  pub bytes : List ℕ
  pub shown : AreShown explains cfg (past es i) bytes
  pub adds : Appends a b bytes

pub stands_first : (explains : Bool) (cfg : Config) (w : Running) (es : List declared.Event) (a : Bytes)
    → Tied cfg w.parts start → w.count ≡ 0 → Stands explains cfg w es 0 a a
stands_first explains cfg w es a tied none =
    record { tied = tied; counted = none; bytes = []; shown = none_shown explains cfg; adds = none_added a }

-- the next event is shown, behind those that stand
shown_next : (explains : Bool) (cfg : Config) (w : Running) (es : List declared.Event) (i : ℕ) (e : declared.Event)
    (a b : Bytes) (bs : List ℕ)
    → i < length es → e ≡ get_or es i e → TraceLaw → (h : Stands explains cfg w es i a b)
    → ShowsEvent explains (seen e) w bs
    → AreShown explains cfg (past es (i + 1)) (h.bytes ++ bs)
shown_next explains cfg w es i e a b bs lt is law h shows =
    let before : List Event = past es i in
    let m : World = run cfg start before in
    let one : IsShown explains (printed (writes cfg (1 + length before) m (seen e))) bs =
    subst (λ n. IsShown explains (printed (writes cfg n m (seen e))) bs)
    (ap (λ n. n + 1) h.counted ∙ sym (past_length es i lt)) (shows cfg before h.tied) in
    subst (λ (l : List Event). AreShown explains cfg l (h.bytes ++ bs)) (sym (next_past es i e lt is))
    (shown_more explains cfg before (seen e) h.bytes bs law h.shown one)

pub stands_next : (explains : Bool) (cfg : Config) (w v : Running) (es : List declared.Event) (i : ℕ)
    (e : declared.Event) (a b c : Bytes) (bs : List ℕ)
    → i < length es → e ≡ get_or es i e → RunLaw → TraceLaw
    → Stands explains cfg w es i a b → GoesOn (seen e) w.parts v.parts → v.count ≡ w.count + 1
    → ShowsEvent explains (seen e) w bs → Appends b c bs → Stands explains cfg v es (i + 1) a c
stands_next explains cfg w v es i e a b c bs lt is runs traces h step counts shows adds = record {
  tied = subst (λ (m : World). Tied cfg v.parts m)
      (sym (ap (run cfg start) (next_past es i e lt is) ∙ runs cfg (past es i) (seen e))) (step cfg (past es i) h.tied);
  counted = counts ∙ ap (λ n. n + 1) h.counted;
  bytes = h.bytes ++ bs;
  shown = shown_next explains cfg w es i e a b bs lt is traces h shows;
  adds = adds_more a b c h.bytes bs h.adds adds;
}

-- ---- how it ends

pub stands_all : (explains : Bool) (cfg : Config) (w : Running) (es : List declared.Event) (i : ℕ) (a b : Bytes)
    → length es ≤ i → Stands explains cfg w es i a b → WritesAll explains cfg (map seen es) a b
stands_all explains cfg w es i a b many h =
    let count : length (map seen es) ≡ length es = length-map es seen in
    let all : past es i ≡ map seen es = take_all i (map seen es) (omega arith) in
    record {
      bytes = h.bytes;
      shown = subst (λ (l : List Event). AreShown explains cfg l h.bytes) all h.shown;
      adds = h.adds;
    }

pub stands_whole : (explains : Bool) (cfg : Config) (w : Running) (es : List declared.Event) (i : ℕ) (a b : Bytes)
    → i < length es → Stands explains cfg w es i a b → PrintsWhole explains cfg (map seen es) a b
stands_whole explains cfg w es i a b lt h =
    let count : length (map seen es) ≡ length es = length-map es seen in
    record { done = i; within = omega arith; bytes = h.bytes; shown = h.shown; adds = h.adds }

pub whole_none : (explains : Bool) (cfg : Config) (es : List Event) (a : Bytes) → PrintsWhole explains cfg es a a
whole_none explains cfg es a =
    record { done = 0; within = omega arith; bytes = []; shown = none_shown explains cfg; adds = none_added a }

-- what shows the next event was written in part
pub stands_part : (explains : Bool) (cfg : Config) (w : Running) (es : List declared.Event) (i : ℕ) (e : declared.Event)
    (a b c : Bytes) (bs : List ℕ)
    → i < length es → e ≡ get_or es i e → TraceLaw → Stands explains cfg w es i a b → ShowsEvent explains (seen e) w bs
    → AddsPart b c bs
    → PrintsPart explains cfg (map seen es) a c
stands_part explains cfg w es i e a b c bs lt is traces h shows part =
    let count : length (map seen es) ≡ length es = length-map es seen in
    let cut : h.bytes ++ bs ≡ h.bytes ++ (bs ++ []) = ap (λ t. h.bytes ++ t) (sym (append-nil bs)) in
    record {
      done = i + 1;
      within = omega arith;
      bytes = h.bytes ++ bs;
      shown = shown_next explains cfg w es i e a b bs lt is traces h shows;
      adds = further_part a b c h.bytes bs [] (h.bytes ++ bs) cut h.adds part;
    }

-- ---- where nothing more is written

pub all_kept : (explains : Bool) (cfg : Config) (es : List Event) (a b c : Bytes) → WritesAll explains cfg es a b
    → Keeps b c → WritesAll explains cfg es a c
all_kept explains cfg es a b c h k =
    record { bytes = h.bytes; shown = h.shown; adds = adds_kept a b c h.bytes h.adds k }

pub end_kept : (explains : Bool) (cfg : Config) (es : List Event) (a b c : Bytes) (f : SimulateError)
    → EndsRun explains cfg es a b f → Keeps b c → EndsRun explains cfg es a c f
end_kept explains cfg es a b c Memory h k =
    record {
      done = h.done;
      within = h.within;
      bytes = h.bytes;
      shown = h.shown;
      adds = adds_kept a b c h.bytes h.adds k;
    }
end_kept explains cfg es a b c InputOutput h k =
    record {
      done = h.done;
      within = h.within;
      bytes = h.bytes;
      shown = h.shown;
      adds = part_kept a b c h.bytes h.adds k;
    }
end_kept explains cfg es a b c f h k = absurd h

whole_part : (explains : Bool) (cfg : Config) (es : List Event) (a b c : Bytes) → PrintsWhole explains cfg es a b
    → Keeps b c → PrintsPart explains cfg es a c
whole_part explains cfg es a b c h k = record {
  done = h.done;
  within = h.within;
  bytes = h.bytes;
  shown = h.shown;
  adds = record { part = h.bytes; rest = []; cut = sym (append-nil h.bytes); adds = adds_kept a b c h.bytes h.adds k };
}

-- the output fails after a run, however that ended
pub part_written : (explains : Bool) (cfg : Config) (es : List Event) (a b c : Bytes) (r : Result Unit SimulateError)
    → OnOk r (WritesAll explains cfg es a b) → IfErr r (EndsRun explains cfg es a b) → Keeps b c
    → PrintsPart explains cfg es a c
part_written explains cfg es a b c (Ok u) h g k =
    let all : take (length es) es ≡ es = take_all (length es) es (omega arith) in
    whole_part explains cfg es a b c
    (record {
      done = length es;
      within = omega arith;
      bytes = h.bytes;
      shown = subst (λ (l : List Event). AreShown explains cfg l h.bytes) (sym all) h.shown;
      adds = h.adds;
    }) k
part_written explains cfg es a b c (Err Memory) h g k = whole_part explains cfg es a b c g k
part_written explains cfg es a b c (Err InputOutput) h g k = end_kept explains cfg es a b c InputOutput g k
part_written explains cfg es a b c (Err f) h g k = absurd g
