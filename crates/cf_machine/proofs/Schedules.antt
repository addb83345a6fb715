-- A schedule is a loose run of its lines, and what one event more makes of a run and of its trace.
use Rattle.std.proofs.Common.{◌≡◌, ℕ, suc, ◌+◌, List, [], ◌∷◌, ◌++◌, length, refl, sym, ap, ◌∙◌, append_assoc, arith}
use Rattle.std.proofs.Common.{append-nil}
use Rattle.cf_machine.specs.Config.{Config}
use Rattle.cf_machine.specs.Event.{Event}
use Rattle.cf_machine.specs.World.{World}
use Rattle.cf_machine.specs.IntervalMachine.{happens, run}
use Rattle.cf_machine.specs.LooseRun.{loose_run, lines}
use Rattle.cf_machine.specs.Trace.{Entry}
use Rattle.cf_machine.specs.Told.{trace, loose_trace, writes}

-- a schedule is a loose run of its lines
pub run_of_lines : (cfg : Config) (es : List Event) (w : World) → loose_run cfg w (lines es) ≡ run cfg w es
run_of_lines cfg [] w = refl
run_of_lines cfg (e ∷ es) w = run_of_lines cfg es (happens cfg w e)

pub trace_of_lines : (cfg : Config) (es : List Event) (n : ℕ) (w : World)
    → loose_trace cfg n w (lines es) ≡ trace cfg n w es
trace_of_lines cfg [] n w = refl
trace_of_lines cfg (e ∷ es) n w =
    ap (λ (t : List Entry). writes cfg n w e ++ t) (trace_of_lines cfg es (suc n) (happens cfg w e))

-- one event more: of a run, and of its trace
pub run-more : (cfg : Config) (w : World) (es : List Event) (e : Event)
    → run cfg w (es ++ e ∷ []) ≡ happens cfg (run cfg w es) e
run-more cfg w [] e = refl
run-more cfg w (x ∷ es) e = run-more cfg (happens cfg w x) es e

pub trace-more : (cfg : Config) (n k : ℕ) (w : World) (es : List Event) (e : Event) → k ≡ n + length es
    → trace cfg n w (es ++ e ∷ []) ≡ trace cfg n w es ++ writes cfg k (run cfg w es) e
trace-more cfg n k w [] e h = let same : k ≡ n = omega arith in
    append-nil (writes cfg n w e) ∙ ap (λ j. writes cfg j w e) (sym same)
trace-more cfg n k w (x ∷ es) e h =
    let next : k ≡ suc n + length es = omega arith in
    ap (λ l. writes cfg n w x ++ l) (trace-more cfg (suc n) k (happens cfg w x) es e next)
    ∙ sym (append_assoc (writes cfg n w x) (trace cfg (suc n) (happens cfg w x) es)
    (writes cfg k (run cfg w (x ∷ es)) e))
