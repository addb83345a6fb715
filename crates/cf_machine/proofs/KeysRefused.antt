-- Each of these traces with keys or with sizes breaks one sentence of stream safety.
use Rattle.std.proofs.Common.{◌≡◌, ◌≤◌, ℕ, List, [], ◌∷◌, refl, ap, arith, true, false}
use Rattle.std.specs.Prelude.{codes, slice_index}
use Rattle.std.specs.Fmt.{digits}
use Rattle.cf_json.specs.Quoting.{escape, short_letter}
use Rattle.cf_protocol.specs.Written.{command_text, outgoing_text}
use Rattle.cf_machine.specs.Event.{SetSize}
use Rattle.cf_machine.specs.LooseRun.{lines}
use Rattle.cf_machine.specs.ClientSteps.{ClientStep, Asks, Reads, Subscribed, Published, Stops}
use Rattle.cf_machine.specs.StreamSafety.{Safe}
use Rattle.cf_model.specs.Sessions.{note_length}
use Rattle.cf_machine.specs.Weights.{command_length}
use Rattle.cf_machine.specs.Examples.{ann, keeping, news, place, plain, tells_lost, tells_pub, tells_sub}
use Rattle.cf_machine.specs.KeyExamples.{grows, sent_twice, tells_all_missed}

-- ---- one datum

pub second_place : Safe plain (lines sent_twice) (tells_sub 6 0 ∷ tells_pub 13 1 "1" ∷ tells_pub 14 2 "2" ∷ []) → ⊥
unfolding note_length command_length command_text outgoing_text digits escape short_letter
second_place h =
    let e : ◌≡◌ {A = ℕ} 50 51 = ap (λ (b : List ℕ). slice_index b 0) (h.true_to.1.1.0.2) in absurd (omega arith)

pub one_more : Safe plain (lines sent_twice) (tells_sub 6 0 ∷ tells_pub 13 1 "1" ∷ tells_pub 14 2 "3"
    ∷ tells_pub 15 3 "2" ∷ []) → ⊥
unfolding note_length command_length command_text outgoing_text digits escape short_letter
one_more h = let e : 3 ≤ 2 = h.true_to.1.1.1.0.1 in absurd (omega arith)

pub second_data : Safe plain (lines sent_twice) (tells_sub 6 0 ∷ tells_pub 13 1 "2" ∷ tells_pub 14 2 "3" ∷ []) → ⊥
unfolding note_length command_length command_text outgoing_text digits escape short_letter
second_data h =
    let e : ◌≡◌ {A = ℕ} 50 49 = ap (λ (b : List ℕ). slice_index b 0) (h.true_to.1.0.2) in absurd (omega arith)

-- ---- honest recovery

-- what befell ann before it is told that it is subscribed again, the latest first: a read that found seven, and so many
-- held
abbrev past : ℕ → List ClientStep
past held =
    Reads (record { epoch = codes "aaaa"; top = 7; held = held }) ∷ Asks true ∷ Stops ∷ Published (place 2)
    ∷ Published (place 1)
    ∷ Subscribed false (place 0) ∷ Reads (record { epoch = codes "aaaa"; top = 0; held = 0 }) ∷ Asks false ∷ []

abbrev missed : List ClientStep
missed = Published (place 3) ∷ Published (place 4) ∷ Published (place 5) ∷ Published (place 6) ∷ Published (place 7)
    ∷ []

pub dropped : Safe (keeping 3) (lines (grows (SetSize [] 2 ∷ [])))
    (tells_sub 6 0 ∷ tells_pub 11 1 "1" ∷ tells_pub 12 2 "2" ∷ tells_all_missed 25) → ⊥
unfolding note_length command_length command_text outgoing_text digits escape short_letter
dropped h =
    let said = h.honest_recovery ann news (past 2) missed true (place 7) refl in let e : 5 ≤ 2 = (said.0.0 refl).1 in
    absurd (omega arith)

pub dropped_before : Safe (keeping 3) (lines (grows (SetSize [] 2 ∷ SetSize [] 5 ∷ [])))
    (tells_sub 6 0 ∷ tells_pub 11 1 "1" ∷ tells_pub 12 2 "2" ∷ tells_all_missed 26) → ⊥
unfolding note_length command_length command_text outgoing_text digits escape short_letter
dropped_before h =
    let said = h.honest_recovery ann news (past 2) missed true (place 7) refl in let e : 5 ≤ 2 = (said.0.0 refl).1 in
    absurd (omega arith)

pub held_by_then : Safe (keeping 3) (lines (grows []))
    (tells_sub 6 0 ∷ tells_pub 11 1 "1" ∷ tells_pub 12 2 "2" ∷ tells_lost 24 7 ∷ []) → ⊥
unfolding note_length command_length command_text outgoing_text digits escape short_letter
held_by_then h =
    let said = h.honest_recovery ann news (past 5) [] false (place 7) refl in
    let held : 5 ≤ 5 = omega arith in
    let e : false ≡ true = said.0.1 (refl, held) in absurd (cc)
