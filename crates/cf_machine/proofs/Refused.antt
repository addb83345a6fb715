-- Each of these traces breaks one sentence of stream safety.
use Rattle.std.proofs.Common.{◌≡◌, ◌≤◌, ℕ, List, [], ◌∷◌, length, take, refl, ap, arith, inl, inr, true, false}
use Rattle.std.specs.Prelude.{codes, slice_index}
use Rattle.std.specs.Fmt.{digits}
use Rattle.cf_json.specs.Quoting.{escape, short_letter}
use Rattle.cf_protocol.specs.Position.{Position}
use Rattle.cf_protocol.specs.Written.{command_text, outgoing_text}
use Rattle.cf_machine.specs.Config.{Config}
use Rattle.cf_machine.specs.LooseRun.{Happening, lines}
use Rattle.cf_machine.specs.Trace.{Published as ToldPublished, Subscribed as ToldSubscribed}
use Rattle.cf_machine.specs.ClientSteps.{ClientStep, Asks, Reads, Subscribed, Published, Stops}
use Rattle.cf_machine.specs.StreamSafety.{Safe, befell}
use Rattle.cf_model.specs.Sessions.{note_length}
use Rattle.cf_machine.specs.Weights.{command_length}
use Rattle.cf_machine.specs.Examples.{ann, bob, asks_again, asks_alone, breaks_first, keeping, leaves_first, lost, news}
use Rattle.cf_machine.specs.Examples.{place, plain, recovered, tells_again, tells_lost, tells_pub, tells_recovered}
use Rattle.cf_machine.specs.Examples.{tells_sub, told_by, two_come}

-- a read that found so many publications, and so many held
abbrev found : ℕ → ℕ → ClientStep
found top held = Reads (record { epoch = codes "aaaa"; top = top; held = held })

-- how ann's subscription to news begins, the latest first
abbrev begun : List ClientStep
begun = Subscribed false (place 0) ∷ found 0 0 ∷ Asks false ∷ []

-- ---- numbers of entries

pub event_zero : Safe plain (lines two_come) (tells_sub 0 0 ∷ []) → ⊥
event_zero h = let e : 1 ≤ 0 = h.numbered.0 in absurd (omega arith)

pub past_the_end : Safe plain (lines two_come) (tells_sub 6 0 ∷ tells_pub 99 1 "1" ∷ []) → ⊥
past_the_end h = let e : 99 ≤ 12 = h.numbered.2.1 in absurd (omega arith)

pub out_of_order : Safe plain (lines two_come) (tells_sub 6 0 ∷ tells_pub 12 2 "2" ∷ tells_pub 11 1 "1" ∷ []) → ⊥
out_of_order h = let e : 12 ≤ 11 = h.numbered.2.2.0 in absurd (omega arith)

-- ---- one datum

pub before_published : Safe plain (lines two_come) (tells_sub 6 0 ∷ tells_pub 7 1 "1" ∷ []) → ⊥
unfolding note_length command_length command_text outgoing_text digits escape short_letter
before_published h = let e : 1 ≤ 0 = h.true_to.1.0.1 in absurd (omega arith)

pub other_body : Safe plain (lines two_come) (tells_sub 6 0 ∷ tells_pub 11 1 "2" ∷ []) → ⊥
unfolding note_length command_length command_text outgoing_text digits escape short_letter
other_body h =
    let e : ◌≡◌ {A = ℕ} 50 49 = ap (λ (b : List ℕ). slice_index b 0) (h.true_to.1.0.2) in absurd (omega arith)

pub two_data : (config : Config) (happenings : List Happening)
    → Safe config happenings (told_by 1 ann (ToldPublished news (place 1) (codes "1"))
    ∷ told_by 2 bob (ToldPublished news (place 1) (codes "2")) ∷ []) → ⊥
two_data config happenings h =
    let is : codes "1" ≡ codes "2" =
    h.one_datum _ _ (inl refl) (inr (inl refl)) news (place 1) (codes "1") (codes "2") refl refl in
    let e : ◌≡◌ {A = ℕ} 49 50 = ap (λ (b : List ℕ). slice_index b 0) is in absurd (omega arith)

-- ---- unbroken

pub gap : Safe plain (lines two_come) (tells_sub 6 0 ∷ tells_pub 11 2 "2" ∷ []) → ⊥
unfolding note_length command_length command_text outgoing_text digits escape short_letter
gap h =
    let e : ◌≡◌ {A = ℕ} 2 1 = ap (λ (p : Position). p.offset) (h.unbroken ann news begun [] (place 2) refl) in
    absurd (omega arith)

pub repeat : Safe plain (lines two_come) (tells_sub 6 0 ∷ tells_pub 11 1 "1" ∷ tells_pub 12 1 "1" ∷ []) → ⊥
unfolding note_length command_length command_text outgoing_text digits escape short_letter
repeat h =
    let e : ◌≡◌ {A = ℕ} 1 2 =
    ap (λ (p : Position). p.offset) (h.unbroken ann news (Published (place 1) ∷ begun) [] (place 1) refl) in
    absurd (omega arith)

pub before_subscribed : Safe plain (lines two_come) (tells_pub 5 1 "1" ∷ tells_sub 6 0 ∷ []) → ⊥
unfolding note_length command_length command_text outgoing_text digits escape short_letter
before_subscribed h = h.unbroken ann news (found 0 0 ∷ Asks false ∷ []) (Subscribed false (place 0) ∷ []) (place 1) refl

pub after_end : Safe plain (lines two_come) (tells_sub 6 0 ∷ tells_again 11 ∷ tells_pub 12 1 "1" ∷ []) → ⊥
unfolding note_length command_length command_text outgoing_text digits escape short_letter
after_end h = h.unbroken ann news (Stops ∷ begun) [] (place 1) refl

-- ---- recovered run

pub short_run : Safe (keeping 3) (lines recovered)
    (tells_sub 6 0 ∷ tells_pub 11 1 "1" ∷ tells_pub 12 2 "2" ∷ tells_recovered 21 5 ∷ tells_pub 21 3 "3"
    ∷ tells_pub 21 4 "4" ∷ []) → ⊥
unfolding note_length command_length command_text outgoing_text digits escape short_letter
short_run h =
    let all : List (List ClientStep) = befell (keeping 3) (lines recovered)
    (tells_sub 6 0 ∷ tells_pub 11 1 "1" ∷ tells_pub 12 2 "2" ∷ tells_recovered 21 5 ∷ tells_pub 21 3 "3"
    ∷ tells_pub 21 4 "4" ∷ []) ann news in
    let run = h.recovered_run ann news (take 20 all) []
    (Subscribed true (place 5) ∷ Published (place 3) ∷ Published (place 4) ∷ [])
    (found 5 3 ∷ Asks true ∷ Stops ∷ Published (place 2) ∷ Published (place 1) ∷ begun)
    (Published (place 3) ∷ Published (place 4) ∷ []) (place 5) refl refl (omega arith) in
    let e : ◌≡◌ {A = ℕ} 2 3 = ap (λ (ms : List ClientStep). length ms) run in absurd (omega arith)

-- ---- honest recovery

pub false_recovered : Safe (keeping 3) (lines lost)
    (tells_sub 6 0 ∷ tells_pub 11 1 "1" ∷ tells_recovered 20 5 ∷ tells_pub 20 2 "2" ∷ tells_pub 20 3 "3"
    ∷ tells_pub 20 4 "4" ∷ tells_pub 20 5 "5" ∷ []) → ⊥
unfolding note_length command_length command_text outgoing_text digits escape short_letter
false_recovered h =
    let said = h.honest_recovery ann news (found 5 3 ∷ Asks true ∷ Stops ∷ Published (place 1) ∷ begun)
    (Published (place 2) ∷ Published (place 3) ∷ Published (place 4) ∷ Published (place 5) ∷ []) true (place 5) refl in
    let e : 4 ≤ 3 = (said.0.0 refl).1 in absurd (omega arith)

pub false_lost : Safe (keeping 3) (lines recovered)
    (tells_sub 6 0 ∷ tells_pub 11 1 "1" ∷ tells_pub 12 2 "2" ∷ tells_lost 21 5 ∷ []) → ⊥
unfolding note_length command_length command_text outgoing_text digits escape short_letter
false_lost h =
    let said = h.honest_recovery ann news (found 5 3 ∷ Asks true ∷ Stops ∷ Published (place 2) ∷ Published (place 1)
    ∷ begun) [] false (place 5) refl in
    let held : 3 ≤ 3 = omega arith in
    let e : false ≡ true = said.0.1 (refl, held) in absurd (cc)

pub read_before_ask : Safe plain (lines asks_again) (tells_sub 11 0 ∷ []) → ⊥
unfolding note_length command_length command_text outgoing_text digits escape short_letter
read_before_ask h = h.honest_recovery ann news (Asks false ∷ found 0 0 ∷ Asks false ∷ []) [] false (place 0) refl

pub two_on_one_read : Safe plain (lines two_come)
    (tells_sub 6 0 ∷ tells_pub 11 1 "1" ∷ tells_sub 12 0 ∷ tells_pub 12 1 "1" ∷ []) → ⊥
unfolding note_length command_length command_text outgoing_text digits escape short_letter
two_on_one_read h =
    h.honest_recovery ann news (Published (place 1) ∷ begun) (Published (place 1) ∷ []) false (place 0) refl

pub without_read : Safe plain (lines asks_alone) (tells_sub 4 0 ∷ []) → ⊥
unfolding note_length command_length command_text outgoing_text digits escape short_letter
without_read h = h.honest_recovery ann news (Asks false ∷ []) [] false (place 0) refl

pub after_break : Safe plain (lines breaks_first) (tells_sub 7 0 ∷ []) → ⊥
unfolding note_length command_length command_text outgoing_text digits escape short_letter
after_break h = h.honest_recovery ann news (Stops ∷ found 0 0 ∷ Asks false ∷ []) [] false (place 0) refl

pub never_connected : Safe plain (lines two_come) (told_by 6 bob (ToldSubscribed news false false (place 0)) ∷ []) → ⊥
unfolding note_length command_length command_text outgoing_text digits escape short_letter
never_connected h = h.honest_recovery bob news [] [] false (place 0) refl

pub read_after_leaving : Safe plain leaves_first (tells_sub 6 0 ∷ []) → ⊥
unfolding note_length command_length command_text outgoing_text digits escape short_letter
read_after_leaving h = h.honest_recovery ann news (found 0 0 ∷ Stops ∷ Asks false ∷ []) [] false (place 0) refl
