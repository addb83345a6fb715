-- The sentences of stream safety follow from its working form.
use Rattle.std.proofs.Common.{◌≡◌, ℕ, zero, suc, ◌-◌, ◌≤◌, Bool, true, false, Option, Some, None, List, [], ◌∷◌, ◌++◌}
use Rattle.std.proofs.Common.{length, inl, inr, refl, sym, ap, subst, ◌∙◌, arith, length-append, drop}
use Rattle.cf_protocol.specs.Position.{Position}
use Rattle.cf_protocol.specs.Note.{Lists}
use Rattle.cf_machine.specs.Trace.{Published as ToldPublished, Entry}
use Rattle.cf_machine.specs.ClientSteps.{ClientStep, Asks, Reads, Subscribed, Published, Stops}
use Rattle.cf_model.specs.Recovery.{next}
use Rattle.cf_machine.specs.StreamSafety.{IsTrueTo, AreTrueTo, IsOneOf, OneDatum, last_position, old_position, asks_now}
use Rattle.cf_machine.specs.StreamSafety.{last_read, run_of, onto, all_of, Unbroken, RecoveredRun, HonestRecovery}
use Rattle.cf_machine.specs.StreamSafety.{places, all_places}
use Rattle.cf_machine.proofs.Automaton.{Seen, nothing_seen, sees, sees_all, AreSound, IsWhole, IsSafe}

-- ---- one datum

one_is_true : (lists : Lists) (e : Entry) (t : List Entry) → AreTrueTo (λ n. lists) t → IsOneOf e t
    → IsTrueTo lists e.item
one_is_true lists e [] all i = absurd i
one_is_true lists e (x ∷ xs) all (inl same) = subst (λ (y : Entry). IsTrueTo lists y.item) (sym same) all.0
one_is_true lists e (x ∷ xs) all (inr later) = one_is_true lists e xs all.1 later

pub one_datum_of : (lists : Lists) (t : List Entry) → AreTrueTo (λ n. lists) t → OneDatum t
one_datum_of lists t all d e d_in e_in c p a b d_is e_is =
    let of_d : IsTrueTo lists (ToldPublished c p a) = subst (IsTrueTo lists) d_is (one_is_true lists d t all d_in) in
    let of_e : IsTrueTo lists (ToldPublished c p b) = subst (IsTrueTo lists) e_is (one_is_true lists e t all e_in) in
    of_d.2 ∙ sym of_e.2

-- ---- what was seen of a past, the latest first

abbrev seen_of : List ClientStep → Seen
seen_of past =
    record {
      last = last_position past;
      old = old_position past;
      asks = asks_now past;
      read = last_read past;
      run = run_of past;
    }

sees-seen_of : (past : List ClientStep) (m : ClientStep) → sees (seen_of past) m ≡ seen_of (m ∷ past)
sees-seen_of past (Asks from) = refl
sees-seen_of past (Reads found) = refl
sees-seen_of past (Subscribed recovered at) = refl
sees-seen_of past (Published at) = refl
sees-seen_of past Stops = refl

sees_all-onto : (past ms : List ClientStep) → sees_all nothing_seen (onto past ms) ≡ sees_all (seen_of past) ms
sees_all-onto [] ms = refl
sees_all-onto (m ∷ past) ms = sees_all-onto past (m ∷ ms) ∙ ap (λ (s : Seen). sees_all s ms) (sees-seen_of past m)

sound-onto : (past ms : List ClientStep) → AreSound nothing_seen (onto past ms) → AreSound (seen_of past) ms
sound-onto [] ms h = h
sound-onto (m ∷ past) ms h = subst (λ (s : Seen). AreSound s ms) (sees-seen_of past m) (sound-onto past (m ∷ ms) h).1

sees_all-append : (s : Seen) (xs ys : List ClientStep) → sees_all s (xs ++ ys) ≡ sees_all (sees_all s xs) ys
sees_all-append s [] ys = refl
sees_all-append s (x ∷ xs) ys = sees_all-append (sees s x) xs ys

sound-append : (s : Seen) (xs ys : List ClientStep) → AreSound s xs → AreSound (sees_all s xs) ys
    → AreSound s (xs ++ ys)
sound-append s [] ys h k = k
sound-append s (x ∷ xs) ys h k = (h.0, sound-append (sees s x) xs ys h.1 k)

all_sound : (s : Seen) (history : List (List ClientStep)) → IsSafe s history → AreSound s (all_of history)
all_sound s [] h = tt
all_sound s (ms ∷ more) h = sound-append s ms (all_of more) h.0 (all_sound (sees_all s ms) more h.2)

-- what stands behind a past is sound after what was seen of it
sound_behind : (history : List (List ClientStep)) (past ms : List ClientStep) → IsSafe nothing_seen history
    → all_of history ≡ onto past ms → AreSound (seen_of past) ms
sound_behind history past ms safe is =
    sound-onto past ms (subst (AreSound nothing_seen) is (all_sound nothing_seen history safe))

pub unbroken_of : (history : List (List ClientStep)) → IsSafe nothing_seen history → Unbroken history
unbroken_of history safe past after at is = (sound_behind history past (Published at ∷ after) safe is).0

pub honest_of : (history : List (List ClientStep)) → IsSafe nothing_seen history → HonestRecovery history
honest_of history safe past after recovered at is =
    (sound_behind history past (Subscribed recovered at ∷ after) safe is).0

-- ---- the run of a recovered Subscribed

onto-append : (past xs ms : List ClientStep) → onto past (xs ++ ms) ≡ onto past xs ++ ms
onto-append [] xs ms = refl
onto-append (m ∷ past) xs ms = onto-append past (m ∷ xs) ms

abbrev first_or : ClientStep → List ClientStep → ClientStep
first_or d [] = d
first_or d (m ∷ ms) = m

-- two ways of parting a list, of which the first comes earlier
parted : (xs ys ps qs : List ClientStep) → xs ++ ys ≡ ps ++ qs → length qs ≤ length ys → (between : List ClientStep)
    × (ps ≡ xs ++ between) × (ys ≡ between ++ qs)
parted [] ys ps qs is short = (ps, refl, is)
parted (x ∷ xs) ys [] qs is short =
    let long : length (x ∷ (xs ++ ys)) ≡ length qs = ap length is in absurd (omega (arith, long, length-append xs ys))
parted (x ∷ xs) ys (p ∷ ps) qs is short =
    let one : x ≡ p = ap (λ (ms : List ClientStep). first_or Stops ms) is in
    let rest = parted xs ys ps qs (ap (drop 1) is) short in
    (rest.0, ap (λ (m : ClientStep). m ∷ ps) (sym one) ∙ ap (λ (ms : List ClientStep). x ∷ ms) rest.1, rest.2)

-- places alone
ArePlaces : List ClientStep → Type 0
ArePlaces [] = Unit {0}
ArePlaces (Published at ∷ ms) = ArePlaces ms
ArePlaces (m ∷ ms) = ⊥

are_places : (p : Position) (n : ℕ) → ArePlaces (places p n)
unfolding ArePlaces
are_places p zero = tt
are_places p (suc n) = are_places (next p) n

are_all_places : (old : Option Position) (at : Position) → ArePlaces (all_places old at)
unfolding ArePlaces
are_all_places None at = tt
are_all_places (Some p) at = are_places p (at.offset - p.offset)

no_subscribed : (b more : List ClientStep) (recovered : Bool) (at : Position)
    → ArePlaces (b ++ Subscribed recovered at ∷ more) → ⊥
unfolding ArePlaces
no_subscribed [] more recovered at h = h
no_subscribed (Published q ∷ b) more recovered at h = no_subscribed b more recovered at h
no_subscribed (Asks from ∷ b) more recovered at h = h
no_subscribed (Reads found ∷ b) more recovered at h = h
no_subscribed (Subscribed r q ∷ b) more recovered at h = h
no_subscribed (Stops ∷ b) more recovered at h = h

whole_behind : (s : Seen) (b more : List ClientStep) (at : Position) → IsWhole s (b ++ Subscribed true at ∷ more)
    → more ≡ all_places (sees_all s b).old at
whole_behind s [] more at h = h
whole_behind s (Asks from ∷ b) more at h = whole_behind (sees s (Asks from)) b more at h
whole_behind s (Reads found ∷ b) more at h = whole_behind (sees s (Reads found)) b more at h
whole_behind s (Published q ∷ b) more at h = whole_behind (sees s (Published q)) b more at h
whole_behind s (Stops ∷ b) more at h = whole_behind (sees s Stops) b more at h
whole_behind s (Subscribed true q ∷ b) more at h =
    absurd (no_subscribed b more true at (subst ArePlaces (sym h) (are_all_places s.old q)))
whole_behind s (Subscribed false q ∷ b) more at h =
    absurd (no_subscribed b more true at (subst ArePlaces (sym h) nothing))
  where
    nothing : ArePlaces []
    nothing = are_all_places None q

-- the event behind others is whole after what was seen of them
whole_at : (s : Seen) (before after : List (List ClientStep)) (ms : List ClientStep) → IsSafe s (before ++ ms ∷ after)
    → IsWhole (sees_all s (all_of before)) ms
whole_at s [] after ms h = h.1
whole_at s (b ∷ bs) after ms h =
    subst (λ (t : Seen). IsWhole t ms) (sym (sees_all-append s b (all_of bs))) (whole_at (sees_all s b) bs after ms h.2)

-- what was seen when a client's step of the event came
seen_before : (xs between past : List ClientStep) → onto past [] ≡ xs ++ between
    → sees_all (sees_all nothing_seen xs) between ≡ seen_of past
seen_before xs between past is =
    sym (sees_all-append nothing_seen xs between) ∙ (ap (sees_all nothing_seen) (sym is) ∙ sees_all-onto past [])

pub recovered_of : (history : List (List ClientStep)) → IsSafe nothing_seen history → RecoveredRun history
recovered_of history safe before after ms past more at is here inside =
    let parts = parted (all_of before) ms (onto past []) (Subscribed true at ∷ more)
    (here ∙ onto-append past [] (Subscribed true at ∷ more)) inside in
    let whole = whole_at nothing_seen before after ms (subst (IsSafe nothing_seen) is safe) in
    let so = whole_behind (sees_all nothing_seen (all_of before)) parts.0 more at
    (subst (IsWhole (sees_all nothing_seen (all_of before))) parts.2 whole) in
    so ∙ ap (λ (s : Seen). all_places s.old at) (seen_before (all_of before) parts.0 past parts.1)
