-- The befell_from that a trace gives is what befell: the entries of each event are those that it wrote.
use Rattle.std.proofs.Common.{◌≡◌, ℕ, suc, ◌+◌, ◌≤◌, ◌<◌, ◌==◌, Bool, true, false, List, [], ◌∷◌, ◌++◌, length, refl}
use Rattle.std.proofs.Common.{sym, ap, subst, arith, append_assoc, if◌then◌else◌}
use Rattle.std.proofs.lemmas.List.{append-nil}
use Rattle.std.proofs.lemmas.Bool.{eq-eqb, ne_eqb}
use Rattle.cf_machine.specs.Config.{Config}
use Rattle.cf_machine.specs.Event.{Event, Take}
use Rattle.cf_machine.specs.World.{World, start}
use Rattle.cf_machine.specs.LooseRun.{Happening, Scheduled, Receive, loosely_allows, befalls, loose_run}
use Rattle.cf_machine.specs.Trace.{Item, Entry}
use Rattle.cf_machine.specs.Told.{entries, tells, loosely_tells, loosely_writes, loose_trace}
use Rattle.cf_machine.specs.ClientSteps.{ClientStep, entry_steps, allowed_steps, numbered, befell_from}
use Rattle.cf_machine.specs.StreamSafety.{AreNumbered, befell, Safe}
use Rattle.cf_machine.proofs.Automaton.{IsSafe, nothing_seen}
use Rattle.cf_machine.proofs.Sentences.{one_datum_of, unbroken_of, recovered_of, honest_of}
use Rattle.cf_machine.proofs.Tales.{tale, safe_tale}
use Rattle.cf_machine.proofs.Tracing.{true_when_told, true_ever_after}

abbrev AreBelow : ℕ → List Entry → Type 0
AreBelow n [] = Unit {0}
AreBelow n (e ∷ es) = (e.at < n) × AreBelow n es

abbrev AreAt : ℕ → List Entry → Type 0
AreAt n [] = Unit {0}
AreAt n (e ∷ es) = (e.at ≡ n) × AreAt n es

abbrev AreFrom : ℕ → List Entry → Type 0
AreFrom n [] = Unit {0}
AreFrom n (e ∷ es) = (n ≤ e.at) × AreFrom n es

none-below : (n : ℕ) (es : List Entry) → AreBelow n es → numbered n es ≡ []
none-below n [] h = refl
none-below n (e ∷ es) h = rw (ne_eqb e.at n (λ i. absurd (omega (arith, h.0)))) (none-below n es h.1)

none-from : (n : ℕ) (es : List Entry) → AreFrom (suc n) es → numbered n es ≡ []
none-from n [] h = refl
none-from n (e ∷ es) h = rw (ne_eqb e.at n (λ i. absurd (omega (arith, h.0)))) (none-from n es h.1)

all-at : (n : ℕ) (es : List Entry) → AreAt n es → numbered n es ≡ es
all-at n [] h = refl
all-at n (e ∷ es) h = rw (eq-eqb e.at n h.0) (ap (λ (x : List Entry). e ∷ x) (all-at n es h.1))

numbered-append : (n : ℕ) (xs ys : List Entry) → numbered n (xs ++ ys) ≡ numbered n xs ++ numbered n ys
numbered-append n [] ys = refl
numbered-append n (e ∷ xs) ys = of_test (e.at == n) (numbered-append n xs ys)
  where
    of_test : (t : Bool) → numbered n (xs ++ ys) ≡ numbered n xs ++ numbered n ys
        → (if t then e ∷ numbered n (xs ++ ys) else numbered n (xs ++ ys))
        ≡ (if t then e ∷ numbered n xs else numbered n xs) ++ numbered n ys
    of_test true h = ap (λ (x : List Entry). e ∷ x) h
    of_test false h = h

at-entries : (n : ℕ) (x : List ℕ) (is : List Item) → AreAt n (entries n x is)
at-entries n x [] = tt
at-entries n x (i ∷ is) = (refl, at-entries n x is)

at-tells : (n : ℕ) (w : World) (e : Event) → AreAt n (tells n w e)
at-tells n w (Take x) = at-entries n x _
at-tells n w e = tt

at-loosely : (n : ℕ) (w : World) (h : Happening) → AreAt n (loosely_tells n w h)
at-loosely n w (Scheduled e) = at-tells n w e
at-loosely n w (Receive x) = at-entries n x _
at-loosely n w h = tt

at-writes : (cfg : Config) (n : ℕ) (w : World) (h : Happening) → AreAt n (loosely_writes cfg n w h)
at-writes cfg n w h = of_test (loosely_allows cfg w h)
  where
    of_test : (t : Bool) → AreAt n (if t then loosely_tells n w h else [])
    of_test true = at-loosely n w h
    of_test false = tt

from-append : (n : ℕ) (xs ys : List Entry) → AreAt n xs → AreFrom (suc n) ys → AreFrom n (xs ++ ys)
from-append n [] [] h k = tt
from-append n [] (y ∷ ys) h k = (omega (arith, k.0), from-append n [] ys tt k.1)
from-append n (x ∷ xs) ys h k = (omega (arith, h.0), from-append n xs ys h.1 k)

from-trace : (cfg : Config) (hs : List Happening) (n : ℕ) (w : World) → AreFrom n (loose_trace cfg n w hs)
from-trace cfg [] n w = tt
from-trace cfg (h ∷ hs) n w =
    from-append n (loosely_writes cfg n w h) _ (at-writes cfg n w h) (from-trace cfg hs (suc n) (befalls cfg w h))

below-append : (n : ℕ) (xs ys : List Entry) → AreBelow n xs → AreAt n ys → AreBelow (suc n) (xs ++ ys)
below-append n [] [] h k = tt
below-append n [] (y ∷ ys) h k = (omega (arith, k.0), below-append n [] ys tt k.1)
below-append n (x ∷ xs) ys h k = (omega (arith, h.0), below-append n xs ys h.1 k)

befell_from-tale : (cfg : Config) (x c : List ℕ) (hs : List Happening) (n : ℕ) (w : World) (before : List Entry)
    → AreBelow n before
    → befell_from cfg x c (before ++ loose_trace cfg n w hs) n w hs ≡ tale cfg x c n w hs
befell_from-tale cfg x c [] n w before b = refl
befell_from-tale cfg x c (h ∷ hs) n w before b =
    let here : numbered n (before ++ (loosely_writes cfg n w h ++ loose_trace cfg (suc n) (befalls cfg w h) hs))
    ≡ loosely_writes cfg n w h =
    rw (
      numbered-append n before (loosely_writes cfg n w h ++ loose_trace cfg (suc n) (befalls cfg w h) hs),
      none-below n before b,
      numbered-append n (loosely_writes cfg n w h) (loose_trace cfg (suc n) (befalls cfg w h) hs),
      all-at n (loosely_writes cfg n w h) (at-writes cfg n w h),
      none-from n (loose_trace cfg (suc n) (befalls cfg w h) hs) (from-trace cfg hs (suc n) (befalls cfg w h)),
    )
    (append-nil (loosely_writes cfg n w h)) in
    let later : befell_from cfg x c ((before ++ loosely_writes cfg n w h)
    ++ loose_trace cfg (suc n) (befalls cfg w h) hs) (suc n) (befalls cfg w h) hs
    ≡ tale cfg x c (suc n) (befalls cfg w h) hs =
    befell_from-tale cfg x c hs (suc n) (befalls cfg w h) (before ++ loosely_writes cfg n w h)
    (below-append n before (loosely_writes cfg n w h) b (at-writes cfg n w h)) in
    rw here (ap (λ (rest : List (List ClientStep)).
    (allowed_steps cfg x c w h ++ entry_steps x c (loosely_writes cfg n w h))
    ∷ rest)
    (subst (λ (t : List Entry). befell_from cfg x c t (suc n) (befalls cfg w h) hs
    ≡ tale cfg x c (suc n) (befalls cfg w h) hs)
    (append_assoc before (loosely_writes cfg n w h) (loose_trace cfg (suc n) (befalls cfg w h) hs)) later))

safe-befell_from : (cfg : Config) (hs : List Happening) (x c : List ℕ)
    → IsSafe nothing_seen (befell cfg hs (loose_trace cfg 1 start hs) x c)
safe-befell_from cfg hs x c =
    subst (λ (m : List (List ClientStep)). IsSafe nothing_seen m) (sym (befell_from-tale cfg x c hs 1 start [] tt))
    (safe_tale cfg hs x c)

-- numbers never fall
numbered-at : (low n high : ℕ) (xs ys : List Entry) → low ≤ n → n ≤ high → AreAt n xs → AreNumbered n high ys
    → AreNumbered low high (xs ++ ys)
numbered-at low n high [] [] l h a y = tt
numbered-at low n high [] (e ∷ es) l h a y = (let i : n ≤ e.at = y.0 in omega arith, y.1, y.2)
numbered-at low n high (x ∷ xs) ys l h a y =
    let i : x.at ≡ n = a.0 in
    (omega arith, omega arith, numbered-at x.at n high xs ys (omega arith) h a.1 y)

numbered-from : (cfg : Config) (hs : List Happening) (n : ℕ) (w : World) (high : ℕ) → n + length hs ≡ suc high
    → AreNumbered n high (loose_trace cfg n w hs)
numbered-from cfg [] n w high e = tt
numbered-from cfg (h ∷ hs) n w high e =
    let next : suc n + length hs ≡ suc high = omega arith in
    numbered-at n n high (loosely_writes cfg n w h) _ (omega arith) (omega arith) (at-writes cfg n w h)
    (lower n (suc n) high _ (omega arith) (numbered-from cfg hs (suc n) (befalls cfg w h) high next))
  where
    lower : (a b high : ℕ) (es : List Entry) → a ≤ b → AreNumbered b high es → AreNumbered a high es
    lower a b high [] i h = tt
    lower a b high (e ∷ es) i h = (let j : b ≤ e.at = h.0 in omega arith, h.1, h.2)

-- THE HEADLINE, of every loose run
pub safe_loose : (cfg : Config) (hs : List Happening) → Safe cfg hs (loose_trace cfg 1 start hs)
safe_loose cfg hs = record {
  numbered = numbered-from cfg hs 1 start (length hs) (omega arith);
  true_to = true_when_told cfg hs;
  one_datum = one_datum_of (loose_run cfg start hs).broker.lists (loose_trace cfg 1 start hs) (true_ever_after cfg hs);
  unbroken = λ x c. unbroken_of (befell cfg hs (loose_trace cfg 1 start hs) x c) (safe-befell_from cfg hs x c);
  recovered_run = λ x c. recovered_of (befell cfg hs (loose_trace cfg 1 start hs) x c) (safe-befell_from cfg hs x c);
  honest_recovery = λ x c. honest_of (befell cfg hs (loose_trace cfg 1 start hs) x c) (safe-befell_from cfg hs x c);
}
