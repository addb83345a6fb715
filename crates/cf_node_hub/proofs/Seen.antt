-- What is seen only grows, and what stands in it is listed.
use Rattle.std.proofs.Common.{◌≡◌, ℕ, List, [], ◌∷◌, ◌++◌, Bool, true, false, cond, Some, refl, sym, ap, ◌∙◌}
use Rattle.std.proofs.Common.{append_assoc, append-nil}
use Rattle.std.specs.Prelude.{◌&&◌, fold}
use Rattle.std.specs.Str.{bytes_eq}
use Rattle.std.proofs.lemmas.List.Sums.{fold-append}
use mathlib.Core.List.{IsPrefix}
use Rattle.cf_protocol.specs.Datum.{Datum, Placed}
use Rattle.cf_protocol.specs.LogEntry.{Entry}
use Rattle.cf_protocol.specs.LogEntry.Entry.{Open, Publish, Trim, Forget, Size}
use Rattle.cf_protocol.specs.Note.{Lists, placed_at}
use Rattle.cf_hub.specs.InNotes.{Grown, IsListed}
use Rattle.cf_hub.proofs.InNotes.{listed_stays}
use Rattle.cf_order.specs.Passes.{PassState}
use Rattle.cf_shard.specs.Standing.{StandsIn}
use Rattle.cf_shard.proofs.Standing.{stands_on}
use Rattle.cf_node_hub.specs.Seen.{IsSound, SeesOn, Turn, listed_in, log_at, no_turn, seen_lists, turn_after}

-- ys goes on from xs
abbrev pub GoesOn : {X : Type 0} → (xs ys : List X) → Type 0
GoesOn {X} xs ys = (zs : List X) × (ys ≡ xs ++ zs)

on-same : {X : Type 0} (xs : List X) → GoesOn xs xs
on-same xs = ([], sym (append-nil xs))

on-then : {X : Type 0} (xs ys zs : List X) → GoesOn xs ys → GoesOn ys zs → GoesOn xs zs
on-then xs ys zs a b = (a.0 ++ b.0, b.1 ∙ (ap (λ l. l ++ b.0) a.1 ∙ append_assoc xs a.0 b.0))

turn-step : (q e : List ℕ) (t : Turn) (x : Entry) → GoesOn t.list (turn_after q e t x).list
turn-step q e t (Open c y) = on-same t.list
turn-step q e t (Publish c k d) = by_case (bytes_eq c q && t.stands)
  where
    by_case : (b : Bool) → GoesOn t.list (cond b (t.list ++ d ∷ []) t.list)
    by_case true = (d ∷ [], refl)
    by_case false = on-same t.list
turn-step q e t (Trim c n) = on-same t.list
turn-step q e t (Forget c) = on-same t.list
turn-step q e t (Size name n) = on-same t.list

turn-on : (q e : List ℕ) (more : List Entry) (t : Turn) → GoesOn t.list (fold (turn_after q e) t more).list
turn-on q e [] t = on-same t.list
turn-on q e (x ∷ more) t =
    on-then t.list (turn_after q e t x).list (fold (turn_after q e) (turn_after q e t x) more).list (turn-step q e t x)
    (turn-on q e more (turn_after q e t x))

-- a list goes on as its log does
pub listed-on : (q e : List ℕ) (log more : List Entry) → IsPrefix log more
    → GoesOn (listed_in log q e) (listed_in more q e)
listed-on q e log more h =
    let on = turn-on q e h.0 (fold (turn_after q e) no_turn log) in (
      on.0,
      ap (λ (l : List Entry). listed_in l q e) (sym h.1)
          ∙ (ap (λ (t : Turn). t.list) (fold-append (turn_after q e) no_turn log h.0) ∙ on.1),
    )

pub seen-grows : (old new : List PassState) → SeesOn old new → Grown (seen_lists old) (seen_lists new)
seen-grows old new g = record { later = λ c e. listed-on c e (log_at old c) (log_at new c) (g c) }

then-begins : (xs ys zs : List Entry) → IsPrefix xs ys → IsPrefix ys zs → IsPrefix xs zs
then-begins xs ys zs a b = (a.0 ++ b.0, sym (append_assoc xs a.0 b.0) ∙ (ap (λ (l : List Entry). l ++ b.0) a.1 ∙ b.1))

-- what is sound was sound before
pub sound-before : (old new : List PassState) → SeesOn old new → IsSound new → IsSound old
sound-before old new g s = record {
  once = λ c e before h. s.once c e before (then-begins before (log_at old c) (log_at new c) h (g c));
  regular = λ c e p h. s.regular c e p (stands_on (log_at old c) (log_at new c) c e p (g c) h);
  positions = λ c e before h. s.positions c e before (then-begins before (log_at old c) (log_at new c) h (g c));
  placed = λ c e before low count h. s.placed c e before low count
      (then-begins before (log_at old c) (log_at new c) h (g c));
}

-- what stands in a log that is seen is listed
pub stands-listed : (seen : List PassState) (c e : List ℕ) (p : Placed) → IsSound seen → StandsIn (log_at seen c) c e p
    → IsListed (seen_lists seen) c e p
stands-listed seen c e p sound h =
    let before : Lists = λ d f. listed_in h.before d f in
    let here : placed_at (listed_in h.before c e) p.offset ≡ Some p =
    ap (λ (ds : List Datum). placed_at ds p.offset) (sym (sound.once c e h.before h.begins h.opened)) ∙ h.placed in
    let alone : Lists = λ d f. listed_in h.before c e in
    let on = listed-on c e h.before (log_at seen c) h.begins in
    let there : placed_at (seen_lists seen c e) p.offset ≡ Some p =
    listed_stays alone c e p here (λ d f. listed_in (log_at seen c) c e) (record { later = λ d f. on }) in record {
      stands = listed_stays (seen_lists seen) c e p there;
      regular = sound.regular c e p h;
    }
