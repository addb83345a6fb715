-- What a read brings off the list of a stream: from where, how much, and that it can be read back.
use Rattle.std.proofs.Common.{◌≡◌, ◌≤◌, ℕ, zero, suc, ◌+◌, ◌-◌, ◌&&◌, nat_le, Bool, true, false, Option, Some, None}
use Rattle.std.proofs.Common.{List, [], ◌∷◌, length, take, drop, min, arith, refl, sym, ap, ◌∙◌}
use Rattle.std.specs.List.{All}
use Rattle.std.specs.Str.{bytes_eq}
use Rattle.std.proofs.lemmas.Bool.Decides.{nat_tests}
use Rattle.std.proofs.lemmas.List.{length-drop, length-take-le}
use Rattle.std.proofs.lemmas.List.Elements.{All-drop, All-tail, recursion_from_All}
use Rattle.cf_protocol.specs.Datum.{Datum, Placed, numbered}
use Rattle.cf_protocol.specs.Fields.{max_u64}
use Rattle.cf_protocol.specs.Note.{Reading, placed_from}
use Rattle.cf_protocol.specs.Position.{Position}
use Rattle.cf_protocol.specs.Regular.{ArePlaced, IsBody}
use Rattle.cf_model.specs.Streams.{StreamState, position_of}
use Rattle.cf_model.specs.Streams.{most_in_reply, read_of, still_held}
use Rattle.cf_machine.specs.ReadBack.{IsDatum}
use Rattle.cf_machine.proofs.Names.{by_test}

length-numbered : (o : ℕ) (xs : List Datum) → length (numbered o xs) ≡ length xs
length-numbered o [] = refl
length-numbered o (x ∷ xs) = ap suc (length-numbered (o + 1) xs)

-- so many as lie between
length-placed : (ds : List Datum) (low top : ℕ) → low ≤ top → top ≤ length ds
    → length (placed_from ds low (top - low)) ≡ top - low
length-placed ds low top h k =
    length-numbered low (take (top - low) (drop low ds))
    ∙ length-take-le (top - low) (drop low ds) (let all = length-drop low ds in omega arith)

-- ---- all that is listed can be read back

regular-take : (k o : ℕ) (xs : List Datum) → o + length xs ≤ max_u64 → All IsDatum xs
    → ArePlaced IsBody (numbered o (take k xs))
regular-take zero o xs h a = tt
regular-take (suc k) o [] h a = tt
regular-take (suc k) o (x ∷ xs) h a =
    let here = (recursion_from_All IsDatum (x ∷ xs) a).0 in (
      record { body = here.0; info = here.1; offset = omega arith },
      regular-take k (o + 1) xs (omega arith) (All-tail IsDatum x xs a),
    )

pub regular-placed : (ds : List Datum) (low count : ℕ) → low ≤ length ds → length ds ≤ max_u64 → All IsDatum ds
    → ArePlaced IsBody (placed_from ds low count)
regular-placed ds low count h k a =
    regular-take count low (drop low ds) (let all = length-drop low ds in omega arith) (All-drop IsDatum low ds a)

-- ---- what a read finds

held-below : (p : Position) (s : StreamState) → still_held p s ≡ true → p.offset ≤ s.top
held-below p s h =
    by_value (bytes_eq p.epoch s.epoch) (nat_le p.offset s.top) (nat_le (s.top - p.offset) (min s.held most_in_reply)) h
    refl
  where
    by_value : (a b c : Bool) → (a && (b && c)) ≡ true → nat_le p.offset s.top ≡ b → p.offset ≤ s.top
    by_value true true c h e = grind (arith, nat_tests, e)
    by_value true false c h e = absurd (cc)
    by_value false b c h e = absurd (cc)

pub low-below : (since : Option Position) (s : StreamState) → (read_of since s).low ≤ s.top
low-below None s = omega arith
low-below (Some p) s =
    by_test (λ (r : Reading). r.low ≤ s.top) (still_held p s)
    (record { epoch = s.epoch; low = p.offset; top = s.top; recovered = true })
    (record { epoch = s.epoch; low = s.top; top = s.top; recovered = false })
    (held-below p s) (λ h. omega arith)

pub top-is : (since : Option Position) (s : StreamState) → (read_of since s).top ≡ s.top
top-is None s = refl
top-is (Some p) s =
    by_test (λ (r : Reading). r.top ≡ s.top) (still_held p s)
    (record { epoch = s.epoch; low = p.offset; top = s.top; recovered = true })
    (record { epoch = s.epoch; low = s.top; top = s.top; recovered = false })
    (λ h. refl) (λ h. refl)

pub epoch-is : (since : Option Position) (s : StreamState) → (read_of since s).epoch ≡ s.epoch
epoch-is None s = refl
epoch-is (Some p) s =
    by_test (λ (r : Reading). r.epoch ≡ s.epoch) (still_held p s)
    (record { epoch = s.epoch; low = p.offset; top = s.top; recovered = true })
    (record { epoch = s.epoch; low = s.top; top = s.top; recovered = false })
    (λ h. refl) (λ h. refl)

less : (low top : ℕ) → low ≤ top → top - (top - low) ≡ low
less low top h = omega arith

-- where the answer to a read ends, and how much it brings, is the stream's reading
pub reading-is : (since : Option Position) (s : StreamState) (ds : List Datum) (p : Position) (recovered : Bool)
    (items : List Placed) → s.top ≡ length ds → p ≡ position_of s
    → recovered ≡ (read_of since s).recovered → items
    ≡ placed_from ds (read_of since s).low (s.top - (read_of since s).low)
    → record { epoch = p.epoch; low = p.offset - length items; top = p.offset; recovered = recovered } ≡ read_of since s
reading-is since s ds p recovered items all at exact run =
    let x : Reading = read_of since s in
    let below : x.low ≤ s.top = low-below since s in
    let count : length items ≡ s.top - x.low =
    ap length run ∙ length-placed ds x.low s.top below (omega (arith, all)) in
    let low : p.offset - length items ≡ x.low =
    ap (λ (q : Position). q.offset - length items) at ∙ ap (λ (k : ℕ). s.top - k) count ∙ less x.low s.top below in
    λ i. record {
      epoch = (ap (λ (q : Position). q.epoch) at ∙ sym (epoch-is since s)) i;
      low = low i;
      top = (ap (λ (q : Position). q.offset) at ∙ sym (top-is since s)) i;
      recovered = exact i;
    }
