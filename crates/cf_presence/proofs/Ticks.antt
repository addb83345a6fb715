-- What `retain` leaves at a tick.
use Rattle.std.proofs.Common.{◌≡◌, ℕ, List, [], ◌∷◌, Bool, true, false, cond, Option, Some, None, refl, sym, ap, ◌∙◌}
use Rattle.std.proofs.Common.{subst, map, filter, not, arith, BTreeMap, String, Global, string_bytes}
use Rattle.std.specs.Prelude.{◌==◌, ◌≢◌, if◌then◌else◌, unwrap_or}
use Rattle.std.specs.Option.{option_map}
use Rattle.std.specs.Map.{lookup, keys_of}
use Rattle.std.specs.Map.Calls.{RetainsPairs}
use Rattle.std.specs.List.{IsDistinct, AllByRecursion}
use Rattle.std.specs.Ordering.{nat_cmp, is_eq, eq_by_cmp}
use Rattle.std.specs.Cmp.{eq_by_cmp_equiv}
use Rattle.std.specs.Cmp.Lexicographic.{slice_cmp, nat_list_cmp_total}
use Rattle.std.specs.String.{string_cmp}
use Rattle.std.specs.BTreeMap.{get_by_text, is_at, IsOrdered}
use Rattle.std.specs.FinMap as fin
use Rattle.std.proofs.lemmas.Map.Entries.{lookup-filter-values, option_filter}
use Rattle.std.proofs.lemmas.Map.Made.{lookup-map_values}
use Rattle.std.proofs.lemmas.Map.Keys.{IsDistinct-from_sorted}
use Rattle.cf_presence.specs.Presence.{Clients, Seen, stays, still}
use Rattle.cf_presence.specs.Maps.{by_text, if_any, after_tick}
use Rattle.cf_presence.proofs.Rooms.{zero_from_test}
use Rattle.cf_presence.proofs.Texts.{by_bytes, entries-by_text, entries-empty}

-- a closure that writes g of each value and answers p of it, and stays as it was
pub map_filter_same_pairs : {F K X : Type 0} (T : F → K → X → Bool → X → F → Type 0) (g : X → X) (p : X → Bool) (f : F)
    → ((k : K) (v : X) (b : Bool) (w : X) (f' : F) → T f k v b w f' → (b ≡ p v) × (w ≡ g v) × (f' ≡ f))
    → (es kept : List (K × X)) → RetainsPairs T f es kept → kept ≡ map (λ e. (e.0, g e.1)) (filter (λ e. p e.1) es)
map_filter_same_pairs T g p f each [] kept h = h
map_filter_same_pairs {K = K} {X = X} T g p f each (e ∷ es) kept h =
    let one = each e.0 e.1 h.0 h.1 h.2 h.4 in
    let rest = map_filter_same_pairs T g p f each es h.3 (subst (λ x. RetainsPairs T x es h.3) one.2 h.5) in
    let step : (b : Bool) → cond {A = List (K × X)} b
    ((e.0, g e.1) ∷ map (λ (x : K × X). (x.0, g x.1)) (filter (λ x. p x.1) es))
    (map (λ (x : K × X). (x.0, g x.1)) (filter (λ x. p x.1) es))
    ≡ map (λ (x : K × X). (x.0, g x.1)) (cond b (e ∷ filter (λ x. p x.1) es) (filter (λ x. p x.1) es)) =
    λ b. elim b as (λ b. cond {A = List (K × X)} b
    ((e.0, g e.1) ∷ map (λ (x : K × X). (x.0, g x.1)) (filter (λ x. p x.1) es))
    (map (λ (x : K × X). (x.0, g x.1)) (filter (λ x. p x.1) es))
    ≡ map (λ (x : K × X). (x.0, g x.1)) (cond b (e ∷ filter (λ x. p x.1) es) (filter (λ x. p x.1) es)))
    [ true ↦ refl | false ↦ refl ] in
    h.6 ∙ (λ i. cond {A = List (K × X)} (one.0 i) ((e.0, one.1 i) ∷ rest i) (rest i)) ∙ step (p e.1)

module _ {X : Type 0} where
  pub lookup-by_bytes : (q : List ℕ) (es : List (String Global × X))
      → lookup (is_at (λ k. slice_cmp nat_cmp q (string_bytes k))) es
      ≡ lookup (eq_by_cmp (slice_cmp nat_cmp) q) (by_bytes es)
  lookup-by_bytes q [] = refl
  lookup-by_bytes q (e ∷ es) =
      ap (cond (is_eq (slice_cmp nat_cmp q (string_bytes e.0))) (Some e.1)) (lookup-by_bytes q es)

  pub filter-by_bytes : (p : X → Bool) (es : List (String Global × X))
      → by_bytes (filter (λ e. p e.1) es) ≡ filter (λ e. p e.1) (by_bytes es)
  filter-by_bytes p [] = refl
  filter-by_bytes p (e ∷ es) =
      elim (p e.1) as (λ b. by_bytes (cond b (e ∷ filter (λ x. p x.1) es) (filter (λ x. p x.1) es))
      ≡ cond {A = List (List ℕ × X)} b ((string_bytes e.0, e.1) ∷ filter (λ x. p x.1) (by_bytes es))
      (filter (λ x. p x.1) (by_bytes es))) [
        | true ↦ ap (λ l. (string_bytes e.0, e.1) ∷ l) (filter-by_bytes p es)
        | false ↦ filter-by_bytes p es
      ]

  changed-by_bytes : (g : X → X) (es : List (String Global × X))
      → by_bytes (map (λ (e : String Global × X). (e.0, g e.1)) es)
      ≡ map (λ (e : List ℕ × X). (e.0, g e.1)) (by_bytes es)
  changed-by_bytes g [] = refl
  changed-by_bytes g (e ∷ es) = ap (λ l. (string_bytes e.0, g e.1) ∷ l) (changed-by_bytes g es)

  apart : (k : String Global) (es : List (String Global × X))
      → AllByRecursion (λ y. eq_by_cmp string_cmp k y ≡ false) (keys_of es)
      → AllByRecursion (λ y. eq_by_cmp (slice_cmp nat_cmp) (string_bytes k) y ≡ false) (keys_of (by_bytes es))
  apart k [] h = h
  apart k (e ∷ es) h = (h.0, apart k es h.1)

  distinct_bytes : (es : List (String Global × X)) → IsDistinct (eq_by_cmp string_cmp) (keys_of es)
      → IsDistinct (eq_by_cmp (slice_cmp nat_cmp)) (keys_of (by_bytes es))
  unfolding IsDistinct
  distinct_bytes [] h = h
  distinct_bytes (e ∷ es) h = (apart e.0 es h.0, distinct_bytes es h.1)

  -- no two entries of a map have one key
  pub distinct : (m : BTreeMap (String Global) X) → IsOrdered string_cmp m
      → IsDistinct (eq_by_cmp (slice_cmp nat_cmp)) (keys_of (by_bytes m.entries))
  distinct m ordered = distinct_bytes m.entries (IsDistinct-from_sorted string_cmp (keys_of m.entries) ordered)

  -- what a map has at a key, where those that pass p were kept, and changed by g
  get-kept : (g : X → X) (p : X → Bool) (m n : BTreeMap (String Global) X) → IsOrdered string_cmp m
      → n.entries ≡ map (λ e. (e.0, g e.1)) (filter (λ e. p e.1) m.entries)
      → (q : List ℕ) → get_by_text n q ≡ option_map g (option_filter p (get_by_text m q))
  get-kept g p m n ordered is q =
      let stood = filter (λ (e : String Global × X). p e.1) m.entries in
      lookup-by_bytes q n.entries
      ∙ ap (λ es. lookup (eq_by_cmp (slice_cmp nat_cmp) q) (by_bytes es)) is
      ∙ ap (lookup (eq_by_cmp (slice_cmp nat_cmp) q)) (changed-by_bytes g stood)
      ∙ lookup-map_values g (eq_by_cmp (slice_cmp nat_cmp) q) (by_bytes stood)
      ∙ ap (option_map g)
      (ap (lookup (eq_by_cmp (slice_cmp nat_cmp) q)) (filter-by_bytes p m.entries)
      ∙ lookup-filter-values (eq_by_cmp_equiv nat_list_cmp_total) p q (by_bytes m.entries) (distinct m ordered)
      ∙ ap (option_filter p) (sym (lookup-by_bytes q m.entries)))

-- the clients of a channel whose entries still stand
pub still-by_text : (now : ℕ) (m n : BTreeMap (String Global) Seen) → IsOrdered string_cmp m
    → n.entries ≡ filter (λ e. stays now e.1) m.entries → by_text n ≡ still now (by_text m)
still-by_text now m n ordered is =
    ap (λ es. fin.from_entries {R = slice_cmp nat_cmp} (by_bytes es)) is
    ∙ ap (fin.from_entries {R = slice_cmp nat_cmp})
    (filter-by_bytes (stays now) m.entries ∙ ap (filter (λ (e : List ℕ × Seen). stays now e.1))
    (sym (entries-by_text m ordered)))

of_tick : (now : ℕ) (o : Option Clients) → option_map (still now)
    (option_filter (λ m. not (fin.len (still now m) == 0)) o) ≡ after_tick now o
of_tick now None = refl
of_tick now (Some m) =
    elim (fin.len (still now m) == 0) as (λ b. option_map (still now) (cond (not b) (Some m) None)
    ≡ (if b then None else Some (still now m))) [ true ↦ refl | false ↦ refl ]

-- what each channel has after a tick
pub get-after_tick : (now : ℕ) (m n : BTreeMap (String Global) Clients) → IsOrdered string_cmp m
    → n.entries ≡ map (λ e. (e.0, still now e.1)) (filter (λ e. not (fin.len (still now e.1) == 0)) m.entries)
    → (q : List ℕ) → get_by_text n q ≡ after_tick now (get_by_text m q)
get-after_tick now m n ordered is q =
    get-kept (still now) (λ r. not (fin.len (still now r) == 0)) m n ordered is q ∙ of_tick now (get_by_text m q)

still-empty : (now : ℕ) → still now fin.empty ≡ fin.empty
still-empty now =
    ap (λ es. fin.from_entries {R = slice_cmp nat_cmp} (filter (λ (e : List ℕ × Seen). stays now e.1) es)) entries-empty

-- the clients, or nobody where there are none
clients_if_any : (r : Clients) → unwrap_or (if_any r) fin.empty ≡ r
clients_if_any r =
    let cases : (b : Bool) → (fin.len r == 0) ≡ b → unwrap_or (if b then None else Some r) fin.empty ≡ r =
    λ b. elim b as (λ b. (fin.len r == 0) ≡ b → unwrap_or (if b then None else Some r) fin.empty ≡ r) [
      | true ↦ λ h. sym (fin.empty_of_len r (zero_from_test (fin.len r) h))
      | false ↦ λ h. refl
    ] in
    cases (fin.len r == 0) refl

pub clients-after_tick : (now : ℕ) (o : Option Clients)
    → unwrap_or (after_tick now o) fin.empty ≡ still now (unwrap_or o fin.empty)
clients-after_tick now None = sym (still-empty now)
clients-after_tick now (Some m) = clients_if_any (still now m)

some_clients : (r s : Clients) → if_any r ≡ Some s → s ≢ fin.empty
some_clients r s =
    let cases : (b : Bool) → (fin.len r == 0) ≡ b → ◌≡◌ {A = Option Clients} (if b then None else Some r) (Some s)
    → s ≢ fin.empty =
    λ b. elim b as (λ b. (fin.len r == 0) ≡ b → ◌≡◌ {A = Option Clients} (if b then None else Some r) (Some s)
    → s ≢ fin.empty) [
      | true ↦ λ h e. absurd (grind (arith, e))
      | false ↦ λ h e is. absurd (grind (arith, h, e, is, fin.len-empty (slice_cmp nat_cmp) Seen))
    ] in
    cases (fin.len r == 0) refl

-- a tick leaves no channel without clients
pub nowhere_none : (now : ℕ) (o : Option Clients) → after_tick now o ≢ Some fin.empty
nowhere_none now None e = absurd (grind (arith, e))
nowhere_none now (Some m) e = some_clients (still now m) fin.empty e refl
