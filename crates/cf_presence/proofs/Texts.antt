-- Maps by the bytes of their keys.
use Rattle.std.proofs.Common.{◌≡◌, ℕ, List, [], ◌∷◌, cond, Some, None, refl, sym, ap, ◌∙◌, map, length, arith, BTreeMap}
use Rattle.std.proofs.Common.{String, Global, string_bytes}
use Rattle.std.specs.declared.cmp.Ordering.TheVariants.{Less}
use Rattle.std.specs.Ordering.{nat_cmp, is_eq, eq_by_cmp}
use Rattle.std.specs.Cmp.{eq_by_cmp_equiv}
use Rattle.std.specs.Cmp.Lexicographic.{slice_cmp, nat_list_cmp_total}
use Rattle.std.specs.Map.{lookup, keys_of}
use Rattle.std.specs.List.{AllByRecursion}
use Rattle.std.specs.List.Sorted.{IsStrictlySortedBy}
use Rattle.std.specs.Str.{bytes_eq}
use Rattle.std.specs.String.{string_cmp}
use Rattle.std.specs.BTreeMap.{get_by_text, is_at, IsOrdered}
use Rattle.std.specs.FinMap as fin
use Rattle.std.specs.FinMap.Entries.{put, by_order}
use Rattle.std.proofs.lemmas.Map.Text.{is_eq-slice_cmp}
use Rattle.cf_presence.specs.Maps.{by_text, SetsAt}

-- the entries by their bytes
abbrev pub by_bytes : {X : Type 0} → List (String Global × X) → List (List ℕ × X)
by_bytes {X = X} es = map (λ (e : String Global × X). (string_bytes e.0, e.1)) es

-- the two tests of bytes agree
pub same_key : (bs q : List ℕ) → bytes_eq bs q ≡ eq_by_cmp (slice_cmp nat_cmp) q bs
same_key bs q = sym (is_eq-slice_cmp bs q) ∙ (eq_by_cmp_equiv nat_list_cmp_total).symm bs q

pub same_map : {X : Type 0} (m n : fin.FinMap (slice_cmp nat_cmp) X) → ((q : List ℕ) → fin.get m q ≡ fin.get n q)
    → m ≡ n
same_map m n h = fin.same_map nat_list_cmp_total (fin.slice_cmp-IsAntisymmetric fin.nat_cmp-IsAntisymmetric) m n h

pub no_entries : {A : Type 0} (es : List A) → length es ≡ 0 → es ≡ []
no_entries [] e = refl
no_entries (x ∷ es) e = absurd (omega arith)

pub entries-empty : {X : Type 0} → fin.entries (fin.empty {X = X} {R = slice_cmp nat_cmp}) ≡ []
entries-empty {X = X} =
    no_entries _ (sym (fin.len-entries (fin.empty {X = X} {R = slice_cmp nat_cmp}))
    ∙ fin.len-empty (slice_cmp nat_cmp) X)

module _ {X : Type 0} where
  find-by_bytes : (q : List ℕ) (es : List (String Global × X))
      → fin.find (slice_cmp nat_cmp) q (by_bytes es) ≡ lookup (is_at (λ k. slice_cmp nat_cmp q (string_bytes k))) es
  find-by_bytes q [] = refl
  find-by_bytes q (e ∷ es) = ap (cond (is_eq (slice_cmp nat_cmp q (string_bytes e.0))) (Some e.1)) (find-by_bytes q es)

  -- what a map has at the bytes of a key
  pub get-by_text : (m : BTreeMap (String Global) X) (q : List ℕ) → fin.get (by_text m) q ≡ get_by_text m q
  get-by_text m q = fin.get-from_entries nat_list_cmp_total (by_bytes m.entries) q ∙ find-by_bytes q m.entries

  -- a map that has s at one key, and is as before elsewhere
  pub sets : (m n : BTreeMap (String Global) X) (bs : List ℕ) (s : X) → SetsAt m n bs (Some s)
      → by_text n ≡ fin.insert (by_text m) bs s
  sets m n bs s h = same_map (by_text n) (fin.insert (by_text m) bs s) (λ q.
      get-by_text n q ∙ h q ∙ ap (λ b. cond b (Some s) (get_by_text m q)) (same_key bs q)
      ∙ ap (cond (eq_by_cmp (slice_cmp nat_cmp) q bs) (Some s)) (sym (get-by_text m q))
      ∙ sym (fin.get-insert nat_list_cmp_total (by_text m) bs s q))

  -- a map that has nothing at one key, and is as before elsewhere
  pub removes : (m n : BTreeMap (String Global) X) (bs : List ℕ) → SetsAt m n bs None
      → by_text n ≡ fin.remove (by_text m) bs
  removes m n bs h = same_map (by_text n) (fin.remove (by_text m) bs) (λ q.
      get-by_text n q ∙ h q ∙ ap (λ b. cond b None (get_by_text m q)) (same_key bs q)
      ∙ ap (cond (eq_by_cmp (slice_cmp nat_cmp) q bs) None) (sym (get-by_text m q))
      ∙ sym (fin.get-remove nat_list_cmp_total (by_text m) bs q))

  -- maps that have the same at each key
  pub keeps : (m n : BTreeMap (String Global) X) → ((q : List ℕ) → get_by_text n q ≡ get_by_text m q)
      → by_text n ≡ by_text m
  keeps m n h = same_map (by_text n) (by_text m) (λ q. get-by_text n q ∙ h q ∙ sym (get-by_text m q))

  before_all : (k : String Global) (es : List (String Global × X))
      → AllByRecursion (λ y. string_cmp k y ≡ Less) (keys_of es)
      → AllByRecursion (λ y. slice_cmp nat_cmp (string_bytes k) y ≡ Less) (keys_of (by_bytes es))
  before_all k [] h = h
  before_all k (e ∷ es) h = (h.0, before_all k es h.1)

  sorted_bytes : (es : List (String Global × X)) → IsStrictlySortedBy string_cmp (keys_of es)
      → IsStrictlySortedBy (slice_cmp nat_cmp) (keys_of (by_bytes es))
  unfolding IsStrictlySortedBy
  sorted_bytes [] h = h
  sorted_bytes (e ∷ es) h = (before_all e.0 es h.0, sorted_bytes es h.1)

  put_first : (k : List ℕ) (v : X) (es : List (List ℕ × X))
      → AllByRecursion (λ y. slice_cmp nat_cmp k y ≡ Less) (keys_of es) → put (slice_cmp nat_cmp) k v es ≡ (k, v) ∷ es
  put_first k v [] h = refl
  put_first k v (x ∷ xs) h =
      ap (λ r. by_order r ((k, v) ∷ x ∷ xs) ((x.0, v) ∷ xs) (x ∷ put (slice_cmp nat_cmp) k v xs)) h.0

  entries-from_entries : (es : List (List ℕ × X)) → IsStrictlySortedBy (slice_cmp nat_cmp) (keys_of es)
      → fin.entries (fin.from_entries {R = slice_cmp nat_cmp} es) ≡ es
  unfolding IsStrictlySortedBy
  entries-from_entries [] h = entries-empty
  entries-from_entries (e ∷ es) h =
      fin.entries-insert nat_list_cmp_total (fin.from_entries es) e.0 e.1
      ∙ ap (put (slice_cmp nat_cmp) e.0 e.1) (entries-from_entries es h.1) ∙ put_first e.0 e.1 es h.0

  -- the entries in the order of their bytes
  pub entries-by_text : (m : BTreeMap (String Global) X) → IsOrdered string_cmp m
      → fin.entries (by_text m) ≡ by_bytes m.entries
  entries-by_text m h = entries-from_entries (by_bytes m.entries) (sorted_bytes m.entries h)
