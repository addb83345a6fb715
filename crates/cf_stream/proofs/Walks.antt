-- The entries of a map in the order of their bytes.
use Rattle.std.proofs.Common.{◌≡◌, ℕ, List, [], ◌∷◌, refl, sym, ap, ◌∙◌, length, arith, BTreeMap, String, Global}
use Rattle.std.proofs.Common.{string_bytes}
use Rattle.std.specs.declared.cmp.Ordering.TheVariants.{Less}
use Rattle.std.specs.Map.{keys_of}
use Rattle.std.specs.List.{AllByRecursion}
use Rattle.std.specs.List.Sorted.{IsStrictlySortedBy}
use Rattle.std.specs.Ordering.{nat_cmp}
use Rattle.std.specs.Cmp.Lexicographic.{slice_cmp, nat_list_cmp_total}
use Rattle.std.specs.String.{string_cmp}
use Rattle.std.specs.BTreeMap.{IsOrdered}
use Rattle.std.specs.FinMap as fin
use Rattle.std.specs.FinMap.Entries.{put, by_order}
use Rattle.cf_stream.specs.Stream.{Shown}
use Rattle.cf_stream.specs.Streams.{by_channel}
use Rattle.cf_stream.proofs.Channels.{by_bytes}

before_all : (k : String Global) (es : List (String Global × Shown))
    → AllByRecursion (λ y. string_cmp k y ≡ Less) (keys_of es)
    → AllByRecursion (λ y. slice_cmp nat_cmp (string_bytes k) y ≡ Less) (keys_of (by_bytes es))
before_all k [] h = h
before_all k (e ∷ es) h = (h.0, before_all k es h.1)

sorted_bytes : (es : List (String Global × Shown)) → IsStrictlySortedBy string_cmp (keys_of es)
    → IsStrictlySortedBy (slice_cmp nat_cmp) (keys_of (by_bytes es))
unfolding IsStrictlySortedBy
sorted_bytes [] h = h
sorted_bytes (e ∷ es) h = (before_all e.0 es h.0, sorted_bytes es h.1)

put_first : (k : List ℕ) (v : Shown) (es : List (List ℕ × Shown))
    → AllByRecursion (λ y. slice_cmp nat_cmp k y ≡ Less) (keys_of es) → put (slice_cmp nat_cmp) k v es ≡ (k, v) ∷ es
put_first k v [] h = refl
put_first k v (x ∷ xs) h =
    ap (λ r. by_order r ((k, v) ∷ x ∷ xs) ((x.0, v) ∷ xs) (x ∷ put (slice_cmp nat_cmp) k v xs)) h.0

pub none_of : {A : Type 0} (es : List A) → length es ≡ 0 → es ≡ []
none_of [] e = refl
none_of (x ∷ es) e = absurd (omega arith)

entries-from_entries : (es : List (List ℕ × Shown)) → IsStrictlySortedBy (slice_cmp nat_cmp) (keys_of es)
    → fin.entries (fin.from_entries {R = slice_cmp nat_cmp} es) ≡ es
unfolding IsStrictlySortedBy
entries-from_entries [] h =
    let none : fin.FinMap (slice_cmp nat_cmp) Shown = fin.empty in
    none_of (fin.entries none) (sym (fin.len-entries none) ∙ fin.len-empty (slice_cmp nat_cmp) Shown)
entries-from_entries (e ∷ es) h =
    fin.entries-insert nat_list_cmp_total (fin.from_entries es) e.0 e.1
    ∙ ap (put (slice_cmp nat_cmp) e.0 e.1) (entries-from_entries es h.1) ∙ put_first e.0 e.1 es h.0

pub entries-by_channel : (m : BTreeMap (String Global) Shown) → IsOrdered string_cmp m
    → fin.entries (by_channel m) ≡ by_bytes m.entries
entries-by_channel m h = entries-from_entries (by_bytes m.entries) (sorted_bytes m.entries h)
