-- The channels' names in the order of asking, where one is put last or goes.
use Rattle.std.proofs.Common.{◌≡◌, ℕ, Bool, true, false, cond, Option, Some, None, List, [], ◌∷◌, ◌++◌, map, refl, sym}
use Rattle.std.proofs.Common.{ap, subst, ◌∙◌, String, string_bytes, string_eq}
use Rattle.std.specs.Prelude.{Box}
use Rattle.std.specs.Map.{keys_of}
use Rattle.std.specs.Str.{bytes_eq}
use Rattle.std.specs.declared.alloc.Global.{Global}
use Rattle.indexmap.specs.IndexMap.{get, get_by_text, insert_entry, shift_remove_entry}
use Rattle.indexmap.specs.IndexSet.{remove_key}
use Rattle.indexmap.proofs.CallerLemmas.{insert_entry-new, keys-shift_remove_entry}
use Rattle.cf_hub.specs.Subscriptions.{Subscriptions, in_box, names, progress_at}
use Rattle.cf_hub.specs.declared.subscription.Progress.{Progress}

abbrev Entries : Type 0
Entries = List (String Global × Box Progress Global)

-- ---- one is put last

none-in_box : (o : Option (Box Progress Global)) → in_box o ≡ None → o ≡ None
none-in_box None e = refl
none-in_box (Some b) e = absurd (cc)

added : (es : Entries) (e : String Global × Box Progress Global)
    → map string_bytes (keys_of (es ++ e ∷ [])) ≡ map string_bytes (keys_of es) ++ string_bytes e.0 ∷ []
added [] e = refl
added (x ∷ es) e = ap (λ l. string_bytes x.0 ∷ l) (added es e)

pub asked_last : (m n : Subscriptions) (k : String Global) (v : Box Progress Global) (c : List ℕ) → string_bytes k ≡ c
    → progress_at m c ≡ None
    → n.entries ≡ insert_entry string_eq m.entries k v → names n ≡ names m ++ c ∷ []
asked_last m n k v c is none h =
    let absent : get string_eq m k ≡ None =
    none-in_box (get_by_text m (string_bytes k)) (subst (λ d. progress_at m d ≡ None) (sym is) none) in
    ap (λ es. map string_bytes (keys_of es)) (h ∙ insert_entry-new string_eq m k v absent) ∙ added m.entries (k, v)
    ∙ ap (λ d. names m ++ d ∷ []) is

-- ---- one goes

removed : (c : List ℕ) (ks : List (String Global))
    → map string_bytes (remove_key (λ k. bytes_eq c (string_bytes k)) ks)
    ≡ remove_key (bytes_eq c) (map string_bytes ks)
removed c [] = refl
removed c (k ∷ ks) =
    by_value (bytes_eq c (string_bytes k)) ∙ ap (λ l. cond (bytes_eq c (string_bytes k)) (map string_bytes ks)
    (string_bytes k ∷ l)) (removed c ks)
  where
    by_value : (b : Bool) → map string_bytes (cond b ks (k ∷ remove_key (λ j. bytes_eq c (string_bytes j)) ks))
        ≡ cond b (map string_bytes ks) (string_bytes k
        ∷ map string_bytes (remove_key (λ j. bytes_eq c (string_bytes j)) ks))
    by_value true = refl
    by_value false = refl

pub left_out : (m n : Subscriptions) (c : List ℕ)
    → n.entries ≡ shift_remove_entry (λ k. bytes_eq c (string_bytes k)) m.entries
    → names n ≡ remove_key (bytes_eq c) (names m)
left_out m n c h =
    ap (λ es. map string_bytes (keys_of es)) h ∙ ap (map string_bytes)
    (keys-shift_remove_entry (λ k. bytes_eq c (string_bytes k)) m.entries) ∙ removed c (keys_of m.entries)
