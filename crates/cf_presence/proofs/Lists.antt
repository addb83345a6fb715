-- The users of a channel's clients.
use Rattle.std.proofs.Common.{◌≡◌, ℕ, List, [], ◌∷◌, true, false, cond, Option, Some, None, refl, sym, ap, ◌∙◌, map}
use Rattle.std.proofs.Common.{BTreeMap, String, Global, string_bytes}
use Rattle.std.specs.Option.{option_map}
use Rattle.std.specs.Map.{lookup, keys_of, values_of, update_all, update}
use Rattle.std.specs.Set.{distinct_count}
use Rattle.std.specs.Str.{bytes_eq}
use Rattle.std.specs.Ordering.{nat_cmp, is_eq, eq_by_cmp}
use Rattle.std.specs.Cmp.{eq_by_cmp_equiv}
use Rattle.std.specs.Cmp.Lexicographic.{slice_cmp, nat_list_cmp_total}
use Rattle.std.specs.String.{string_cmp}
use Rattle.std.specs.BTreeMap.{get_by_text, is_at, IsOrdered}
use Rattle.std.specs.FinMap as fin
use Rattle.std.proofs.lemmas.Map.Made.{update_all_none}
use Rattle.cf_protocol.specs.Shown.{shown_users}
use Rattle.cf_presence.specs.Presence.{Seen, users_of, user_count}
use Rattle.cf_presence.specs.Maps.{by_text, SetsAt}
use Rattle.cf_presence.proofs.Texts.{by_bytes, same_key, same_map, entries-by_text, entries-empty}
use Rattle.cf_presence.proofs.Ticks.{distinct}

-- what users stand in a list that is being made
abbrev pub told : BTreeMap (String Global) (String Global) → List ℕ → Option (List ℕ)
told users q = option_map string_bytes (get_by_text users q)

-- each client with its user
abbrev pub pairs : List (String Global × Seen) → List (List ℕ × List ℕ)
pairs es = map (λ (e : String Global × Seen). (string_bytes e.0, e.1.user)) es

find-told : (q : List ℕ) (es : List (String Global × String Global))
    → fin.find (slice_cmp nat_cmp) q (map (λ e. (string_bytes e.0, string_bytes e.1)) es)
    ≡ option_map string_bytes (lookup (is_at (λ k. slice_cmp nat_cmp q (string_bytes k))) es)
find-told q [] = refl
find-told q (e ∷ es) = elim (is_eq (slice_cmp nat_cmp q (string_bytes e.0))) as (λ b.
    cond b (Some (string_bytes e.1)) (fin.find (slice_cmp nat_cmp) q
    (map (λ (e : String Global × String Global). (string_bytes e.0, string_bytes e.1)) es))
    ≡ option_map string_bytes (cond b (Some e.1) (lookup (is_at (λ k. slice_cmp nat_cmp q (string_bytes k))) es)))
    [ true ↦ refl | false ↦ find-told q es ]

get-shown_users : (users : BTreeMap (String Global) (String Global)) (q : List ℕ)
    → fin.get (shown_users users) q ≡ told users q
get-shown_users users q =
    fin.get-from_entries nat_list_cmp_total (map (λ e. (string_bytes e.0, string_bytes e.1)) users.entries) q
    ∙ find-told q users.entries

find-lookup : (q : List ℕ) (ps : List (List ℕ × List ℕ))
    → fin.find (slice_cmp nat_cmp) q ps ≡ lookup (eq_by_cmp (slice_cmp nat_cmp) q) ps
find-lookup q [] = refl
find-lookup q (p ∷ ps) = ap (cond (is_eq (slice_cmp nat_cmp q p.0)) (Some p.1)) (find-lookup q ps)

pairs-by_bytes : (es : List (String Global × Seen))
    → map (λ (e : List ℕ × Seen). (e.0, e.1.user)) (by_bytes es) ≡ pairs es
pairs-by_bytes [] = refl
pairs-by_bytes (e ∷ es) = ap (λ l. (string_bytes e.0, e.1.user) ∷ l) (pairs-by_bytes es)

keys-pairs : (es : List (String Global × Seen)) → keys_of (by_bytes es) ≡ keys_of (pairs es)
keys-pairs [] = refl
keys-pairs (e ∷ es) = ap (λ l. string_bytes e.0 ∷ l) (keys-pairs es)

-- a list to which all pairs came
pub listed : (m : BTreeMap (String Global) Seen) (users : BTreeMap (String Global) (String Global))
    → IsOrdered string_cmp m
    → told users ≡ update_all bytes_eq (λ _. None) (pairs m.entries) → shown_users users ≡ users_of (by_text m)
listed m users ordered h =
    let all : users_of (by_text m) ≡ fin.from_entries {R = slice_cmp nat_cmp} (pairs m.entries) =
    ap (λ es. fin.from_entries {R = slice_cmp nat_cmp} (map (λ (e : List ℕ × Seen). (e.0, e.1.user)) es))
    (entries-by_text m ordered) ∙ ap (fin.from_entries {R = slice_cmp nat_cmp}) (pairs-by_bytes m.entries) in
    same_map (shown_users users) (fin.from_entries (pairs m.entries)) (λ q.
    get-shown_users users q ∙ ap (λ f. f q) h
    ∙ update_all_none (eq_by_cmp_equiv nat_list_cmp_total) bytes_eq
    (λ x y. same_key x y ∙ (eq_by_cmp_equiv nat_list_cmp_total).symm y x) (pairs m.entries) q
    (rw (← keys-pairs m.entries) (distinct m ordered))
    ∙ sym (fin.get-from_entries nat_list_cmp_total (pairs m.entries) q ∙ find-lookup q (pairs m.entries))) ∙ sym all

users-values : (es : List (String Global × Seen))
    → map (λ (s : Seen). s.user) (map (λ (e : List ℕ × Seen). e.1) (by_bytes es))
    ≡ map (λ (s : Seen). s.user) (values_of es)
users-values [] = refl
users-values (e ∷ es) = ap (λ l. e.1.user ∷ l) (users-values es)

-- the count of different users, by a map's values
pub user_count-by_text : (m : BTreeMap (String Global) Seen) → IsOrdered string_cmp m
    → user_count (by_text m) ≡ distinct_count bytes_eq (map (λ (s : Seen). s.user) (values_of m.entries))
user_count-by_text m ordered =
    ap (λ es. distinct_count bytes_eq (map (λ (s : Seen). s.user) (map (λ (e : List ℕ × Seen). e.1) es)))
    (entries-by_text m ordered) ∙ ap (distinct_count bytes_eq) (users-values m.entries)

pub user_count-empty : user_count fin.empty ≡ 0
user_count-empty =
    ap (λ es. distinct_count bytes_eq (map (λ (s : Seen). s.user) (map (λ (e : List ℕ × Seen). e.1) es))) entries-empty

pub users_of-empty : users_of fin.empty ≡ fin.empty
users_of-empty =
    ap (λ es. fin.from_entries {R = slice_cmp nat_cmp} (map (λ (e : List ℕ × Seen). (e.0, e.1.user)) es)) entries-empty

told_after : (users more : BTreeMap (String Global) (String Global)) (k : List ℕ) (v : String Global)
    → SetsAt users more k (Some v) → (q : List ℕ)
    → told more q ≡ update bytes_eq (told users) k (Some (string_bytes v)) q
told_after users more k v h q =
    ap (option_map string_bytes) (h q)
    ∙ elim (bytes_eq k q) as (λ b. option_map string_bytes (cond b (Some v) (get_by_text users q))
    ≡ cond b (Some (string_bytes v)) (told users q)) [ true ↦ refl | false ↦ refl ]

-- a client that comes to the list with its user
pub lists_one : (users more : BTreeMap (String Global) (String Global)) (e : String Global × Seen) (v : String Global)
    (rest new : List (String Global × Seen)) (all : List ℕ → Option (List ℕ))
    → rest ≡ e ∷ new → SetsAt users more (string_bytes e.0) (Some v) → string_bytes v ≡ e.1.user
    → update_all bytes_eq (told users) (pairs rest) ≡ all → update_all bytes_eq (told more) (pairs new) ≡ all
lists_one users more e v rest new all first sets user stood =
    let now : told more ≡ update bytes_eq (told users) (string_bytes e.0) (Some e.1.user) =
    (λ i q. told_after users more (string_bytes e.0) v sets q i)
    ∙ ap (λ u. update bytes_eq (told users) (string_bytes e.0) (Some u)) user in
    ap (λ f. update_all bytes_eq f (pairs new)) now ∙ sym (ap (λ es. update_all bytes_eq (told users) (pairs es)) first)
    ∙ stood

-- a list to which no pair is still to come
pub lists_all : (m : BTreeMap (String Global) Seen) (users : BTreeMap (String Global) (String Global))
    (rest : List (String Global × Seen)) → IsOrdered string_cmp m → rest ≡ []
    → update_all bytes_eq (told users) (pairs rest) ≡ update_all bytes_eq (λ _. None) (pairs m.entries)
    → shown_users users ≡ users_of (by_text m)
lists_all m users rest ordered none stood =
    listed m users ordered (sym (ap (λ es. update_all bytes_eq (told users) (pairs es)) none) ∙ stood)
