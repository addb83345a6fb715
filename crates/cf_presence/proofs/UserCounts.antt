-- How many clients each user has, after a change.
use Rattle.std.proofs.Common.{◌≡◌, ℕ, ◌+◌, ◌-◌, List, [], ◌∷◌, Bool, true, false, cond, Option, Some, None, refl, sym}
use Rattle.std.proofs.Common.{ap, ◌∙◌, subst, length, arith, BTreeMap, String, Global, not}
use Rattle.std.specs.Prelude.{◌==◌, ◌||◌, unwrap_or, if◌then◌else◌, filter, map}
use Rattle.std.specs.Option.{option_map, is_some}
use Rattle.std.specs.Map.{lookup, keys_of, values_of, remove_entry, set_value}
use Rattle.std.specs.Set.{is_member}
use Rattle.std.specs.Str.{bytes_eq}
use Rattle.std.specs.List.{IsDistinct}
use Rattle.std.specs.Ordering.{nat_cmp, eq_by_cmp}
use Rattle.std.specs.Cmp.{IsEquivalence, eq_by_cmp_equiv}
use Rattle.std.specs.Cmp.Lexicographic.{slice_cmp, nat_list_cmp_total}
use Rattle.std.proofs.lemmas.List.{length-map}
use Rattle.std.proofs.lemmas.Map.Made.{length-from_keys, is_some-lookup}
use Rattle.std.proofs.lemmas.Map.Text.{is_eq-slice_cmp}
use Rattle.std.specs.String.{string_cmp, string_cmp_total}
use Rattle.std.specs.BTreeMap.{get_by_text, get, IsOrdered, insert_entry}
use Rattle.std.proofs.lemmas.Slice.Eq.{bytes_eq-Decides}
use Rattle.std.proofs.lemmas.Map.Entries.{sum_by-insert_entry, sum_by-remove_entry, sum_by-set_value}
use Rattle.std.proofs.lemmas.Map.Steps.{set_value_same}
use Rattle.std.proofs.lemmas.List.Filters.{sum_by-filter_both}
use Rattle.std.proofs.lemmas.List.Sums.{sum_by-cons}
use Rattle.std.specs.FinMap as fin
use Rattle.cf_presence.specs.Presence.{Seen, stays, user_count}
use Rattle.cf_presence.specs.Maps.{SetsAt, by_text}
use Rattle.cf_presence.specs.UserCounts.{one_of, clients_with, counted, Tallies, CountsUsers}
use Rattle.cf_presence.proofs.Lists.{user_count-by_text}
use Rattle.cf_presence.proofs.Rooms.{zero_from_test, length-by_bytes}
use Rattle.cf_presence.proofs.Texts.{by_bytes}
use Rattle.cf_presence.proofs.Ticks.{distinct, lookup-by_bytes}

-- a count reads as itself
pub read_counted : (n : ℕ) → unwrap_or (counted n) 0 ≡ n
read_counted n =
    let cases : (b : Bool) → (n == 0) ≡ b → unwrap_or (cond b None (Some n)) 0 ≡ n =
    λ b. elim b as (λ b. (n == 0) ≡ b → unwrap_or (cond b None (Some n)) 0 ≡ n)
    [ true ↦ λ h. sym (zero_from_test n h) | false ↦ λ h. refl ] in
    cases (n == 0) refl

some_more : (n : ℕ) → Some (n + 1) ≡ counted (n + 1)
some_more n =
    let cases : (b : Bool) → (n + 1 == 0) ≡ b → Some (n + 1) ≡ cond b None (Some (n + 1)) =
    λ b. elim b as (λ b. (n + 1 == 0) ≡ b → Some (n + 1) ≡ cond b None (Some (n + 1))) [
      | true ↦ λ h. let no : n + 1 ≡ 0 = zero_from_test (n + 1) h in absurd (omega (arith, no))
      | false ↦ λ h. refl
    ] in
    cases (n + 1 == 0) refl

pub same_counts : (m : BTreeMap (String Global) ℕ) (c c' : List ℕ → ℕ) → Tallies m c → ((u : List ℕ) → c u ≡ c' u)
    → Tallies m c'
same_counts m c c' h e u = h u ∙ ap counted (e u)

-- a map that has the same at each key
pub same_tallies : (m n : BTreeMap (String Global) ℕ) (c : List ℕ → ℕ) → Tallies m c
    → ((q : List ℕ) → get_by_text n q ≡ get_by_text m q) → Tallies n c
same_tallies m n c h e u = e u ∙ h u

pub at_true : (a b : List ℕ) → bytes_eq a b ≡ true → a ≡ b
at_true a b h = grind (arith, h, bytes_eq-Decides a b)

-- one client more of a user
pub added : (m n : BTreeMap (String Global) ℕ) (user : List ℕ) (c : List ℕ → ℕ) → Tallies m c
    → SetsAt m n user (Some (unwrap_or (get_by_text m user) 0 + 1))
    → Tallies n (λ u. c u + (if bytes_eq user u then 1 else 0))
added m n user c h sets u =
    let cases : (b : Bool) → bytes_eq user u ≡ b → cond b (Some (unwrap_or (get_by_text m user) 0 + 1))
    (get_by_text m u) ≡ counted (c u + (cond b 1 0)) =
    λ b. elim b as (λ b. bytes_eq user u ≡ b → cond b (Some (unwrap_or (get_by_text m user) 0 + 1)) (get_by_text m u)
    ≡ counted (c u + (cond b 1 0))) [
      | true ↦ λ t.
          ap (λ n. Some (n + 1)) (ap (λ q. unwrap_or (get_by_text m q) 0) (at_true user u t)
          ∙ ap (λ o. unwrap_or o 0) (h u) ∙ read_counted (c u)) ∙ some_more (c u)
      | false ↦ λ t. h u ∙ ap counted (omega arith)
    ] in
    sets u ∙ cases (bytes_eq user u) refl

-- one client less of a user
pub dropped : (m n : BTreeMap (String Global) ℕ) (user : List ℕ) (c : List ℕ → ℕ) → Tallies m c
    → SetsAt m n user (counted (unwrap_or (get_by_text m user) 0 - 1))
    → Tallies n (λ u. c u - (if bytes_eq user u then 1 else 0))
dropped m n user c h sets u =
    let cases : (b : Bool) → bytes_eq user u ≡ b → cond b (counted (unwrap_or (get_by_text m user) 0 - 1))
    (get_by_text m u) ≡ counted (c u - (cond b 1 0)) =
    λ b. elim b as (λ b. bytes_eq user u ≡ b → cond b (counted (unwrap_or (get_by_text m user) 0 - 1)) (get_by_text m u)
    ≡ counted (c u - (cond b 1 0))) [
      | true ↦ λ t.
          ap (λ n. counted (n - 1)) (ap (λ q. unwrap_or (get_by_text m q) 0) (at_true user u t)
          ∙ ap (λ o. unwrap_or o 0) (h u) ∙ read_counted (c u))
      | false ↦ λ t. h u ∙ ap counted (omega arith)
    ] in
    sets u ∙ cases (bytes_eq user u) refl

-- the clients of a user after an insert
pub insert_weight : (m n : BTreeMap (String Global) Seen) (key : String Global) (v : Seen) (old : Option Seen)
    → IsOrdered string_cmp m → n.entries ≡ insert_entry string_cmp m.entries key v → old ≡ get string_cmp m key
    → (u : List ℕ) → clients_with u (values_of n.entries) + unwrap_or (option_map (one_of u) old) 0
    ≡ clients_with u (values_of m.entries) + one_of u v
insert_weight m n key v old ordered is at u =
    ap (λ es. clients_with u (values_of es) + unwrap_or (option_map (one_of u) old) 0) is
    ∙ ap (λ o. clients_with u (values_of (insert_entry string_cmp m.entries key v))
    + unwrap_or (option_map (one_of u) o) 0) at
    ∙ sum_by-insert_entry (one_of u) string_cmp_total m.entries key v ordered

-- the clients of a user after a remove
pub remove_weight : (m n : BTreeMap (String Global) Seen) (test : String Global → Bool) (old : Option Seen)
    → n.entries ≡ remove_entry test m.entries → old ≡ lookup test m.entries
    → (u : List ℕ) → clients_with u (values_of n.entries) + unwrap_or (option_map (one_of u) old) 0
    ≡ clients_with u (values_of m.entries)
remove_weight m n test old is at u =
    ap (λ es. clients_with u (values_of es) + unwrap_or (option_map (one_of u) old) 0) is
    ∙ ap (λ o. clients_with u (values_of (remove_entry test m.entries)) + unwrap_or (option_map (one_of u) o) 0) at
    ∙ sum_by-remove_entry (one_of u) test m.entries

is_some_one : (n : ℕ) → is_some (counted (1 + n)) ≡ true
is_some_one n =
    let cases : (b : Bool) → (1 + n == 0) ≡ b → is_some (cond b None (Some (1 + n))) ≡ true =
    λ b. elim b as (λ b. (1 + n == 0) ≡ b → is_some (cond b None (Some (1 + n))) ≡ true) [
      | true ↦ λ h. let no : 1 + n ≡ 0 = zero_from_test (1 + n) h in absurd (omega (arith, no))
      | false ↦ λ h. refl
    ] in
    cases (1 + n == 0) refl

same_tests : eq_by_cmp (slice_cmp nat_cmp) ≡ bytes_eq
same_tests = λ i x y. is_eq-slice_cmp x y i

bytes_equiv : IsEquivalence bytes_eq
bytes_equiv = subst IsEquivalence same_tests (eq_by_cmp_equiv nat_list_cmp_total)

one_more : (b : Bool) (n : ℕ) (any : Bool) → is_some (counted n) ≡ any
    → is_some (counted ((if b then 1 else 0) + n)) ≡ (b || any)
one_more true n any h = is_some_one n
one_more false n any h = ap (λ k. is_some (counted k)) (omega arith) ∙ h

-- a user has a count where some client is of this user
pub is_counted : (u : List ℕ) (ss : List Seen)
    → is_some (counted (clients_with u ss)) ≡ is_member bytes_eq (map (λ (s : Seen). s.user) ss) u
is_counted u [] = refl
is_counted u (s ∷ ss) =
    ap (λ n. is_some (counted n)) (sum_by-cons (one_of u) s ss)
    ∙ one_more (bytes_eq s.user u) (clients_with u ss) (is_member bytes_eq (map (λ (s : Seen). s.user) ss) u)
    (is_counted u ss) ∙ ap (λ b. b || is_member bytes_eq (map (λ (s : Seen). s.user) ss) u) (bytes_equiv.symm s.user u)

-- as many users have a count as there are different ones
pub users_len : (m : BTreeMap (String Global) ℕ) (clients : BTreeMap (String Global) Seen) → IsOrdered string_cmp m
    → IsOrdered string_cmp clients → CountsUsers m clients
    → length m.entries ≡ user_count (by_text clients)
users_len m clients ordered clients_ordered h =
    sym (length-by_bytes m.entries) ∙ sym (length-map (by_bytes m.entries) (λ (e : List ℕ × ℕ). e.0))
    ∙ length-from_keys bytes_equiv (keys_of (by_bytes m.entries))
    (map (λ (s : Seen). s.user) (values_of clients.entries))
    (subst (λ (e : List ℕ → List ℕ → Bool). IsDistinct e (keys_of (by_bytes m.entries))) same_tests
    (distinct m ordered))
    (λ q.
    ap (λ (e : List ℕ → List ℕ → Bool). is_member e (keys_of (by_bytes m.entries)) q) (sym same_tests)
    ∙ sym (is_some-lookup (eq_by_cmp (slice_cmp nat_cmp) q) (by_bytes m.entries))
    ∙ ap is_some (sym (lookup-by_bytes q m.entries)) ∙ ap is_some (h q) ∙ is_counted q (values_of clients.entries))
    ∙ sym (user_count-by_text clients clients_ordered)

-- the clients that are gone at a moment
abbrev pub gone : ℕ → List Seen → List Seen
gone now ss = filter (λ (s : Seen). not (stays now s)) ss

-- before any client was passed
pub none_passed : (now : ℕ) (m : BTreeMap (String Global) ℕ) (all rest : List Seen)
    → Tallies m (λ u. clients_with u all) → rest ≡ all
    → Tallies m (λ u. clients_with u (filter (stays now) all) + clients_with u (gone now rest))
none_passed now m all rest h is =
    same_counts m _ _ h (λ u.
    sym (sum_by-filter_both (stays now) (λ (s : Seen). not (stays now s)) (λ s. refl) (one_of u) all)
    ∙ ap (λ r. clients_with u (filter (stays now) all) + clients_with u (gone now r)) (sym is))

gone_one : (now : ℕ) (rest new : List Seen) (e : Seen) → rest ≡ e ∷ new → stays now e ≡ false → (u : List ℕ)
    → clients_with u (gone now rest) ≡ one_of u e + clients_with u (gone now new)
gone_one now rest new e first is u =
    ap (λ r. clients_with u (gone now r)) first ∙ ap
    (λ b. clients_with u (cond (not b) (e ∷ gone now new) (gone now new))) is
    ∙ sum_by-cons (one_of u) e (gone now new)

-- a client that is gone is counted no more
pub drops_gone : (now : ℕ) (m n : BTreeMap (String Global) ℕ) (kept : List ℕ → ℕ) (rest new : List Seen) (e : Seen)
    (user : List ℕ) → Tallies m (λ u. kept u + clients_with u (gone now rest))
    → SetsAt m n user (counted (unwrap_or (get_by_text m user) 0 - 1)) → rest ≡ e ∷ new → stays now e ≡ false
    → user ≡ e.user → Tallies n (λ u. kept u + clients_with u (gone now new))
drops_gone now m n kept rest new e user h sets first is same =
    same_counts n _ _ (dropped m n user _ h sets) (λ u.
    let one = gone_one now rest new e first is u in
    let alike : (if bytes_eq user u then 1 else 0) ≡ one_of u e = ap (λ q. if bytes_eq q u then 1 else 0) same in
    omega (arith, one, alike))

-- what is left once all were passed
pub all_passed : (now : ℕ) (m : BTreeMap (String Global) ℕ) (kept : List ℕ → ℕ) (rest : List Seen)
    → Tallies m (λ u. kept u + clients_with u (gone now rest)) → rest ≡ [] → Tallies m kept
all_passed now m kept rest h none =
    same_counts m _ _ h (λ u. let left = ap (λ r. clients_with u (gone now r)) none in omega (arith, left))

-- a client that was looked at, and stays as it was
pub looked_at : (m n : BTreeMap (String Global) Seen) (test : String Global → Bool) (v : Seen)
    → n.entries ≡ set_value test m.entries v → lookup test m.entries ≡ Some v → n.entries ≡ m.entries
looked_at m n test v is at = is ∙ set_value_same test m.entries v at

-- a client whose moment is set anew
pub renew_weight : (m n : BTreeMap (String Global) Seen) (test : String Global → Bool) (v w : Seen)
    → n.entries ≡ set_value test m.entries w → lookup test m.entries ≡ Some v → w.user ≡ v.user
    → (u : List ℕ) → clients_with u (values_of n.entries) ≡ clients_with u (values_of m.entries)
renew_weight m n test v w is at same u =
    let sums = sum_by-set_value (one_of u) test m.entries v w at in
    let alike : one_of u w ≡ one_of u v = ap (λ q. if bytes_eq q u then 1 else 0) same in
    let new = ap (λ es. clients_with u (values_of es)) is in
    omega (arith, new, sums, alike)

-- the counts once a client has left
pub left_counts : (users users' : BTreeMap (String Global) ℕ) (m n : BTreeMap (String Global) Seen)
    (test : String Global → Bool) (v : Seen) (user : List ℕ) → CountsUsers users m
    → n.entries ≡ remove_entry test m.entries
    → Some v ≡ lookup test m.entries → user ≡ v.user
    → SetsAt users users' user (counted (unwrap_or (get_by_text users user) 0 - 1)) → CountsUsers users' n
left_counts users users' m n test v user h is at same sets =
    same_counts users' _ _ (dropped users users' user _ h sets) (λ u.
    let w : clients_with u (values_of n.entries) + one_of u v ≡ clients_with u (values_of m.entries) =
    remove_weight m n test (Some v) is at u in
    let alike : (if bytes_eq user u then 1 else 0) ≡ one_of u v = ap (λ q. if bytes_eq q u then 1 else 0) same in
    omega (arith, w, alike))

-- the counts once a client has entered for the first time
pub entered_counts : (users users' : BTreeMap (String Global) ℕ) (m n : BTreeMap (String Global) Seen)
    (key : String Global) (v : Seen) (user : List ℕ) → CountsUsers users m → IsOrdered string_cmp m
    → n.entries ≡ insert_entry string_cmp m.entries key v → None ≡ get string_cmp m key → user ≡ v.user
    → SetsAt users users' user (Some (unwrap_or (get_by_text users user) 0 + 1)) → CountsUsers users' n
entered_counts users users' m n key v user h ordered is at same sets =
    same_counts users' _ _ (added users users' user _ h sets) (λ u.
    let w : clients_with u (values_of n.entries) + 0 ≡ clients_with u (values_of m.entries) + one_of u v =
    insert_weight m n key v None ordered is at u in
    let alike : (if bytes_eq user u then 1 else 0) ≡ one_of u v = ap (λ q. if bytes_eq q u then 1 else 0) same in
    omega (arith, w, alike))

-- the counts once a client has entered again, under another user
pub moved_counts : (users users' users'' : BTreeMap (String Global) ℕ) (m n : BTreeMap (String Global) Seen)
    (key : String Global) (v before : Seen) (user old : List ℕ) → CountsUsers users m → IsOrdered string_cmp m
    → n.entries ≡ insert_entry string_cmp m.entries key v → Some before ≡ get string_cmp m key → user ≡ v.user
    → old ≡ before.user
    → SetsAt users users' user (Some (unwrap_or (get_by_text users user) 0 + 1))
    → SetsAt users' users'' old (counted (unwrap_or (get_by_text users' old) 0 - 1)) → CountsUsers users'' n
moved_counts users users' users'' m n key v before user old h ordered is at same same' sets sets' =
    same_counts users'' _ _ (dropped users' users'' old _ (added users users' user _ h sets) sets') (λ u.
    let w : clients_with u (values_of n.entries) + one_of u before ≡ clients_with u (values_of m.entries) + one_of u v =
    insert_weight m n key v (Some before) ordered is at u in
    let alike : (if bytes_eq user u then 1 else 0) ≡ one_of u v = ap (λ q. if bytes_eq q u then 1 else 0) same in
    let alike' : (if bytes_eq old u then 1 else 0) ≡ one_of u before = ap (λ q. if bytes_eq q u then 1 else 0) same' in
    omega (arith, w, alike, alike'))

-- the counts after an enter that was taken back
pub undone_counts : (users users' users'' : BTreeMap (String Global) ℕ) (c : List ℕ → ℕ) (user : List ℕ)
    → Tallies users c
    → SetsAt users users' user (Some (unwrap_or (get_by_text users user) 0 + 1))
    → SetsAt users' users'' user (counted (unwrap_or (get_by_text users' user) 0 - 1)) → Tallies users'' c
undone_counts users users' users'' c user h sets sets' =
    same_counts users'' _ _ (dropped users' users'' user _ (added users users' user _ h sets) sets') (λ u. omega arith)

-- the users of the clients that stay
pub values_filter : (now : ℕ) (es : List (String Global × Seen))
    → values_of (filter (λ (e : String Global × Seen). stays now e.1) es) ≡ filter (stays now) (values_of es)
values_filter now [] = refl
values_filter now (e ∷ es) =
    elim (stays now e.1) as (λ b. values_of (cond b (e ∷ filter (λ (e : String Global × Seen). stays now e.1) es)
    (filter (λ (e : String Global × Seen). stays now e.1) es))
    ≡ cond b (e.1 ∷ filter (stays now) (values_of es)) (filter (stays now) (values_of es))) [
      | true ↦ ap (λ l. e.1 ∷ l) (values_filter now es)
      | false ↦ values_filter now es
    ]

pub same_entries : (m n : BTreeMap (String Global) Seen) → n.entries ≡ m.entries → by_text n ≡ by_text m
same_entries m n is = ap (λ es. fin.from_entries {R = slice_cmp nat_cmp} (by_bytes es)) is
