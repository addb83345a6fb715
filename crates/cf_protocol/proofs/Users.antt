-- The clients of a presence, put into a map one after another.
use Rattle.std.proofs.Common.{◌≡◌, ◌≢◌, ℕ, suc, ◌+◌, ◌≤◌, length, List, [], ◌∷◌, ◌++◌, map, drop, Bool, true, false}
use Rattle.std.proofs.Common.{cond, Option, Some, None, option_map, refl, sym, ap, subst, ◌∙◌, add-one}
use Rattle.std.proofs.lemmas.Bool.{cases_Bool, false≢true}
use Rattle.std.proofs.Common.{inl, inr}
use Rattle.std.specs.Prelude.{⊤, not, filter, String, string_bytes, string_cmp, option_and_then}
use Rattle.std.specs.Ordering.{nat_cmp, eq_by_cmp, is_eq, match_ordering}
use Rattle.std.specs.declared.cmp.Ordering.{Ordering}
use Rattle.std.specs.declared.cmp.Ordering.TheVariants.{Less, Equal, Greater}
use Rattle.std.specs.List.{AllByRecursion}
use Rattle.std.specs.Str.{bytes_eq}
use Rattle.std.proofs.lemmas.Slice.Eq.{bytes_eq-Decides}
use Rattle.std.specs.Cmp.Lexicographic.{slice_cmp, nat_list_cmp_total}
use Rattle.std.specs.BTreeMap.{BTreeMap, insert_entry}
use Rattle.std.specs.Option.{unwrap_or}
use Rattle.std.specs.FinMap.{IsAntisymmetric, from_entries, insert, get-from_entries, get-insert, same_map}
use Rattle.std.specs.FinMap.{from_entries_push, slice_cmp-IsAntisymmetric, nat_cmp-IsAntisymmetric}
use Rattle.std.specs.FinMap.Entries.{find, put, find-put, by_order}
use Rattle.std.specs.declared.alloc.Global.{Global}
use Rattle.cf_json.specs.Grammar.{Tree, null, boolean, number, text as string, array, object, Parts, no_parts, part}
use Rattle.cf_json.specs.Characters.{characters}
use Rattle.cf_json.specs.Members as json
use Rattle.cf_protocol.specs.Datum.{Who}
use Rattle.cf_protocol.specs.Fields.{Fields, both, members_onto, as_object, object_as, read_all}
use Rattle.cf_protocol.specs.Reply.{info, is_there, user_at, users_of}
use Rattle.cf_protocol.specs.Shown.{shown_users}
use Rattle.cf_protocol.specs.Writing.{bytes_of}
use Rattle.cf_protocol.proofs.ItemsRead.{GoesOn, one_first, all_dropped, nothing_last}

abbrev Entry : Type 0
Entry = List ℕ × List ℕ

abbrev by_bytes : List ℕ → List ℕ → Ordering
by_bytes = slice_cmp nat_cmp

-- ---- keys that are all different

abbrev pub keys_of : {A : Type 0} → List (List ℕ × A) → List (List ℕ)
keys_of = map (λ f. f.0)

abbrev pub IsNew : List ℕ → List (List ℕ) → Type 0
IsNew k = AllByRecursion (λ l. l ≢ k)

abbrev pub Differ : List (List ℕ) → Type 0
Differ [] = ⊤
Differ (k ∷ ks) = AllByRecursion (λ l. k ≢ l) ks × Differ ks

kept : {A : Type 0} (P : List ℕ → Type 0) (p : List ℕ × A → Bool) (ms : List (List ℕ × A))
    → AllByRecursion P (keys_of ms) → AllByRecursion P (keys_of (filter p ms))
kept P p [] h = tt
kept P p (m ∷ ms) h =
    elim (p m) as (λ b. AllByRecursion P (keys_of (cond b (m ∷ filter p ms) (filter p ms)))) [
      | true ↦ (h.0, kept P p ms h.1)
      | false ↦ kept P p ms h.1
    ]

differ_still : {A : Type 0} (p : List ℕ × A → Bool) (ms : List (List ℕ × A)) → Differ (keys_of ms)
    → Differ (keys_of (filter p ms))
differ_still p [] h = tt
differ_still p (m ∷ ms) h =
    elim (p m) as (λ b. Differ (keys_of (cond b (m ∷ filter p ms) (filter p ms)))) [
      | true ↦ (kept (λ l. m.0 ≢ l) p ms h.0, differ_still p ms h.1)
      | false ↦ differ_still p ms h.1
    ]

one_more : {A : Type 0} (P : List ℕ → Type 0) (ms : List (List ℕ × A)) (m : List ℕ × A) → AllByRecursion P (keys_of ms)
    → P m.0 → AllByRecursion P (keys_of (ms ++ m ∷ []))
one_more P [] m h p = (p, tt)
one_more P (n ∷ ms) m h p = (h.0, one_more P ms m h.1 p)

differ_more : {A : Type 0} (ms : List (List ℕ × A)) (m : List ℕ × A) → Differ (keys_of ms) → IsNew m.0 (keys_of ms)
    → Differ (keys_of (ms ++ m ∷ []))
differ_more [] m h new = (tt, tt)
differ_more (n ∷ ms) m h new = (one_more (λ l. n.0 ≢ l) ms m h.0 new.0, differ_more ms m h.1 new.1)

others : {A : Type 0} (k : List ℕ) (ms : List (List ℕ × A)) → IsNew k (keys_of (filter (λ f. not (bytes_eq f.0 k)) ms))
others k [] = tt
others k (m ∷ ms) =
    elim (cases_Bool (bytes_eq m.0 k)) [
      | inl e ↦ rw e (others k ms)
      | inr e ↦ rw e ((λ same. false≢true (sym e ∙ (bytes_eq-Decides m.0 k).1 same)), others k ms)
    ]

onto_differ : (acc : Fields) (ps : Parts) (fs : Fields) → Differ (keys_of acc) → members_onto acc ps ≡ Some fs
    → Differ (keys_of fs)
onto_differ acc no_parts fs h e = subst (λ o. Differ (keys_of (unwrap_or o []))) e h
onto_differ acc (part k t ps) fs h e =
    elim (characters k) as (λ o. option_and_then (λ c. members_onto (json.put acc (c, t)) ps) o ≡ Some fs
    → Differ (keys_of fs)) [
      | None ↦ λ n. cc
      | Some c ↦ λ n.
          let before = filter (λ f. not (bytes_eq f.0 c)) acc in
          onto_differ (json.put acc (c, t)) ps fs (differ_more before (c, t)
          (differ_still (λ f. not (bytes_eq f.0 c)) acc h) (others c acc)) n
    ] e

pub fields_differ : (t : Tree) (fs : Fields) → as_object t ≡ Some fs → Differ (keys_of fs)
fields_differ (object ps) fs e = onto_differ [] ps fs tt e
fields_differ null fs e = cc
fields_differ (boolean b) fs e = cc
fields_differ (number n) fs e = cc
fields_differ (string c) fs e = cc
fields_differ (array ps) fs e = cc

middle : (P : List ℕ → Type 0) (ks : List (List ℕ)) (k : List ℕ) (bs : List (List ℕ)) → AllByRecursion P (ks ++ k ∷ bs)
    → P k
middle P [] k bs h = h.0
middle P (a ∷ ks) k bs h = middle P ks k bs h.1

new : (ks : List (List ℕ)) (k : List ℕ) (bs : List (List ℕ)) → Differ (ks ++ k ∷ bs) → IsNew k ks
new [] k bs h = tt
new (a ∷ ks) k bs h = (middle (λ l. a ≢ l) ks k bs h.0, new ks k bs h.1)

equal : (r : Ordering) → is_eq r ≡ true → r ≡ Equal
equal Less e = cc
equal Equal e = refl
equal Greater e = cc

only_equal : IsAntisymmetric by_bytes
only_equal = slice_cmp-IsAntisymmetric nat_cmp-IsAntisymmetric

none_found : (k : List ℕ) (us : List Entry) → IsNew k (keys_of us) → find by_bytes k us ≡ None
none_found k [] h = refl
none_found k (u ∷ us) h =
    elim (cases_Bool (is_eq (by_bytes k u.0))) [
      | inl e ↦ absurd (h.0 (sym (only_equal k u.0 (equal (by_bytes k u.0) e))))
      | inr e ↦ rw e (none_found k us h.1)
    ]

-- ---- the map

bytes_put : (us : List (String Global × String Global)) (k v : String Global)
    → bytes_of (insert_entry string_cmp us k v) ≡ put by_bytes (string_bytes k) (string_bytes v) (bytes_of us)
bytes_put [] k v = refl
bytes_put (u ∷ us) k v =
    elim (by_bytes (string_bytes k) (string_bytes u.0)) as
    (λ r. bytes_of (match_ordering r ((k, v) ∷ u ∷ us) ((u.0, v) ∷ us) (u ∷ insert_entry string_cmp us k v))
    ≡ by_order r ((string_bytes k, string_bytes v) ∷ bytes_of (u ∷ us))
    ((string_bytes u.0, string_bytes v) ∷ bytes_of us)
    ((string_bytes u.0, string_bytes u.1) ∷ put by_bytes (string_bytes k) (string_bytes v) (bytes_of us))) [
      | Less ↦ refl
      | Equal ↦ refl
      | Greater ↦ ap (λ es. (string_bytes u.0, string_bytes u.1) ∷ es) (bytes_put us k v)
    ]

put_is_insert : (us : List Entry) (k v : List ℕ)
    → from_entries {R = by_bytes} (put by_bytes k v us) ≡ insert (from_entries {R = by_bytes} us) k v
put_is_insert us k v =
    same_map nat_list_cmp_total only_equal (from_entries (put by_bytes k v us)) (insert (from_entries us) k v) (λ q.
    get-from_entries nat_list_cmp_total (put by_bytes k v us) q ∙ find-put by_bytes nat_list_cmp_total q k v us
    ∙ ap (λ o. cond (eq_by_cmp by_bytes q k) (Some v) o) (sym (get-from_entries nat_list_cmp_total us q))
    ∙ sym (get-insert nat_list_cmp_total (from_entries us) k v q))

-- ---- a loop over the clients

-- the users of the first i clients are read and in the map
pub record Gathered (fs : Fields) (i : ℕ) (users : BTreeMap (String Global) (String Global)) : Type 0 where
  pub read : List Entry
  pub are : users_of fs ≡ option_map (λ ys. read ++ ys) (users_of (drop i fs))
  pub keys : Differ (keys_of read ++ keys_of (drop i fs))
  pub shown : shown_users users ≡ from_entries read

joins : (ks : List (List ℕ)) (k : List ℕ) (bs : List (List ℕ)) → ks ++ k ∷ bs ≡ (ks ++ k ∷ []) ++ bs
joins [] k bs = refl
joins (a ∷ ks) k bs = ap (λ ls. a ∷ ls) (joins ks k bs)

keys_push : (us : List Entry) (k v : List ℕ) → keys_of (us ++ (k, v) ∷ []) ≡ keys_of us ++ k ∷ []
keys_push [] k v = refl
keys_push (u ∷ us) k v = ap (λ ks. u.0 ∷ ks) (keys_push us k v)

all_without : (P : List ℕ → Type 0) (ks : List (List ℕ)) (k : List ℕ) (bs : List (List ℕ))
    → AllByRecursion P (ks ++ k ∷ bs) → AllByRecursion P (ks ++ bs)
all_without P [] k bs h = h.1
all_without P (a ∷ ks) k bs h = (h.0, all_without P ks k bs h.1)

differ_without : (ks : List (List ℕ)) (k : List ℕ) (bs : List (List ℕ)) → Differ (ks ++ k ∷ bs) → Differ (ks ++ bs)
differ_without [] k bs h = h.1
differ_without (a ∷ ks) k bs h = (all_without (λ l. a ≢ l) ks k bs h.0, differ_without ks k bs h.1)

user_is : (f : List ℕ × Tree) (who : Who) → object_as info f.1 ≡ Some who → user_at f ≡ Some (f.0, who.user)
user_is f who e =
    let entry : Who → Option Entry = λ w. Some (f.0, w.user) in
    elim (as_object f.1) as (λ o. option_and_then info o ≡ Some who
    → option_and_then (λ r. option_and_then entry (info r)) o ≡ entry who) [
      | None ↦ λ n. cc
      | Some r ↦ λ n. ap (option_and_then entry) n
    ] e

no_user : (f : List ℕ × Tree) → object_as info f.1 ≡ None → user_at f ≡ None
no_user f e =
    let entry : Who → Option Entry = λ w. Some (f.0, w.user) in
    elim (as_object f.1) as (λ o. option_and_then info o ≡ None
    → option_and_then (λ r. option_and_then entry (info r)) o ≡ None) [
      | None ↦ λ n. refl
      | Some r ↦ λ n. ap (option_and_then entry) n
    ] e

-- the client at hand, by whether it is there
users_by : (fs : Fields) (i : ℕ) (f : List ℕ × Tree) → GoesOn fs i f
    → users_of (drop i fs) ≡ read_all user_at (cond (is_there f) (f ∷ filter is_there (drop (suc i) fs))
    (filter is_there (drop (suc i) fs)))
users_by fs i f goes = ap users_of goes

users_with : (fs : Fields) (i : ℕ) (f : List ℕ × Tree) → GoesOn fs i f → is_there f ≡ true
    → users_of (drop i fs) ≡ both (user_at f) (users_of (drop (suc i) fs))
users_with fs i f goes e =
    users_by fs i f goes ∙ ap (λ b. read_all user_at
    (cond b (f ∷ filter is_there (drop (suc i) fs)) (filter is_there (drop (suc i) fs)))) e

users_without : (fs : Fields) (i : ℕ) (f : List ℕ × Tree) → GoesOn fs i f → is_there f ≡ false
    → users_of (drop i fs) ≡ users_of (drop (suc i) fs)
users_without fs i f goes e =
    users_by fs i f goes ∙ ap (λ b. read_all user_at
    (cond b (f ∷ filter is_there (drop (suc i) fs)) (filter is_there (drop (suc i) fs)))) e

-- the keys at hand and behind
keys_by : (fs : Fields) (i : ℕ) (us : List Entry) (f : List ℕ × Tree) → GoesOn fs i f
    → Differ (keys_of us ++ keys_of (drop i fs)) → Differ (keys_of us ++ f.0 ∷ keys_of (drop (suc i) fs))
keys_by fs i us f goes h = subst (λ gs. Differ (keys_of us ++ keys_of gs)) goes h

as_it_is : {A : Type 0} (o : Option (List A)) → o ≡ option_map (λ ys. ys) o
as_it_is None = refl
as_it_is (Some ys) = refl

pub gathered_none : (t : Tree) (fs : Fields) (users : BTreeMap (String Global) (String Global)) → as_object t ≡ Some fs
    → users.entries ≡ [] → Gathered fs 0 users
gathered_none t fs users is_object empty =
    record {
      read = [];
      are = as_it_is (users_of fs);
      keys = fields_differ t fs is_object;
      shown = ap (λ us. from_entries {R = by_bytes} (bytes_of us)) empty;
    }

pub gathered_one : (fs : Fields) (i : ℕ) (users more : BTreeMap (String Global) (String Global)) (f : List ℕ × Tree)
    (who : Who) (k v : String Global)
    → Gathered fs i users → GoesOn fs i f → is_there f ≡ true → string_bytes k ≡ f.0 → object_as info f.1 ≡ Some who
    → string_bytes v ≡ who.user
    → more.entries ≡ insert_entry string_cmp users.entries k v → Gathered fs (i + 1) more
gathered_one fs i users more f who k v g goes there is_key is_info is_user puts =
    let differ = keys_by fs i g.read f goes g.keys in
    let is_new = new (keys_of g.read) f.0 (keys_of (drop (suc i) fs)) differ in
    let none = none_found f.0 g.read is_new in
    let rest = users_of (drop (suc i) fs) in
    record {
      read = g.read ++ (f.0, who.user) ∷ [];
      are =
          subst (λ n. users_of fs ≡ option_map (λ ys. (g.read ++ (f.0, who.user) ∷ []) ++ ys) (users_of (drop n fs)))
          (sym (add-one i)) (
          g.are ∙ ap (option_map (λ ys. g.read ++ ys)) (users_with fs i f goes there
          ∙ ap (λ o. both o rest) (user_is f who is_info)) ∙ one_first g.read (f.0, who.user) rest);
      keys =
          subst (λ n. Differ (keys_of (g.read ++ (f.0, who.user) ∷ []) ++ keys_of (drop n fs))) (sym (add-one i)) (
          subst Differ (joins (keys_of g.read) f.0 (keys_of (drop (suc i) fs))
          ∙ ap (λ ks. ks ++ keys_of (drop (suc i) fs)) (sym (keys_push g.read f.0 who.user))) differ);
      shown =
          ap (λ us. from_entries {R = by_bytes} (bytes_of us)) puts
          ∙ ap (λ us. from_entries {R = by_bytes} us) (bytes_put users.entries k v)
          ∙ put_is_insert (bytes_of users.entries) (string_bytes k) (string_bytes v)
          ∙ ap (λ m. insert m (string_bytes k) (string_bytes v)) g.shown
          ∙ ap (λ l. insert (from_entries {R = by_bytes} g.read) l (string_bytes v)) is_key
          ∙ ap (λ l. insert (from_entries {R = by_bytes} g.read) f.0 l) is_user
          ∙ sym (from_entries_push nat_list_cmp_total only_equal g.read f.0 who.user none);
    }

pub gathered_past : (fs : Fields) (i : ℕ) (users : BTreeMap (String Global) (String Global)) (f : List ℕ × Tree)
    → Gathered fs i users → GoesOn fs i f → is_there f ≡ false → Gathered fs (i + 1) users
gathered_past fs i users f g goes there =
    record {
      read = g.read;
      are = subst (λ n. users_of fs ≡ option_map (λ ys. g.read ++ ys) (users_of (drop n fs))) (sym (add-one i))
          (g.are ∙ ap (option_map (λ ys. g.read ++ ys)) (users_without fs i f goes there));
      keys =
          subst (λ n. Differ (keys_of g.read ++ keys_of (drop n fs))) (sym (add-one i))
          (differ_without (keys_of g.read) f.0 (keys_of (drop (suc i) fs)) (keys_by fs i g.read f goes g.keys));
      shown = g.shown;
    }

pub gathered_stops : (fs : Fields) (i : ℕ) (users : BTreeMap (String Global) (String Global)) (f : List ℕ × Tree)
    → Gathered fs i users → GoesOn fs i f → is_there f ≡ true → object_as info f.1 ≡ None → users_of fs ≡ None
gathered_stops fs i users f g goes there e =
    g.are ∙ ap (option_map (λ ys. g.read ++ ys)) (users_with fs i f goes there
    ∙ ap (λ o. both o (users_of (drop (suc i) fs))) (no_user f e))

pub gathered_all : (fs : Fields) (i : ℕ) (users : BTreeMap (String Global) (String Global)) → Gathered fs i users
    → length fs ≤ i → option_map from_entries (users_of fs) ≡ Some (shown_users users)
gathered_all fs i users g h =
    ap (option_map from_entries) (g.are ∙ ap (λ gs. option_map (λ ys. g.read ++ ys) (users_of gs)) (all_dropped fs i h)
    ∙ ap Some (nothing_last g.read)) ∙ ap Some (sym g.shown)
