-- The users of a presence, written by their clients' ids and read again.
use Rattle.std.proofs.Common.{◌≡◌, ℕ, List, [], ◌∷◌, ◌++◌, map, Bool, true, false, ◌&&◌, T, inl, inr, Some, refl, sym}
use Rattle.std.proofs.Common.{ap, subst, ◌∙◌, append_assoc, append-nil, codes, option_map}
use Rattle.std.specs.Prelude.{not, filter}
use Rattle.std.specs.List.{AllByRecursion}
use Rattle.std.specs.Ordering.{nat_cmp, is_lt}
use Rattle.std.specs.Cmp.{tied_itself}
use Rattle.std.specs.Cmp.Lexicographic.{slice_cmp, nat_list_cmp_total}
use Rattle.std.specs.FinMap.{entries, entries_sorted, same_entries_map, from_entries}
use Rattle.std.specs.FinMap.Entries.{below_all, is_sorted}
use Rattle.std.specs.Str.{bytes_eq}
use Rattle.std.proofs.lemmas.Bool.{cases_Bool}
use Rattle.std.proofs.lemmas.Slice.Eq.{bytes_eq-Decides}
use Rattle.cf_json.specs.Grammar.{Tree}
use Rattle.cf_json.specs.Members.{Fields, put, members_onto}
use Rattle.cf_protocol.specs.Datum.{Who}
use Rattle.cf_protocol.specs.Outgoing.{Users, Present}
use Rattle.cf_protocol.specs.Fields.{◌>>=◌, read_all, look_up, object_as}
use Rattle.cf_protocol.specs.Reply as reading
use Rattle.cf_protocol.specs.Reply.{is_there, user_at, users_of, present_users}
use Rattle.cf_protocol.specs.Written.{object_of, parts_of, inner, client, info, presence}
use Rattle.cf_protocol.proofs.JsonLaws.{JsonLaws}
use Rattle.cf_protocol.proofs.Lookups.{slot, read_object}
use Rattle.cf_protocol.proofs.Readings.{reads, read_text}
use Rattle.cf_protocol.proofs.Clients.{sorted_entries}

abbrev User : Type 0
User = List ℕ × List ℕ

-- ---- who

pub read_who : JsonLaws → (r : Fields) (w : Who) → ((k : List ℕ) → look_up k r ≡ slot k (info w))
    → reading.info r ≡ Some w
read_who j r w at =
    reads _ (read_text j r "client" w.client (at (codes "client")))
    (reads _ (read_text j r "user" w.user (at (codes "user"))) refl)

abbrev member_of : User → List ℕ × Tree
member_of u = (u.0, object_of (info (record { client = u.0; user = u.1 })))

read_user : JsonLaws → (u : User) → user_at (member_of u) ≡ Some u
read_user j u =
    let w : Who = record { client = u.0; user = u.1 } in
    read_object (λ r. reading.info r >>= λ who. Some (u.0, who.user)) (info w) (Some u) refl
    (λ r at. reads _ (read_who j r w at) refl)

read_users : JsonLaws → (us : List User) → read_all user_at (map member_of us) ≡ Some us
read_users j [] = refl
read_users j (u ∷ us) = reads _ (read_user j u) (ap (option_map (λ l. u ∷ l)) (read_users j us))

-- ---- members with different keys

abbrev IsNew : List ℕ → Fields → Type 0
IsNew k = AllByRecursion (λ f. bytes_eq f.0 k ≡ false)

abbrev AreNew : Fields → List User → Type 0
AreNew fs = AllByRecursion (λ u. IsNew u.0 fs)

all_stay : (k : List ℕ) (fs : Fields) → IsNew k fs → filter (λ f. not (bytes_eq f.0 k)) fs ≡ fs
all_stay k [] h = refl
all_stay k (f ∷ fs) h = rw (h.0, all_stay k fs h.1) refl

put_new : (k : List ℕ) (t : Tree) (fs : Fields) → IsNew k fs → put fs (k, t) ≡ fs ++ (k, t) ∷ []
put_new k t fs h = ap (λ l. l ++ (k, t) ∷ []) (all_stay k fs h)

new_push : (k x : List ℕ) (t : Tree) (fs : Fields) → IsNew k fs → bytes_eq x k ≡ false → IsNew k (fs ++ (x, t) ∷ [])
new_push k x t [] h e = (e, tt)
new_push k x t (f ∷ fs) h e = (h.0, new_push k x t fs h.1 e)

differs : (x y : List ℕ) → T (is_lt (slice_cmp nat_cmp x y)) → bytes_eq x y ≡ false
differs x y h =
    elim (cases_Bool (bytes_eq x y)) [
      | inl e ↦ absurd (subst (λ o. T (is_lt o)) (tied_itself nat_list_cmp_total x)
          (subst (λ z. T (is_lt (slice_cmp nat_cmp x z))) (sym ((bytes_eq-Decides x y).0 e)) h))
      | inr e ↦ e
    ]

left : (a b : Bool) → T (a && b) → T a
left true b h = tt
left false b h = absurd h

right : (a b : Bool) → T (a && b) → T b
right true b h = h
right false b h = absurd h

are_new_push : (fs : Fields) (x : List ℕ) (t : Tree) (us : List User) → T (below_all (slice_cmp nat_cmp) x us)
    → AreNew fs us → AreNew (fs ++ (x, t) ∷ []) us
are_new_push fs x t [] b h = tt
are_new_push fs x t (u ∷ us) b h =
    (new_push u.0 x t fs h.0 (differs x u.0 (left _ _ b)), are_new_push fs x t us (right _ _ b) h.1)

users_onto : JsonLaws → (fs : Fields) (us : List User) → T (is_sorted (slice_cmp nat_cmp) us) → AreNew fs us
    → members_onto fs (parts_of (map client us)) ≡ Some (fs ++ map member_of us)
users_onto j fs [] s h = ap Some (sym (append-nil fs))
users_onto j fs (u ∷ us) s h =
    let t = object_of (info (record { client = u.0; user = u.1 })) in
    let ps = parts_of (map client us) in
    reads (λ c. members_onto (put fs (c, t)) ps) (j.read u.0)
    (ap (λ l. members_onto l ps) (put_new u.0 t fs h.0)
    ∙ users_onto j (fs ++ (u.0, t) ∷ []) us (right _ _ s) (are_new_push fs u.0 t us (left _ _ s) h.1)
    ∙ ap Some (append_assoc fs ((u.0, t) ∷ []) (map member_of us)))

none_known : (us : List User) → AreNew [] us
none_known [] = tt
none_known (u ∷ us) = (tt, none_known us)

-- ---- the users

all_there : (us : List User) → filter is_there (map member_of us) ≡ map member_of us
all_there [] = refl
all_there (u ∷ us) = ap (λ fs. member_of u ∷ fs) (all_there us)

read_listed : JsonLaws → (us : List User) → T (is_sorted (slice_cmp nat_cmp) us)
    → object_as users_of (object_of (map client us)) ≡ Some us
read_listed j us s =
    reads _ (users_onto j [] us s (none_known us)) (ap (read_all user_at) (all_there us) ∙ read_users j us)

same_users : (users : Users) → from_entries (entries users) ≡ users
same_users users =
    same_entries_map (from_entries (entries users)) users (sorted_entries (entries users) (entries_sorted users))

listed_or : JsonLaws → (us : List User) → T (is_sorted (slice_cmp nat_cmp) us) → (r : Fields)
    → look_up (codes "presence") r ≡ inner (map client us)
    → present_users r ≡ Some (Present (from_entries us))
listed_or j [] s r e = rw e refl
listed_or j (u ∷ us) s r e = rw e (reads _ (read_listed j (u ∷ us) s) refl)

pub read_present : JsonLaws → (users : Users)
    → object_as present_users (object_of (presence users)) ≡ Some (Present users)
read_present j users =
    read_object present_users (presence users) (Some (Present users)) refl (λ r at.
    listed_or j (entries users) (entries_sorted users) r (at (codes "presence"))
    ∙ ap (λ m. Some (Present m)) (same_users users))
