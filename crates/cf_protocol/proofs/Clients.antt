-- The clients of a presence, written one after another.
use Rattle.std.proofs.Common.{◌≡◌, ℕ, List, [], ◌∷◌, ◌++◌, map, Bool, true, false, ◌&&◌, refl, sym, ap, subst, ◌∙◌}
use Rattle.std.specs.Prelude.{String, string_bytes, string_cmp}
use Rattle.std.specs.Borrow.{Bor}
use Rattle.std.specs.List.{AllByRecursion}
use Rattle.std.specs.List.Sorted.{IsStrictlySortedBy}
use Rattle.std.specs.Map.Iter.{deref_pair}
use Rattle.std.specs.declared.alloc.Global.{Global}
use Rattle.std.specs.Prelude.{◌<◌, length, codes}
use Rattle.std.proofs.Common.{arith}
use Rattle.std.specs.Prelude.{T}
use Rattle.std.specs.declared.cmp.Ordering.TheVariants.{Less}
use Rattle.std.specs.Ordering.{nat_cmp}
use Rattle.std.specs.Cmp.Lexicographic.{slice_cmp, nat_list_cmp_total}
use Rattle.std.specs.BTreeMap.{BTreeMap, IsOrdered}
use Rattle.std.specs.FinMap.{entries, from_entries, from_sorted, entries-from_sorted, get-from_sorted, get-from_entries}
use Rattle.std.specs.FinMap.{same_map, slice_cmp-IsAntisymmetric, nat_cmp-IsAntisymmetric}
use Rattle.std.specs.FinMap.Entries.{below_all, is_sorted}
use Rattle.cf_protocol.specs.Shown.{shown_users}
use Rattle.cf_protocol.specs.Written.{Member, ◌⇒◌, inner, client, presence}
use Rattle.cf_protocol.proofs.Writings.{stands, absent}
use Rattle.cf_protocol.specs.Writing.{Adds, bytes_of}
use Rattle.cf_protocol.specs.declared.write.writer.Writer.{Writer}
use Rattle.cf_protocol.proofs.Writings.{then}

abbrev pub pair_member : Bor (String Global) × Bor (String Global) → Member
pair_member p = client (string_bytes p.0.now, string_bytes p.1.now)

map-push : {A B : Type 0} (f : A → B) (xs : List A) (x : A) → map f (xs ++ x ∷ []) ≡ map f xs ++ f x ∷ []
map-push f [] x = refl
map-push f (y ∷ xs) x = ap (λ s. f y ∷ s) (map-push f xs x)

pub one_client : {a b c : Writer} {id user : List ℕ} (done : List (Bor (String Global) × Bor (String Global)))
    (p : Bor (String Global) × Bor (String Global)) → id ≡ string_bytes p.0.now → user ≡ string_bytes p.1.now
    → Adds a b (map pair_member done) → Adds b c (client (id, user) ∷ []) → Adds a c (map pair_member (done ++ p ∷ []))
one_client {a} {b} {c} {id} {user} done p d e f g =
    subst (λ ms. Adds a c ms) (sym (map-push pair_member done p))
    (then f (subst (λ v. Adds b c (client (string_bytes p.0.now, v) ∷ [])) e
    (subst (λ u. Adds b c (client (u, user) ∷ [])) d g)))

both_T : (a b : Bool) → T a → T b → T (a && b)
both_T true b x y = y
both_T false b x y = absurd x

pub all_clients : (done : List (Bor (String Global) × Bor (String Global)))
    → map client (bytes_of (map deref_pair done)) ≡ map pair_member done
all_clients [] = refl
all_clients (p ∷ done) = ap (λ ms. pair_member p ∷ ms) (all_clients done)

-- ---- the map that is shown has the entries

below : (x : String Global) (us : List (String Global × String Global))
    → AllByRecursion (λ y. string_cmp x y ≡ Less) (map (λ u. u.0) us)
    → T (below_all (slice_cmp nat_cmp) (string_bytes x) (bytes_of us))
below x [] h = tt
below x (u ∷ us) h = rw h.0 (below x us h.1)

rising : (us : List (String Global × String Global)) → IsStrictlySortedBy string_cmp (map (λ u. u.0) us)
    → T (is_sorted (slice_cmp nat_cmp) (bytes_of us))
unfolding IsStrictlySortedBy
rising [] h = tt
rising (u ∷ us) h =
    both_T (below_all (slice_cmp nat_cmp) (string_bytes u.0) (bytes_of us))
    (is_sorted (slice_cmp nat_cmp) (bytes_of us)) (below u.0 us h.0) (rising us h.1)

pub sorted_entries : (us : List (List ℕ × List ℕ)) → T (is_sorted (slice_cmp nat_cmp) us)
    → entries (from_entries {R = slice_cmp nat_cmp} us) ≡ us
sorted_entries us h =
    ap entries (same_map nat_list_cmp_total (slice_cmp-IsAntisymmetric nat_cmp-IsAntisymmetric) (from_entries us)
    (from_sorted us) (λ q. get-from_entries nat_list_cmp_total us q
    ∙ sym (get-from_sorted (slice_cmp nat_cmp) us q h)))
    ∙ entries-from_sorted (slice_cmp nat_cmp) us h

pub shown_entries : (users : BTreeMap (String Global) (String Global)) → IsOrdered string_cmp users
    → entries (shown_users users) ≡ bytes_of users.entries
shown_entries users h = sorted_entries (bytes_of users.entries) (rising users.entries h)

pub clients_stand : (us : List (String Global × String Global)) → 0 < length us
    → stands (map client (bytes_of us)) ≡ true
clients_stand [] h = absurd (omega arith)
clients_stand (u ∷ us) h = refl

pub presence_of : {a b : Writer} (users : BTreeMap (String Global) (String Global)) → IsOrdered string_cmp users
    → Adds a b (("presence" ⇒ inner (map client (bytes_of users.entries))) ∷ [])
    → Adds a b (presence (shown_users users))
presence_of {a} {b} users h f =
    subst (λ us. Adds a b (("presence" ⇒ inner (map client us)) ∷ [])) (sym (shown_entries users h)) f

no_clients : (a : Writer) (us : List (String Global × String Global)) → length us ≡ 0
    → Adds a a (("presence" ⇒ inner (map client (entries (from_entries {R = slice_cmp nat_cmp} (bytes_of us))))) ∷ [])
no_clients a [] h =
    subst (λ us. Adds a a (("presence" ⇒ inner (map client us)) ∷ [])) (sym (sorted_entries [] tt))
    (absent a (codes "presence"))
no_clients a (u ∷ us) h = absurd (omega arith)

pub nobody : (a : Writer) (users : BTreeMap (String Global) (String Global)) → length users.entries ≡ 0
    → Adds a a (presence (shown_users users))
nobody a users h = no_clients a users.entries h
