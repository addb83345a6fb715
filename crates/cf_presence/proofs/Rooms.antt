-- A channel's clients, of whom there may be none.
use Rattle.std.proofs.Common.{◌≡◌, ℕ, List, [], ◌∷◌, Bool, true, false, cond, Some, None, Option, refl, sym, ap, subst}
use Rattle.std.proofs.Common.{◌∙◌, length, suc, arith, BTreeMap, String, Global, string_bytes}
use Rattle.std.specs.Prelude.{IsSomeAnd, ◌==◌, ◌↔◌, IsTrue, if◌then◌else◌, unwrap_or}
use Rattle.std.specs.Ordering.{nat_cmp}
use Rattle.std.specs.Cmp.Lexicographic.{slice_cmp, nat_list_cmp_total}
use Rattle.std.specs.Ordering.{is_eq}
use Rattle.std.specs.Cmp.{tied_itself}
use Rattle.std.specs.String.{string_cmp}
use Rattle.std.specs.BTreeMap.{IsOrdered, get_by_text}
use Rattle.std.specs.Str.{bytes_eq}
use Rattle.std.specs.FinMap as fin
use Rattle.std.proofs.lemmas.Slice.Eq.{bytes_eq-Decides}
use Rattle.cf_presence.specs.Presence.{Clients, Seen, IsThere, put_at}
use Rattle.cf_presence.specs.Maps.{by_text, SetsAt, if_any}
use Rattle.cf_presence.proofs.Texts.{by_bytes, sets, removes, entries-by_text}

pub zero_from_test : (n : ℕ) → (n == 0) ≡ true → n ≡ 0
zero_from_test n h = grind arith

-- a test for zero
zero_test : (b : Bool) (n : ℕ) → (IsTrue b ↔ (n ≡ 0)) → b ≡ (n == 0)
zero_test true n h = sym (ap (λ k. k == 0) (h.0 refl))
zero_test false n h =
    let cases : (c : Bool) → (n == 0) ≡ c → false ≡ c =
    λ c. elim c as (λ c. (n == 0) ≡ c → false ≡ c) [ true ↦ λ e. h.1 (zero_from_test n e) | false ↦ λ e. refl ] in
    cases (n == 0) refl

some_is_none : {X : Type 0} (x : X) → ◌≡◌ {A = Option X} (Some x) None → ⊥
some_is_none x e = absurd (grind (arith, e))

-- nobody may leave
nobody_leaves : (k : List ℕ) → if_any (fin.remove fin.empty k) ≡ None
nobody_leaves k =
    let none : Clients = fin.empty in
    let no_one : fin.len (fin.remove none k) ≡ 0 = grind (arith, fin.gets) in
    ap (λ n. if n == 0 then None else Some (fin.remove none k)) no_one

pub none_leaves : (o : Option Clients) (k : List ℕ) → o ≡ None → if_any (fin.remove (unwrap_or o fin.empty) k) ≡ None
none_leaves o k e = ap (λ o. if_any (fin.remove (unwrap_or o fin.empty) k)) e ∙ nobody_leaves k

-- a map of channels that has these clients at one channel, if there are any, and is as before elsewhere
pub puts : (m n : BTreeMap (String Global) Clients) (bs : List ℕ) (r : Clients) → SetsAt m n bs (if_any r)
    → by_text n ≡ put_at (by_text m) bs r
puts m n bs r =
    elim (fin.len r == 0) as (λ b. SetsAt m n bs (if b then None else Some r)
    → by_text n ≡ (if b then fin.remove (by_text m) bs else fin.insert (by_text m) bs r)) [
      | true ↦ removes m n bs
      | false ↦ sets m n bs r
    ]

pub length-by_bytes : {X : Type 0} (es : List (String Global × X)) → length (by_bytes es) ≡ length es
length-by_bytes [] = refl
length-by_bytes (e ∷ es) = ap (λ n. suc n) (length-by_bytes es)

pub len-by_text : {X : Type 0} (m : BTreeMap (String Global) X) → IsOrdered string_cmp m
    → fin.len (by_text m) ≡ length m.entries
len-by_text m ordered = fin.len-entries (by_text m) ∙ ap length (entries-by_text m ordered) ∙ length-by_bytes m.entries

-- a map without entries, whatever their order
none_by_text : {X : Type 0} (es : List (String Global × X))
    → (fin.len (fin.from_entries {R = slice_cmp nat_cmp} (by_bytes es)) ≡ 0) ↔ (length es ≡ 0)
none_by_text {X = X} [] = (λ _. refl, λ _. fin.len-empty (slice_cmp nat_cmp) X)
none_by_text (e ∷ es) = (
  λ h.
      let rest = fin.from_entries {R = slice_cmp nat_cmp} (by_bytes es) in
      let here = fin.get-insert nat_list_cmp_total rest (string_bytes e.0) e.1 (string_bytes e.0) in
      let none = ap (λ m. fin.get m (string_bytes e.0)) (fin.empty_of_len (fin.insert rest (string_bytes e.0) e.1) h)
      ∙ fin.get-empty (slice_cmp nat_cmp) (string_bytes e.0) in
      absurd (some_is_none e.1 (sym (here ∙ ap (λ r. cond (is_eq r) (Some e.1) (fin.get rest (string_bytes e.0)))
      (tied_itself nat_list_cmp_total (string_bytes e.0))) ∙ none)),
  λ h. absurd (omega arith),
)

pub is_empty-by_text : {X : Type 0} (m : BTreeMap (String Global) X) (b : Bool) → (IsTrue b ↔ (length m.entries ≡ 0))
    → b ≡ (fin.len (by_text m) == 0)
is_empty-by_text m b h =
    zero_test b (fin.len (by_text m)) (λ t. (none_by_text m.entries).1 (h.0 t), λ z. h.1 ((none_by_text m.entries).0 z))

-- where there is nothing, nothing is taken out
pub none_stays : {X : Type 0} (m n : BTreeMap (String Global) X) (bs : List ℕ)
    → ((q : List ℕ) → get_by_text n q ≡ get_by_text m q) → get_by_text m bs ≡ None → SetsAt m n bs None
none_stays {X = X} m n bs same none q =
    let cases : (b : Bool) → bytes_eq bs q ≡ b → get_by_text n q ≡ cond {A = Option X} b None (get_by_text m q) =
    λ b. elim b as (λ b. bytes_eq bs q ≡ b → get_by_text n q ≡ cond {A = Option X} b None (get_by_text m q)) [
      | true ↦ λ e. same q ∙ ap (get_by_text m) (sym ((bytes_eq-Decides bs q).0 e)) ∙ none
      | false ↦ λ e. same q
    ] in
    cases (bytes_eq bs q) refl

-- a map with the value at a key that it had there
pub set_same : {X : Type 0} (m n : BTreeMap (String Global) X) (bs : List ℕ) (v w : X) → get_by_text m bs ≡ Some v
    → SetsAt m n bs (Some w) → w ≡ v → (q : List ℕ) → get_by_text n q ≡ get_by_text m q
set_same m n bs v w at sets is q =
    let cases : (b : Bool) → bytes_eq bs q ≡ b → cond b (Some w) (get_by_text m q) ≡ get_by_text m q =
    λ b. elim b as (λ b. bytes_eq bs q ≡ b → cond b (Some w) (get_by_text m q) ≡ get_by_text m q) [
      | true ↦ λ e. ap Some is ∙ (sym at ∙ ap (get_by_text m) ((bytes_eq-Decides bs q).0 e))
      | false ↦ λ e. refl
    ] in
    sets q ∙ cases (bytes_eq bs q) refl

-- in a channel without clients nobody is there
pub nobody_there : (o : Option Clients) (client user : List ℕ) → o ≡ None → IsThere (unwrap_or o fin.empty) client user
    → ⊥
nobody_there o client user none h =
    subst (λ (o : Option Seen). IsSomeAnd o (λ s. s.user ≡ user))
    (ap (λ (o : Option Clients). fin.get (unwrap_or o fin.empty) client) none
    ∙ fin.get-empty (slice_cmp nat_cmp) client) h
