-- What is found in an object that was written.
use Rattle.std.proofs.Common.{◌≡◌, ℕ, List, [], ◌∷◌, ◌++◌, Bool, true, false, cond, ◌&&◌, not, Option, Some, None, refl}
use Rattle.std.proofs.Common.{sym, ap, ◌∙◌}
use Rattle.std.proofs.lemmas.Bool.{and_parts, not-true, cases_Bool}
use Rattle.std.specs.Prelude.{◌==◌, nat_le, if◌then◌else◌, codes, option_map, option_to_list, option_and_then}
use Rattle.std.proofs.Common.{inl, inr}
use Rattle.std.specs.Str.{bytes_eq}
use Rattle.std.proofs.lemmas.Slice.Eq.{bytes_eq-Decides}
use Prim.Native.String.{String as Name}
use Rattle.cf_json.specs.Grammar.{Tree}
use Rattle.cf_json.specs.Characters.{characters, pieces, joined}
use Rattle.cf_json.specs.Members.{Fields, put, members_onto}
use Rattle.cf_protocol.specs.Fields.{object_as, look_up, unless_null, each_of}
use Rattle.cf_protocol.specs.Written.{Member, parts_of, object_of}
use Rattle.cf_protocol.specs.Writing.{is_plain as stands_for_itself}
use Rattle.cf_protocol.proofs.Spellings.{is_plain}

-- ---- keys

pub plain_characters : (s : List ℕ) → is_plain s ≡ true → characters s ≡ Some s
unfolding pieces joined
plain_characters [] h = refl
plain_characters (x ∷ xs) h =
    let p = and_parts (stands_for_itself x) (is_plain xs) h in
    let q = and_parts (nat_le 32 x && not (x == 34)) (not (x == 92)) p.0 in
    rw (not-true (x == 92) q.1, plain_characters xs p.1) refl

abbrev pub are_plain : List Member → Bool
are_plain [] = true
are_plain (m ∷ ms) = is_plain m.0 && are_plain ms

-- ---- look-ups

abbrev pub or_else : Option Tree → Option Tree → Option Tree
or_else None b = b
or_else (Some t) b = Some t

-- the last member with this key that stands
abbrev pub slot : List ℕ → List Member → Option Tree
slot k [] = None
slot k (m ∷ ms) = if bytes_eq k m.0 then or_else (slot k ms) m.1 else slot k ms

once : {X : Type 0} (b : Bool) (x y z : X) → cond b x z ≡ cond b x (cond b y z)
once true x y z = refl
once false x y z = refl

apart : {X : Type 0} (b c : Bool) (x y z : X) → (b ≡ true → c ≡ true → ⊥)
    → cond b y (cond c x z) ≡ cond c x (cond b y z)
apart true true x y z h = absurd (h refl refl)
apart true false x y z h = refl
apart false true x y z h = refl
apart false false x y z h = refl

look_up-put : (k c : List ℕ) (t : Tree) (fs : Fields)
    → look_up k (put fs (c, t)) ≡ (if bytes_eq k c then Some t else look_up k fs)
look_up-put k c t [] = refl
look_up-put k c t (f ∷ fs) =
    elim (cases_Bool (bytes_eq f.0 c)) [
      | inl e ↦ rw e (look_up-put k c t fs ∙ once (bytes_eq k c) (Some t) (Some f.1) (look_up k fs)
          ∙ ap (λ l. cond (bytes_eq k c) (Some t) (cond (bytes_eq k l) (Some f.1) (look_up k fs)))
          (sym ((bytes_eq-Decides f.0 c).0 e)))
      | inr e ↦
          rw e (ap (λ o. cond (bytes_eq k f.0) (Some f.1) o) (look_up-put k c t fs)
          ∙ apart (bytes_eq k f.0) (bytes_eq k c) (Some t) (Some f.1) (look_up k fs) (λ a b.
          let same : f.0 ≡ c = sym ((bytes_eq-Decides k f.0).0 a) ∙ (bytes_eq-Decides k c).0 b in
          let yes : bytes_eq f.0 c ≡ true = (bytes_eq-Decides f.0 c).1 same in
          cc))
    ]

-- what the members ms give when they are read after those of acc
pub record Found (ms : List Member) (acc : Fields) : Type 0 where
  pub fields : Fields
  pub is : members_onto acc (parts_of ms) ≡ Some fields
  pub at : (k : List ℕ) → look_up k fields ≡ or_else (slot k ms) (look_up k acc)

step : (a b : Option Tree) (t : Tree) (c : Bool)
    → or_else a (cond c (Some t) b) ≡ or_else (cond c (or_else a (Some t)) a) b
step None b t true = refl
step None b t false = refl
step (Some u) b t true = refl
step (Some u) b t false = refl

same : (a b : Option Tree) (c : Bool) → or_else a b ≡ or_else (cond c (or_else a None) a) b
same None b true = refl
same None b false = refl
same (Some u) b true = refl
same (Some u) b false = refl

find : (ms : List Member) (acc : Fields) → are_plain ms ≡ true → Found ms acc
find [] acc h = record { fields = acc; is = refl; at = λ k. refl }
find ((k, None) ∷ ms) acc h =
    let p = and_parts (is_plain k) (are_plain ms) h in
    let r = find ms acc p.1 in
    record { fields = r.fields; is = r.is; at = λ l. r.at l ∙ same (slot l ms) (look_up l acc) (bytes_eq l k) }
find ((k, Some t) ∷ ms) acc h =
    let p = and_parts (is_plain k) (are_plain ms) h in
    let r = find ms (put acc (k, t)) p.1 in
    record {
      fields = r.fields;
      is = rw (plain_characters k p.0) r.is;
      at = λ l. r.at l ∙ ap (λ o. or_else (slot l ms) o) (look_up-put l k t acc)
          ∙ step (slot l ms) (look_up l acc) t (bytes_eq l k);
    }

or_else-none : (a : Option Tree) → or_else a None ≡ a
or_else-none None = refl
or_else-none (Some t) = refl

-- an object that was written is read by what is found under its keys
pub read_object : {A : Type 0} (f : Fields → Option A) (ms : List Member) (x : Option A) → are_plain ms ≡ true
    → ((r : Fields) → ((k : List ℕ) → look_up k r ≡ slot k ms) → f r ≡ x) → object_as f (object_of ms) ≡ x
read_object f ms x h reads = let r = find ms [] h in rw r.is (reads r.fields (λ k. r.at k ∙ or_else-none (slot k ms)))

-- ---- one of several keys

abbrev pub each_found : {A : Type 0} → List (Name × (Tree → Option A)) → (List ℕ → Option Tree) → List (Option A)
each_found [] found = []
each_found (m ∷ ms) found =
    option_to_list (option_map m.1 (option_and_then unless_null (found (codes m.0)))) ++ each_found ms found

pub each_is : {A : Type 0} (ms : List (Name × (Tree → Option A))) (r : Fields) (found : List ℕ → Option Tree)
    → ((k : List ℕ) → look_up k r ≡ found k) → each_of ms r ≡ each_found ms found
each_is [] r found h = refl
each_is (m ∷ ms) r found h = rw (h (codes m.0), each_is ms r found h) refl
