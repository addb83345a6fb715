-- Two trees of one text, of which the first is one that a text can have.
use Rattle.std.proofs.Common.{◌≡◌, ℕ, zero, suc, ◌≤◌, ◌^◌, ◌<◌, Bool, true, false, List, [], ◌∷◌, ◌++◌, Option, Some}
use Rattle.std.proofs.Common.{None, refl, ap, ◌∙◌, arith, ne_eqb, negsuc, codes, suc-le-suc, zero-le}
use Rattle.std.specs.Prelude.{⊤, decimal}
use Rattle.cf_json.specs.Grammar.{Tree, number, array, object, Parts, no_parts, part, IsText, depth, parts_depth}
use Rattle.cf_json.specs.Compact.{compact_text, first_text, more_text, key_text, IsKey, IsRegular, AreRegular}
use Rattle.cf_protocol.specs.Written.{Member, ◌⇒◌, parts_of, object_of, items_of, unless_empty, inner, whole, signed}
use Rattle.cf_protocol.specs.Written.{flag, text, list, position, as_it_is}
use Rattle.cf_protocol.specs.Position.{Position}
use Rattle.cf_protocol.specs.Fields.{max_u32}
use Rattle.cf_protocol.specs.Command.{max_data_depth}
use Rattle.cf_protocol.specs.Regular.{IsBodyOf, IsPosition}
use Prim.Native.String.{String as Name}
use Rattle.cf_protocol.proofs.JsonLaws.{JsonLaws}
use Rattle.cf_protocol.proofs.Spellings.{is_number, is_negative_number, is_plain, plain_text}

pub record Alike (d : ℕ) (t u : Tree) : Type 0 where
  pub regular : IsRegular t
  pub text : compact_text t ≡ compact_text u
  pub shallow : depth t ≤ d

abbrev pub AlikeOptions : ℕ → Option Tree → Option Tree → Type 0
AlikeOptions d None None = ⊤
AlikeOptions d None (Some u) = ⊥
AlikeOptions d (Some t) None = ⊥
AlikeOptions d (Some t) (Some u) = Alike d t u

abbrev pub AlikeParts : Bool → ℕ → Parts → Parts → Type 0
AlikeParts keyed d no_parts no_parts = ⊤
AlikeParts keyed d no_parts (part l u qs) = ⊥
AlikeParts keyed d (part k t ps) no_parts = ⊥
AlikeParts keyed d (part k t ps) (part l u qs) = (k ≡ l) × IsKey keyed k × Alike d t u × AlikeParts keyed d ps qs

abbrev pub AlikeMembers : ℕ → List Member → List Member → Type 0
AlikeMembers d [] [] = ⊤
AlikeMembers d [] (n ∷ ns) = ⊥
AlikeMembers d (m ∷ ms) [] = ⊥
AlikeMembers d (m ∷ ms) (n ∷ ns) = (m.0 ≡ n.0) × IsText m.0 × AlikeOptions d m.1 n.1 × AlikeMembers d ms ns

abbrev pub AlikeItems : ℕ → List Tree → List Tree → Type 0
AlikeItems d [] [] = ⊤
AlikeItems d [] (u ∷ us) = ⊥
AlikeItems d (t ∷ ts) [] = ⊥
AlikeItems d (t ∷ ts) (u ∷ us) = Alike d t u × AlikeItems d ts us

-- ---- arrays and objects

parts_regular : (keyed : Bool) (d : ℕ) (ps qs : Parts) → AlikeParts keyed d ps qs → AreRegular keyed ps
parts_regular keyed d no_parts no_parts h = tt
parts_regular keyed d no_parts (part l u qs) h = absurd h
parts_regular keyed d (part k t ps) no_parts h = absurd h
parts_regular keyed d (part k t ps) (part l u qs) h = (h.1, h.2.regular, parts_regular keyed d ps qs h.3)

parts_shallow : (keyed : Bool) (d : ℕ) (ps qs : Parts) → AlikeParts keyed d ps qs → parts_depth ps ≤ d
parts_shallow keyed d no_parts no_parts h = zero-le
parts_shallow keyed d no_parts (part l u qs) h = absurd h
parts_shallow keyed d (part k t ps) no_parts h = absurd h
parts_shallow keyed d (part k t ps) (part l u qs) h = omega (arith, h.2.shallow, parts_shallow keyed d ps qs h.3)

one_part : (keyed : Bool) (k l a b c e : List ℕ) → k ≡ l → a ≡ b → c ≡ e
    → key_text keyed k ++ (a ++ c) ≡ key_text keyed l ++ (b ++ e)
one_part keyed k l a b c e f g h =
    ap (λ x. key_text keyed x ++ (a ++ c)) f ∙ ap (λ x. key_text keyed l ++ (x ++ c)) g
    ∙ ap (λ x. key_text keyed l ++ (b ++ x)) h

more_same : (keyed : Bool) (d : ℕ) (ps qs : Parts) → AlikeParts keyed d ps qs → more_text keyed ps ≡ more_text keyed qs
more_same keyed d no_parts no_parts h = refl
more_same keyed d no_parts (part l u qs) h = absurd h
more_same keyed d (part k t ps) no_parts h = absurd h
more_same keyed d (part k t ps) (part l u qs) h =
    ap (λ s. 44 ∷ s) (one_part keyed k l (compact_text t) (compact_text u) (more_text keyed ps) (more_text keyed qs) h.0
    h.2.text (more_same keyed d ps qs h.3))

first_same : (keyed : Bool) (d : ℕ) (ps qs : Parts) → AlikeParts keyed d ps qs
    → first_text keyed ps ≡ first_text keyed qs
first_same keyed d no_parts no_parts h = refl
first_same keyed d no_parts (part l u qs) h = absurd h
first_same keyed d (part k t ps) no_parts h = absurd h
first_same keyed d (part k t ps) (part l u qs) h =
    one_part keyed k l (compact_text t) (compact_text u) (more_text keyed ps) (more_text keyed qs) h.0 h.2.text
    (more_same keyed d ps qs h.3)

object_alike : (d : ℕ) (ps qs : Parts) → AlikeParts true d ps qs → Alike (suc d) (object ps) (object qs)
object_alike d ps qs h =
    record {
      regular = parts_regular true d ps qs h;
      text = ap (λ s. 123 ∷ (s ++ 125 ∷ [])) (first_same true d ps qs h);
      shallow = suc-le-suc (parts_shallow true d ps qs h);
    }

array_alike : (d : ℕ) (ps qs : Parts) → AlikeParts false d ps qs → Alike (suc d) (array ps) (array qs)
array_alike d ps qs h =
    record {
      regular = parts_regular false d ps qs h;
      text = ap (λ s. 91 ∷ (s ++ 93 ∷ [])) (first_same false d ps qs h);
      shallow = suc-le-suc (parts_shallow false d ps qs h);
    }

members_parts : (d : ℕ) (ms ns : List Member) → AlikeMembers d ms ns → AlikeParts true d (parts_of ms) (parts_of ns)
members_parts d [] [] h = tt
members_parts d [] (n ∷ ns) h = absurd h
members_parts d (m ∷ ms) [] h = absurd h
members_parts d ((k, None) ∷ ms) ((l, None) ∷ ns) h = members_parts d ms ns h.3
members_parts d ((k, None) ∷ ms) ((l, Some u) ∷ ns) h = absurd h.2
members_parts d ((k, Some t) ∷ ms) ((l, None) ∷ ns) h = absurd h.2
members_parts d ((k, Some t) ∷ ms) ((l, Some u) ∷ ns) h = (h.0, h.1, h.2, members_parts d ms ns h.3)

items_parts : (d : ℕ) (ts us : List Tree) → AlikeItems d ts us → AlikeParts false d (items_of ts) (items_of us)
items_parts d [] [] h = tt
items_parts d [] (u ∷ us) h = absurd h
items_parts d (t ∷ ts) [] h = absurd h
items_parts d (t ∷ ts) (u ∷ us) h = (refl, refl, h.0, items_parts d ts us h.1)

pub members_alike : (d : ℕ) (ms ns : List Member) → AlikeMembers d ms ns → Alike (suc d) (object_of ms) (object_of ns)
members_alike d ms ns h = object_alike d (parts_of ms) (parts_of ns) (members_parts d ms ns h)

unless_empty_alike : (d : ℕ) (ps qs : Parts) → AlikeParts true d ps qs
    → AlikeOptions (suc d) (unless_empty ps) (unless_empty qs)
unless_empty_alike d no_parts no_parts h = tt
unless_empty_alike d no_parts (part l u qs) h = absurd h
unless_empty_alike d (part k t ps) no_parts h = absurd h
unless_empty_alike d (part k t ps) (part l u qs) h = object_alike d (part k t ps) (part l u qs) h

pub inner_alike : (d : ℕ) (ms ns : List Member) → AlikeMembers d ms ns → AlikeOptions (suc d) (inner ms) (inner ns)
inner_alike d ms ns h = unless_empty_alike d (parts_of ms) (parts_of ns) (members_parts d ms ns h)

pub list_alike : (d : ℕ) (ts us : List Tree) → AlikeItems d ts us → AlikeOptions (suc d) (list ts) (list us)
list_alike d [] [] h = tt
list_alike d [] (u ∷ us) h = absurd h
list_alike d (t ∷ ts) [] h = absurd h
list_alike d (t ∷ ts) (u ∷ us) h =
    array_alike d (items_of (t ∷ ts)) (items_of (u ∷ us)) (items_parts d (t ∷ ts) (u ∷ us) h)

-- ---- members

pub number_alike : (d n : ℕ) → n < 2 ^ 64 → Alike d (number (decimal n)) (number (decimal n))
number_alike d n h = record { regular = is_number n h; text = refl; shallow = zero-le }

pub whole_alike : (d n : ℕ) → n < 2 ^ 64 → AlikeOptions d (whole n) (whole n)
whole_alike d zero h = tt
whole_alike d (suc n) h = rw (ne_eqb (suc n) 0 (omega arith)) (number_alike d (suc n) h)

pub negative_alike : (d n : ℕ) → suc n < 2 ^ 64 → AlikeOptions d (signed (negsuc n)) (signed (negsuc n))
negative_alike d n h = record { regular = is_negative_number (suc n) h; text = refl; shallow = zero-le }

pub flag_alike : (d : ℕ) (b : Bool) → AlikeOptions d (flag b) (flag b)
flag_alike d true = record { regular = tt; text = refl; shallow = zero-le }
flag_alike d false = tt

pub text_alike : JsonLaws → (d : ℕ) (s : List ℕ) → AlikeOptions d (text s) (text s)
text_alike j d [] = tt
text_alike j d (x ∷ xs) = record { regular = j.is_text (x ∷ xs); text = refl; shallow = zero-le }

-- ---- what several texts have

pub key : (k : Name) → is_plain (codes k) ≡ true → IsText (codes k)
key k h = plain_text (codes k) h

pub id_alike : (d id : ℕ) → id ≤ max_u32 → AlikeMembers d (("id" ⇒ whole id) ∷ []) (("id" ⇒ whole id) ∷ [])
id_alike d id h = (refl, key "id" refl, whole_alike d id (omega arith), tt)

-- the id and then the request, or the other way round
pub id_first : (d id : ℕ) (k : Name) (t u : Tree) → is_plain (codes k) ≡ true → id ≤ max_u32 → Alike d t u
    → Alike (suc d) (object_of (("id" ⇒ whole id) ∷ (k ⇒ Some t) ∷ []))
    (object_of (("id" ⇒ whole id) ∷ (k ⇒ Some u) ∷ []))
id_first d id k t u plain h a =
    members_alike d (("id" ⇒ whole id) ∷ (k ⇒ Some t) ∷ []) (("id" ⇒ whole id) ∷ (k ⇒ Some u) ∷ [])
    (refl, key "id" refl, whole_alike d id (omega arith), (refl, key k plain, a, tt))

pub id_last : (d id : ℕ) (k : Name) (t u : Tree) → is_plain (codes k) ≡ true → id ≤ max_u32 → Alike d t u
    → Alike (suc d) (object_of ((k ⇒ Some t) ∷ ("id" ⇒ whole id) ∷ []))
    (object_of ((k ⇒ Some u) ∷ ("id" ⇒ whole id) ∷ []))
id_last d id k t u plain h a =
    members_alike d ((k ⇒ Some t) ∷ ("id" ⇒ whole id) ∷ []) ((k ⇒ Some u) ∷ ("id" ⇒ whole id) ∷ [])
    (refl, key k plain, a, id_alike d id h)

pub nothing_alike : (d : ℕ) → Alike (suc d) (object_of []) (object_of [])
nothing_alike d = members_alike d [] [] tt

pub position_alike : JsonLaws → (d : ℕ) (p : Position) → IsPosition p → AlikeMembers d (position p) (position p)
position_alike j d p h = (
  refl,
  key "epoch" refl,
  text_alike j d p.epoch,
  (refl, key "offset" refl, whole_alike d p.offset (let o = h.offset in omega arith), tt),
)

pub body_alike : JsonLaws → (t : Tree) (b : List ℕ) → IsBodyOf t b → Alike max_data_depth t (as_it_is b)
body_alike j t b h = record { regular = j.regular t b [] h.value; text = h.compact; shallow = h.shallow }
