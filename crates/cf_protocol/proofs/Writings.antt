-- One step of writing after another.
use Rattle.std.proofs.Common.{◌≡◌, ℕ, ◌<◌, List, [], ◌∷◌, ◌++◌, length, Bool, true, false, Some, None, refl, sym, ap}
use Rattle.std.proofs.Common.{◌∙◌, append_assoc, arith}
use Rattle.std.specs.Prelude.{Result, Ok, Err, IfOk, String, string_bytes, is_some, ◌||◌}
use Rattle.std.specs.declared.alloc.AllocError.{AllocError}
use Rattle.std.specs.declared.alloc.Global.{Global}
use Rattle.std.proofs.lemmas.Bool.{false≢true}
use Rattle.cf_json.specs.Grammar.{Tree, array}
use Rattle.cf_json.specs.Compact.{compact_text, key_text, first_text}
use Rattle.cf_protocol.specs.Written.{Member, parts_of, items_of, object_of, inner, list}
use Rattle.cf_protocol.specs.Writing.{IsBegun, Grows, Adds, AddsKey, AddsValue, Opens, OpensMember, AddsItems, comma}
use Rattle.cf_protocol.specs.Writing.{members_text, items_text, fresh_with, fresh_after, fresh_items}
use Rattle.cf_protocol.specs.declared.write.writer.Writer.{Writer}

-- ---- lists

three : (a b c d : List ℕ) → a ++ (b ++ (c ++ d)) ≡ (a ++ (b ++ c)) ++ d
three a b c d = simp append_assoc

append_nil : (s : List ℕ) → s ++ [] ≡ s
append_nil [] = refl
append_nil (x ∷ xs) = ap (λ s. x ∷ s) (append_nil xs)

-- ---- members

members_text-append : (fresh : Bool) (ms ns : List Member)
    → members_text fresh (ms ++ ns) ≡ members_text fresh ms ++ members_text (fresh_after fresh ms) ns
members_text-append true [] ns = refl
members_text-append false [] ns = refl
members_text-append true ((k, None) ∷ ms) ns = members_text-append true ms ns
members_text-append false ((k, None) ∷ ms) ns = members_text-append false ms ns
members_text-append true ((k, Some t) ∷ ms) ns =
    ap (λ s. key_text true k ++ (compact_text t ++ s)) (members_text-append false ms ns)
    ∙ three (key_text true k) (compact_text t) (members_text false ms) (members_text (fresh_after false ms) ns)
members_text-append false ((k, Some t) ∷ ms) ns =
    ap (λ s. 44 ∷ (key_text true k ++ (compact_text t ++ s))) (members_text-append false ms ns)
    ∙ ap (λ s. 44 ∷ s) (three (key_text true k) (compact_text t) (members_text false ms)
    (members_text (fresh_after false ms) ns))

fresh_after-append : (fresh : Bool) (ms ns : List Member)
    → fresh_after fresh (ms ++ ns) ≡ fresh_after (fresh_after fresh ms) ns
fresh_after-append fresh [] ns = refl
fresh_after-append fresh (m ∷ ms) ns = fresh_after-append (fresh_with fresh m.1) ms ns

none_text : (fresh : Bool) → members_text fresh [] ≡ []
none_text true = refl
none_text false = refl

absent_text : (fresh : Bool) (k : List ℕ) → members_text fresh ((k, None) ∷ []) ≡ []
absent_text true k = refl
absent_text false k = refl

one_text : (fresh : Bool) (k : List ℕ) (t : Tree)
    → comma fresh ++ (key_text true k ++ compact_text t) ≡ members_text fresh ((k, Some t) ∷ [])
one_text true k t = ap (λ s. key_text true k ++ s) (sym (append_nil (compact_text t)))
one_text false k t = ap (λ s. 44 ∷ (key_text true k ++ s)) (sym (append_nil (compact_text t)))

object_text : (fresh : Bool) (k : List ℕ) (ms : List Member)
    → (comma fresh ++ (key_text true k ++ 123 ∷ [])) ++ (first_text true (parts_of ms) ++ 125 ∷ [])
    ≡ members_text fresh ((k, Some (object_of ms)) ∷ [])
object_text fresh k ms =
    append_assoc (comma fresh) (key_text true k ++ 123 ∷ []) (first_text true (parts_of ms) ++ 125 ∷ [])
    ∙ ap (λ s. comma fresh ++ s) (append_assoc (key_text true k) (123 ∷ []) (first_text true (parts_of ms) ++ 125 ∷ []))
    ∙ one_text fresh k (object_of ms)

-- ---- steps

-- one piece after another
pub join : (a b c : Writer) (x y z : List ℕ) → Grows a b x → Grows b c y → x ++ y ≡ z → Grows a c z
join a b c x y z f g e sound =
    let later = g sound in
    let sooner = f later.0 in (
      sooner.0,
      later.1 ∙ ap (λ s. s ++ y) sooner.1 ∙ append_assoc (string_bytes a.text) x y
          ∙ ap (λ s. string_bytes a.text ++ s) e,
    )

stays : (a : Writer) (x : List ℕ) → x ≡ [] → Grows a a x
stays a x e sound = (sound, sym (ap (λ s. string_bytes a.text ++ s) e ∙ append_nil (string_bytes a.text)))

pub then : {a b c : Writer} {ms ns : List Member} → Adds a b ms → Adds b c ns → Adds a c (ms ++ ns)
then {a} {b} {c} {ms} {ns} f g =
    record {
      text =
          join a b c (members_text a.fresh ms) (members_text b.fresh ns) (members_text a.fresh (ms ++ ns)) f.text g.text
          (ap (λ h. members_text a.fresh ms ++ members_text h ns) f.fresh ∙ sym (members_text-append a.fresh ms ns));
      fresh = g.fresh ∙ ap (λ h. fresh_after h ns) f.fresh ∙ sym (fresh_after-append a.fresh ms ns);
    }

pub nothing : (a : Writer) → Adds a a []
nothing a = record { text = stays a (members_text a.fresh []) (none_text a.fresh); fresh = refl }

pub absent : (a : Writer) (k : List ℕ) → Adds a a ((k, None) ∷ [])
absent a k = record { text = stays a (members_text a.fresh ((k, None) ∷ [])) (absent_text a.fresh k); fresh = refl }

pub member : {a b c : Writer} {k : List ℕ} (t : Tree) → AddsKey a b k → AddsValue b c (compact_text t)
    → Adds a c ((k, Some t) ∷ [])
member {a} {b} {c} {k} t f g =
    record {
      text =
          join a b c (comma a.fresh ++ key_text true k) (compact_text t) (members_text a.fresh ((k, Some t) ∷ []))
          f.text g.text
          (append_assoc (comma a.fresh) (key_text true k) (compact_text t) ∙ one_text a.fresh k t);
      fresh = g.fresh;
    }

-- what stands between the brackets, and the closing one
closed : {b c d : Writer} {ms : List Member} → b.fresh ≡ true → Adds b c ms → AddsValue c d (125 ∷ [])
    → Grows b d (first_text true (parts_of ms) ++ 125 ∷ [])
closed {b} {c} {d} {ms} e g h =
    join b c d (members_text b.fresh ms) (125 ∷ []) (first_text true (parts_of ms) ++ 125 ∷ []) g.text h.text
    (ap (λ f. members_text f ms ++ 125 ∷ []) e)

pub inside : {a b c d : Writer} {k : List ℕ} {ms : List Member} → OpensMember a b k (123 ∷ []) → Adds b c ms
    → AddsValue c d (125 ∷ []) → Adds a d ((k, Some (object_of ms)) ∷ [])
inside {a} {b} {c} {d} {k} {ms} f g h =
    record {
      text =
          join a b d (comma a.fresh ++ (key_text true k ++ 123 ∷ [])) (first_text true (parts_of ms) ++ 125 ∷ [])
          (members_text a.fresh ((k, Some (object_of ms)) ∷ [])) f.text (closed f.fresh g h)
          (object_text a.fresh k ms);
      fresh = h.fresh;
    }

pub as_value : {a b c d : Writer} {ms : List Member} → Opens a b (123 ∷ []) → Adds b c ms → AddsValue c d (125 ∷ [])
    → AddsValue a d (compact_text (object_of ms))
as_value {a} {b} {c} {d} {ms} f g h =
    record {
      text = join a b d (123 ∷ []) (first_text true (parts_of ms) ++ 125 ∷ []) (compact_text (object_of ms))
          f.text (closed f.fresh g h) refl;
      fresh = h.fresh;
    }

-- the text that a writer gives where no call lacked memory
pub whole : {b c : Writer} {ms : List Member} (r : Result (String Global) AllocError) → IsBegun b → Adds b c ms
    → IfOk r (λ s. (c.failed ≡ false) × (string_bytes s ≡ string_bytes c.text ++ 125 ∷ []))
    → IfOk r (λ s. string_bytes s ≡ compact_text (object_of ms))
whole {b} {c} {ms} (Ok s) f g told =
    let grown = g.text told.0 in
    told.1 ∙ ap (λ t. t ++ 125 ∷ []) (grown.1 ∙ ap (λ t. t ++ members_text b.fresh ms) (f.text grown.0)
    ∙ ap (λ fresh. 123 ∷ members_text fresh ms) f.fresh)
whole (Err x) f g told = tt

-- ---- members of an object that may be left out

abbrev pub stands : List Member → Bool
stands [] = false
stands (m ∷ ms) = is_some m.1 || stands ms

pub inner_stands : (ms : List Member) → stands ms ≡ true → inner ms ≡ Some (object_of ms)
inner_stands [] h = absurd (false≢true h)
inner_stands ((k, None) ∷ ms) h = inner_stands ms h
inner_stands ((k, Some t) ∷ ms) h = refl

-- ---- items

stays_false : (ts : List Tree) → fresh_items false ts ≡ false
stays_false [] = refl
stays_false (t ∷ ts) = refl

items_text-push : (fresh : Bool) (ts : List Tree) (t : Tree)
    → items_text fresh (ts ++ t ∷ []) ≡ items_text fresh ts ++ (comma (fresh_items fresh ts) ++ compact_text t)
items_text-push true [] t = append_nil (compact_text t)
items_text-push false [] t = ap (λ s. 44 ∷ s) (append_nil (compact_text t))
items_text-push true (u ∷ ts) t =
    ap (λ s. compact_text u ++ s) (items_text-push false ts t
    ∙ ap (λ f. items_text false ts ++ (comma f ++ compact_text t)) (stays_false ts))
    ∙ sym (append_assoc (compact_text u) (items_text false ts) (44 ∷ compact_text t))
items_text-push false (u ∷ ts) t =
    ap (λ s. 44 ∷ (compact_text u ++ s)) (items_text-push false ts t
    ∙ ap (λ f. items_text false ts ++ (comma f ++ compact_text t)) (stays_false ts))
    ∙ ap (λ s. 44 ∷ s) (sym (append_assoc (compact_text u) (items_text false ts) (44 ∷ compact_text t)))

fresh_items-push : (fresh : Bool) (ts : List Tree) (t : Tree) → fresh_items fresh (ts ++ t ∷ []) ≡ false
fresh_items-push fresh [] t = refl
fresh_items-push fresh (u ∷ ts) t = refl

pub one_more : {a b c d : Writer} {ts : List Tree} (t : Tree) → AddsItems a b ts → Grows b c (comma b.fresh)
    → AddsValue c d (compact_text t) → AddsItems a d (ts ++ t ∷ [])
one_more {a} {b} {c} {d} {ts} t f e g =
    record {
      text =
          join a b d (items_text a.fresh ts) (comma b.fresh ++ compact_text t) (items_text a.fresh (ts ++ t ∷ []))
          f.text (join b c d (comma b.fresh) (compact_text t) (comma b.fresh ++ compact_text t) e g.text refl)
          (ap (λ h. items_text a.fresh ts ++ (comma h ++ compact_text t)) f.fresh ∙ sym (items_text-push a.fresh ts t));
      fresh = g.fresh ∙ sym (fresh_items-push a.fresh ts t);
    }

array_text : (fresh : Bool) (k : List ℕ) (ts : List Tree)
    → (comma fresh ++ (key_text true k ++ 91 ∷ [])) ++ (first_text false (items_of ts) ++ 93 ∷ [])
    ≡ members_text fresh ((k, Some (array (items_of ts))) ∷ [])
array_text fresh k ts =
    append_assoc (comma fresh) (key_text true k ++ 91 ∷ []) (first_text false (items_of ts) ++ 93 ∷ [])
    ∙ ap (λ s. comma fresh ++ s) (append_assoc (key_text true k) (91 ∷ []) (first_text false (items_of ts) ++ 93 ∷ []))
    ∙ one_text fresh k (array (items_of ts))

-- a list that has an item
pub listed : {a b c d : Writer} {k : List ℕ} (ts : List Tree) → 0 < length ts → OpensMember a b k (91 ∷ [])
    → AddsItems b c ts → AddsValue c d (93 ∷ []) → Adds a d ((k, list ts) ∷ [])
listed [] some f g h = absurd (omega (arith, some))
listed {a} {b} {c} {d} {k} (t ∷ ts) some f g h =
    let all : List Tree = t ∷ ts in
    let items : Grows b d (first_text false (items_of all) ++ 93 ∷ []) =
    join b c d (items_text b.fresh all) (93 ∷ []) (first_text false (items_of all) ++ 93 ∷ []) g.text h.text
    (ap (λ e. items_text e all ++ 93 ∷ []) f.fresh) in
    record {
      text =
          join a b d (comma a.fresh ++ (key_text true k ++ 91 ∷ [])) (first_text false (items_of all) ++ 93 ∷ [])
          (members_text a.fresh ((k, list all) ∷ [])) f.text items
          (array_text a.fresh k all);
      fresh = h.fresh;
    }
