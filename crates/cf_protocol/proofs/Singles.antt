-- A text that is the compact text of one object is a frame of that object alone.
use Rattle.std.proofs.Common.{◌≡◌, ◌≢◌, inl, inr, ℕ, suc, ◌≤◌, List, [], ◌∷◌, ◌++◌, length, true, false, Option, Some}
use Rattle.std.proofs.Common.{refl, sym, ap, subst, ◌∙◌, arith, append-nil}
use Rattle.std.proofs.lemmas.Bool.{false≢true}
use Rattle.cf_json.specs.Bytes.{is_space}
use Rattle.cf_json.specs.Grammar.{Tree, null, boolean, number, text, array, object, Parts, IsWhole, IsNumber, Space}
use Rattle.cf_json.specs.Grammar.{Value, Stops, Place}
use Rattle.cf_json.specs.Compact.{compact_text}
use Rattle.cf_json.specs.Spans.{max_depth}
use Rattle.cf_json.specs.Frame.{IsFrame, Values, Apart}
use Rattle.cf_protocol.specs.Frame.{FrameOf}
use Rattle.cf_protocol.proofs.JsonLaws.{JsonLaws}
use Rattle.cf_protocol.proofs.Alikes.{Alike}

not_empty : {A : Type 0} (x : A) (xs : List A) → (x ∷ xs) ≢ []
not_empty x xs e = let h : suc (length xs) ≡ 0 = ap length e in absurd (omega (arith, h))

value_of : JsonLaws → (d : ℕ) (ps qs : Parts) → Alike d (object ps) (object qs)
    → Value (object ps) (compact_text (object qs)) []
value_of j d ps qs h =
    subst (λ s. Value (object ps) s []) (append-nil (compact_text (object ps)) ∙ h.text)
    (j.back (object ps) [] h.regular)

pub one_frame : JsonLaws → (d : ℕ) (ps qs : Parts) → Alike d (object ps) (object qs)
    → IsFrame (compact_text (object qs)) (object ps ∷ [])
one_frame j d ps qs h =
    let s = compact_text (object qs) in (
      not_empty (object ps) [],
      (length s, 0) ∷ [],
      (s, [], [], ([], tt, refl), value_of j d ps qs h, tt, (refl, ([], tt, refl)), refl),
    )

-- ---- no other

no_space_before : (x : ℕ) (xs s : List ℕ) → is_space x ≡ false → Space (x ∷ xs) s → s ≡ x ∷ xs
no_space_before x xs s u ([], all, e) = sym e
no_space_before x xs s u (y ∷ w, all, e) = let same : x ≡ y = cc in
    absurd (false≢true (sym u ∙ ap is_space same ∙ all.0))

brace : is_space 123 ≡ false
unfolding is_space
brace = refl

apart_stops : (t : Tree) (r : List ℕ) → Apart t r → Stops t r
apart_stops null r h = tt
apart_stops (boolean b) r h = tt
apart_stops (number n) r h = h.0
apart_stops (text c) r h = tt
apart_stops (array ps) r h = tt
apart_stops (object ps) r h = tt

nothing_before : (s : List ℕ) → Space [] s → s ≡ []
nothing_before s ([], all, e) = sym e
nothing_before s (y ∷ w, all, e) = absurd (not_empty y (w ++ s) (sym e))

nothing_first : (a b : List ℕ) → [] ≡ a ++ b → a ≡ []
nothing_first [] b e = refl
nothing_first (x ∷ a) b e = absurd (not_empty x (a ++ b) (sym e))

nothing_second : (a b : List ℕ) → [] ≡ a ++ b → [] ≡ b
nothing_second [] b e = e
nothing_second (x ∷ a) b e = absurd (not_empty x (a ++ b) (sym e))

no_whole : (s : List ℕ) → IsWhole s → s ≡ [] → ⊥
no_whole s (inl w) e = not_empty 48 [] (sym w ∙ e)
no_whole s (inr w) e = not_empty w.0 w.1 (sym w.2 ∙ e)

no_number : (n r : List ℕ) → IsNumber n → [] ≡ n ++ r → ⊥
no_number n r h e =
    no_whole h.1 h.6 (nothing_first h.1 (h.2 ++ h.3)
    (nothing_second h.0 (h.1 ++ (h.2 ++ h.3)) (sym (nothing_first n r e) ∙ h.4)))

no_value : (t : Tree) (r : List ℕ) → Value t [] r → ⊥
no_value null r h = not_empty 110 _ (sym h)
no_value (boolean true) r h = not_empty 116 _ (sym h)
no_value (boolean false) r h = not_empty 102 _ (sym h)
no_value (number n) r h = no_number n r h.0 h.1
no_value (text c) r h = not_empty 34 _ (sym h.1)
no_value (array ps) r h = not_empty 91 h.0 (sym h.2)
no_value (object ps) r h = not_empty 123 h.0 (sym h.2)

none_behind : (ts : List Tree) (places : List Place) → Values ts places [] → ts ≡ []
none_behind [] places v = refl
none_behind (t ∷ ts) places v = absurd (no_value t v.1 (subst (λ s. Value t s v.1) (nothing_before v.0 v.3) v.4))

pub no_other : JsonLaws → (d : ℕ) (ps qs : Parts) (ts : List Tree) → Alike d (object ps) (object qs)
    → IsFrame (compact_text (object qs)) ts → ts ≡ object ps ∷ []
no_other j d ps qs [] h f = absurd (f.0 refl)
no_other j d ps qs (t ∷ ts) h f =
    let v = f.2 in
    let starts = no_space_before 123 _ v.0 brace v.3 in
    let same = j.one t (object ps) v.0 v.1 [] v.4 (apart_stops t v.1 v.5)
    (subst (λ s. Value (object ps) s []) (sym starts) (value_of j d ps qs h)) tt in
    let rest : ts ≡ [] = none_behind ts v.2 (subst (λ s. Values ts v.2 s) same.1 v.6) in
    ap (λ u. u ∷ ts) same.0 ∙ ap (λ us. object ps ∷ us) rest

-- ---- what it is read as

pub one_frame_of : {A : Type 0} (read : List Tree → Option (List A)) (x : A) → JsonLaws → (d : ℕ) (ps qs : Parts)
    → Alike d (object ps) (object qs) → d ≤ max_depth → read (object ps ∷ []) ≡ Some (x ∷ [])
    → FrameOf read (compact_text (object qs)) (x ∷ [])
one_frame_of read x j d ps qs h le e =
    record { values = object ps ∷ []; frame = one_frame j d ps qs h; shallow = omega (arith, h.shallow); are = e }

the_same : {A : Type 0} (x y : A) → Some x ≡ Some y → x ≡ y
the_same x y e = cc

pub no_other_of : {A : Type 0} (read : List Tree → Option (List A)) (x : A) (xs : List A) → JsonLaws
    → (d : ℕ) (ps qs : Parts) → Alike d (object ps) (object qs) → read (object ps ∷ []) ≡ Some (x ∷ [])
    → FrameOf read (compact_text (object qs)) xs → xs ≡ x ∷ []
no_other_of read x xs j d ps qs h e f =
    the_same xs (x ∷ []) (sym f.are ∙ ap read (no_other j d ps qs f.values h f.frame) ∙ e)
