-- The places of an array's or an object's values are their spans.
use Rattle.std.proofs.Common.{◌≡◌, ◌⊎◌, inl, inr, Option, ℕ, suc, ◌≤◌, List, [], ◌∷◌, ◌++◌, length, take, drop, map}
use Rattle.std.proofs.Common.{Bool, true, false, Some, None, refl, sym, ap, ◌∙◌, subst, append_assoc, arith}
use Rattle.std.specs.Prelude.{not, filter, cond, String}
use Rattle.std.specs.Str.{bytes_eq}
use Rattle.std.specs.List.{AllZip}
use Rattle.std.specs.declared.alloc.Global.{Global}
use Rattle.std.proofs.lemmas.List.{take-append-drop, append-nil}
use Rattle.std.proofs.lemmas.Slice.Zip.{all_zipped_more}
use Rattle.cf_json.specs.Grammar.{Tree, array, object, Parts, no_parts, part, Ends, Place, Value, Inside, More, depth}
use Rattle.cf_json.specs.Grammar.{parts_depth}
use Rattle.cf_json.specs.Spans.{Span, IsAt, Holds, span_at, max_depth}
use Rattle.cf_json.specs.Characters.{characters}
use Rattle.cf_json.specs.Members.{items_of, Fields, put, members_onto, Entry, entry_of, put_all, entries, IsMember}
use Rattle.cf_json.specs.Reading.{close}
use Rattle.cf_json.proofs.Meets.{Ends-space, Stops-Ends, more_stands}
use Rattle.cf_json.proofs.Documents.{Front, front_then, front_one, space_front, key_front, value_front, at_front}
use Rattle.cf_json.proofs.Nexts.{holds_of, object_holds}

-- ---- values

abbrev Stand : List ℕ → List Place → Parts → Type 0
Stand all places ps = AllZip (λ s t. IsAt all t s) (map (span_at all) places) (items_of ps)

one_stands : (all s r : List ℕ) (t : Tree) → Front all s → Value t s r → Ends r → depth t ≤ max_depth
    → IsAt all t (span_at all (length s, length r))
one_stands all s r t front value ends shallow =
    let whole = front_then all s r front (value_front t s r value) in
    let there = at_front all r whole in
    record {
      begins = omega arith;
      ends = omega arith;
      value = rw (at_front all s front, there) value;
      stops = rw there (Stops-Ends t r ends);
      shallow = shallow;
    }

more_stand : (ps : Parts) (keyed : Bool) (all s r : List ℕ) (places : List Place) → Front all s
    → More keyed ps places s (close keyed ∷ r) → parts_depth ps ≤ max_depth → Stand all places ps
more_stand no_parts keyed all s r places front h d = subst (λ u. Stand all u no_parts) (sym h.0) tt
more_stand (part k t ps) keyed all s r places front h d =
    let at = front_then all s h.2 front (front_then s h.0 h.2 (front_one 44 s h.0 h.6)
    (front_then h.0 h.1 h.2 (space_front h.0 h.1 h.7) (key_front keyed k h.1 h.2 h.8))) in
    let behind =
    front_then all h.2 h.4 at (front_then h.2 h.3 h.4 (value_front t h.2 h.3 h.9) (space_front h.3 h.4 h.10)) in
    let ends = Ends-space h.3 h.4 h.10 (more_stands keyed ps h.5 h.4 r h.11).1 in
    subst (λ u. Stand all u (part k t ps)) (sym h.12) (
      one_stands all h.2 h.3 t at h.9 ends (omega arith),
      more_stand ps keyed all h.4 r h.5 behind h.11 (omega arith),
    )

inside_stand : (ps : Parts) (keyed : Bool) (all s r : List ℕ) (places : List Place) → Front all s
    → Inside keyed ps places s (close keyed ∷ r) → parts_depth ps ≤ max_depth → Stand all places ps
inside_stand no_parts keyed all s r places front h d = subst (λ u. Stand all u no_parts) (sym h.0) tt
inside_stand (part k t ps) keyed all s r places front h d =
    let at = front_then all s h.1 front (front_then s h.0 h.1 (space_front s h.0 h.5)
    (key_front keyed k h.0 h.1 h.6)) in
    let behind =
    front_then all h.1 h.3 at (front_then h.1 h.2 h.3 (value_front t h.1 h.2 h.7) (space_front h.2 h.3 h.8)) in
    let ends = Ends-space h.2 h.3 h.8 (more_stands keyed ps h.4 h.3 r h.9).1 in
    subst (λ u. Stand all u (part k t ps)) (sym h.10)
    (one_stands all h.1 h.2 t at h.7 ends (omega arith), more_stand ps keyed all h.3 r h.4 behind h.9 (omega arith))

behind_span : (all : List ℕ) (n : ℕ) → Front all (drop n all)
behind_span all n = (take n all, sym (take-append-drop n all))

-- the spans of an array's items
pub items_stand : (all : List ℕ) (s : Span) (found : List Span) (ps : Parts) → IsAt all (array ps) s
    → ((qs : Parts) (places : List Place) → Holds false all s qs places → depth (array qs) ≤ max_depth
    → found ≡ map (span_at all) places) → AllZip (λ z t. IsAt all t z) found (items_of ps)
items_stand all s found ps h spans =
    let held = holds_of all ps s h in
    let shallow = h.shallow in
    subst (λ u. AllZip (λ z t. IsAt all t z) u (items_of ps)) (sym (spans ps held.0 held.1 shallow))
    (inside_stand ps false all (drop (suc s.from) all) (drop s.to all) held.0 (behind_span all (suc s.from))
    held.1.inside (omega arith))

-- ---- members

abbrev Fits : List ℕ → Entry → List ℕ × Tree → Type 0
Fits all e f = (e.0 ≡ f.0) × IsAt all f.1 e.1

-- what came behind those at hand fits the trees that the same parts add
abbrev Added : List ℕ → List Entry → List Entry → Parts → Type 0
Added all es raw ps =
    (more : List Entry) × (fields : Fields) × (raw ≡ es ++ more) × AllZip (Fits all) more fields
    × ((fs : Fields) → members_onto fs ps ≡ Some (put_all fs fields))

onto_one : (k : List ℕ) (t : Tree) (ps : Parts) (c : List ℕ) (fs : Fields) → characters k ≡ Some c
    → members_onto fs (part k t ps) ≡ members_onto (put fs (c, t)) ps
onto_one k t ps c fs e = rw e refl

onto_none : (k : List ℕ) (t : Tree) (ps : Parts) (fs : Fields) → characters k ≡ None
    → members_onto fs (part k t ps) ≡ None
onto_none k t ps fs e = rw e refl

entries_one : (all : List ℕ) (es : List Entry) (k : List ℕ) (t : Tree) (ps : Parts) (p : Place) (places : List Place)
    (c : List ℕ) → characters k ≡ Some c
    → entries all es (part k t ps) (p ∷ places) ≡ entries all (es ++ (c, span_at all p) ∷ []) ps places
entries_one all es k t ps p places c e = rw e refl

entries_none : (all : List ℕ) (es : List Entry) (k : List ℕ) (t : Tree) (ps : Parts) (p : Place) (places : List Place)
    → characters k ≡ None → entries all es (part k t ps) (p ∷ places) ≡ None
entries_none all es k t ps p places e = rw e refl

either : (k : List ℕ) → (characters k ≡ None) ⊎ ((c : List ℕ) × (characters k ≡ Some c))
either k = by_case (characters k) refl
  where
    by_case : (o : Option (List ℕ)) → characters k ≡ o → (characters k ≡ None)
        ⊎ ((c : List ℕ) × (characters k ≡ Some c))
    by_case None e = inl e
    by_case (Some c) e = inr (c, e)

added : (ps : Parts) (all : List ℕ) (es raw : List Entry) (places : List Place) → Stand all places ps
    → entries all es ps places ≡ Some raw → Added all es raw ps
added no_parts all es raw places st e = let same : raw ≡ es = cc in ([], [], same ∙ sym (append-nil es), tt, λ fs. refl)
added (part k t ps) all es raw [] st e = absurd st
added (part k t ps) all es raw (p ∷ places) st e =
    elim (either k) [
      | inl none ↦ let no : None ≡ Some raw = sym (entries_none all es k t ps p places none) ∙ e in absurd cc
      | inr c ↦
          let a = added ps all (es ++ (c.0, span_at all p) ∷ []) raw places st.1
          (sym (entries_one all es k t ps p places c.0 c.1) ∙ e) in (
            (c.0, span_at all p) ∷ a.0,
            (c.0, t) ∷ a.1,
            a.2 ∙ append_assoc es ((c.0, span_at all p) ∷ []) a.0,
            ((refl, st.0), a.3),
            λ fs. onto_one k t ps c.0 fs c.1 ∙ a.4 (put fs (c.0, t)),
          )
    ]

none_added : (ps : Parts) (all : List ℕ) (es : List Entry) (places : List Place) (fs : Fields) → Stand all places ps
    → entries all es ps places ≡ None → members_onto fs ps ≡ None
none_added no_parts all es places fs st e = absurd cc
none_added (part k t ps) all es [] fs st e = absurd st
none_added (part k t ps) all es (p ∷ places) fs st e =
    elim (either k) [
      | inl none ↦ onto_none k t ps fs none
      | inr c ↦ onto_one k t ps c.0 fs c.1 ∙ none_added ps all (es ++ (c.0, span_at all p) ∷ []) places
          (put fs (c.0, t)) st.1 (sym (entries_one all es k t ps p places c.0 c.1) ∙ e)
    ]

-- the two lists stay side by side as members are put into them
filters : (all : List ℕ) (key lock : List ℕ) → key ≡ lock → (es : List Entry) (fs : Fields) → AllZip (Fits all) es fs
    → AllZip (Fits all) (filter (λ f. not (bytes_eq f.0 key)) es) (filter (λ f. not (bytes_eq f.0 lock)) fs)
filters all key lock k [] [] z = tt
filters all key lock k [] (f ∷ fs) z = absurd z
filters all key lock k (e ∷ es) [] z = absurd z
filters all key lock k (e ∷ es) (f ∷ fs) z =
    let same : not (bytes_eq e.0 key) ≡ not (bytes_eq f.0 lock) =
    ap (λ u. not (bytes_eq u key)) z.0.0 ∙ ap (λ u. not (bytes_eq f.0 u)) k in
    kept_or_not (not (bytes_eq e.0 key)) (not (bytes_eq f.0 lock)) same e f (filter (λ u. not (bytes_eq u.0 key)) es)
    (filter (λ u. not (bytes_eq u.0 lock)) fs) z.0 (filters all key lock k es fs z.1)
  where
    kept_or_not : (a b : Bool) → a ≡ b → (x : Entry) (y : List ℕ × Tree) (xs : List Entry) (ys : Fields) → Fits all x y
        → AllZip (Fits all) xs ys → AllZip (Fits all) (cond a (x ∷ xs) xs) (cond b (y ∷ ys) ys)
    kept_or_not true true c x y xs ys h hs = (h, hs)
    kept_or_not false false c x y xs ys h hs = hs
    kept_or_not true false c x y xs ys h hs = absurd cc
    kept_or_not false true c x y xs ys h hs = absurd cc

put_fits : (all : List ℕ) (es ms : List Entry) (fs ns : Fields) → AllZip (Fits all) es fs → AllZip (Fits all) ms ns
    → AllZip (Fits all) (put_all es ms) (put_all fs ns)
put_fits all es [] fs [] z w = z
put_fits all es [] fs (n ∷ ns) z w = absurd w
put_fits all es (m ∷ ms) fs [] z w = absurd w
put_fits all es (m ∷ ms) fs (n ∷ ns) z w =
    put_fits all (put es m) ms (put fs n) ns
    (all_zipped_more (Fits all) (filter (λ f. not (bytes_eq f.0 m.0)) es) (filter (λ f. not (bytes_eq f.0 n.0)) fs) m n
    (filters all m.0 n.0 w.0.0 es fs z) w.0) w.1

as_members : (all : List ℕ) (ms : List (String Global × Span)) (fs : Fields) → AllZip (Fits all) (map entry_of ms) fs
    → AllZip (IsMember all) ms fs
as_members all [] [] z = tt
as_members all [] (f ∷ fs) z = absurd z
as_members all (m ∷ ms) [] z = absurd z
as_members all (m ∷ ms) (f ∷ fs) z = (z.0, as_members all ms fs z.1)

module _ (all : List ℕ) (s : Span) (ps : Parts) (h : IsAt all (object ps) s) where
  object_stands : Stand all (object_holds all ps s h).0 ps
  object_stands = let shallow = h.shallow in
      inside_stand ps true all (drop (suc s.from) all) (drop s.to all) (object_holds all ps s h).0
      (behind_span all (suc s.from)) (object_holds all ps s h).1.inside (omega arith)

  pub members_stand : (ms raw : List (String Global × Span)) → map entry_of ms ≡ put_all [] (map entry_of raw)
      → entries all [] ps (object_holds all ps s h).0 ≡ Some (map entry_of raw)
      → (fs : Fields) × (members_onto [] ps ≡ Some fs) × AllZip (IsMember all) ms fs
  members_stand ms raw last e =
      let a = added ps all [] (map entry_of raw) (object_holds all ps s h).0 object_stands e in
      let fits : AllZip (Fits all) (map entry_of raw) a.1 = subst (λ u. AllZip (Fits all) u a.1) (sym a.2) a.3 in (
        put_all [] a.1,
        a.4 [],
        as_members all ms (put_all [] a.1)
            (subst (λ u. AllZip (Fits all) u (put_all [] a.1)) (sym last)
            (put_fits all [] (map entry_of raw) [] a.1 tt fits)),
      )

  pub no_members : entries all [] ps (object_holds all ps s h).0 ≡ None → members_onto [] ps ≡ None
  no_members e = none_added ps all [] (object_holds all ps s h).0 [] object_stands e
