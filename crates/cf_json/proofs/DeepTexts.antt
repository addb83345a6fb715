-- A text that begins only texts whose values nest too deep is one in which the reading meets a bracket too many, and
-- the other way round.
use Rattle.std.proofs.Common.{◌≡◌, ℕ, suc, ◌+◌, ◌≤◌, List, [], ◌∷◌, ◌++◌, length, take, drop, Bool, true, false, Err}
use Rattle.std.proofs.Common.{refl, sym, ap, ◌∙◌, subst, append_assoc, arith, inl, inr}
use Rattle.std.specs.List.{AllByRecursion}
use Rattle.std.proofs.lemmas.Bool.{cases_lt}
use Rattle.std.proofs.lemmas.List.{length-append, length-drop, drop_at, take_at, append-nil, nil_from_length}
use Rattle.std.proofs.lemmas.List.{take-append-drop}
use Rattle.cf_json.specs.Bytes.{is_space}
use Rattle.cf_json.specs.Grammar.{Tree, number, array, object, no_parts, Value, IsNumber, depth}
use Rattle.cf_json.specs.Spans.{Span, Document, OnlyDeep, BeginsTooDeep, max_depth}
use Rattle.cf_json.specs.declared.stop.Stop.TheVariants.{TooDeep}
use Rattle.cf_json.specs.Reading.{after_space, value_end, close}
use Rattle.cf_json.proofs.Tokens.{space_takes, spaces_again}
use Rattle.cf_json.proofs.Meets.{Begins-unspaced}
use Rattle.cf_json.proofs.Documents.{met, is_deep}
use Rattle.cf_json.proofs.Holes.{opening, Hole, hole_begins, hole_reads, hole_moves, closers, hole_filled}
use Rattle.cf_json.proofs.Deeps.{value_bars}

-- two ways to cut one text
pub split_front : (p a s b : List ℕ) → p ++ s ≡ a ++ b → length p ≤ length a → (q : List ℕ) × (a ≡ p ++ q)
    × (s ≡ q ++ b)
split_front [] a s b e le = (a, refl, e)
split_front (x ∷ p) [] s b e le = absurd (omega arith)
split_front (x ∷ p) (y ∷ a) s b e le =
    let first : x ≡ y = cc in
    let more : p ++ s ≡ a ++ b = cc in
    let i = split_front p a s b more (omega arith) in
    (i.0, ap (λ u. u ∷ a) (sym first) ∙ ap (λ u. x ∷ u) i.1, i.2)

document_of : (w own : List ℕ) (t : Tree) → AllByRecursion (λ x. is_space x ≡ true) w → Value t own []
    → Document (w ++ own) t (record { from = length w; to = length (w ++ own) })
document_of w own t a v =
    let start : drop (length w) (w ++ own) ≡ own = drop_at w own (length w) refl in
    let stop : drop (length (w ++ own)) (w ++ own) ≡ [] =
    nil_from_length (drop (length (w ++ own)) (w ++ own))
    (omega (arith, length-drop (length (w ++ own)) (w ++ own))) in
    record {
      before = rw start (w, a, refl);
      begins = omega (arith, length-append w own);
      ends = omega arith;
      value = rw (start, stop) v;
      after = rw stop ([], tt, refl);
    }

-- the empty array or object
abbrev pub empty : Bool → Tree
empty false = array no_parts
empty true = object no_parts

pub empty_value : (keyed : Bool) (r q : List ℕ) → r ≡ q → Value (empty keyed) (opening keyed ∷ close keyed ∷ r) q
empty_value false r q e = (93 ∷ r, [], refl, (refl, ([], tt, ap (λ u. 93 ∷ u) e)))
empty_value true r q e = (125 ∷ r, [], refl, (refl, ([], tt, ap (λ u. 125 ∷ u) e)))

pub zero_number : IsNumber (48 ∷ [])
zero_number = ([], 48 ∷ [], [], [], refl, inl refl, inl refl, inl refl, inl refl)

-- a hole behind white space, whatever stands in it
module _ (w own : List ℕ) (ks : List Bool) (spaces : AllByRecursion (λ x. is_space x ≡ true) w)
    (stands : (z : List ℕ) → Hole ks (own ++ z) z) (long : length ks ≡ max_depth) where
  starts : (keyed : Bool) (r : List ℕ) → after_space (w ++ (own ++ opening keyed ∷ r)) ≡ own ++ opening keyed ∷ r
  starts keyed r =
      spaces_again w (own ++ opening keyed ∷ r) spaces
      (Begins-unspaced (own ++ opening keyed ∷ r) (hole_begins ks keyed (own ++ opening keyed ∷ r) r
      (stands (opening keyed ∷ r))))

  reads_deep : (keyed : Bool) (r : List ℕ) → value_end max_depth (after_space (w ++ (own ++ opening keyed ∷ r)))
      ≡ Err (TooDeep (suc (length r)))
  reads_deep keyed r =
      ap (value_end max_depth) (starts keyed r) ∙ ap (λ n. value_end n (own ++ opening keyed ∷ r)) (sym long)
      ∙ hole_reads ks keyed (own ++ opening keyed ∷ r) r (stands (opening keyed ∷ r))

  filled : (u : Tree) (v : List ℕ) → Value u (v ++ closers ks) (closers ks ++ []) → (t : Tree) × (s : Span)
      × Document (w ++ (own ++ (v ++ closers ks))) t s × (depth t ≤ max_depth + depth u)
  filled u v value =
      let f = hole_filled ks (own ++ (v ++ closers ks)) (v ++ closers ks) [] u (stands (v ++ closers ks)) value in
      let high = f.3 in (
        f.0,
        record { from = length w; to = length (w ++ (own ++ (v ++ closers ks))) },
        document_of w (own ++ (v ++ closers ks)) f.0 spaces f.1,
        omega (arith, high, long),
      )

two_more : (w own : List ℕ) (x : ℕ) (z : List ℕ) → ((w ++ own) ++ x ∷ []) ++ z ≡ w ++ (own ++ x ∷ z)
two_more w own x z = append_assoc (w ++ own) (x ∷ []) z ∙ append_assoc w own (x ∷ z)

pub begins_deep : (all : List ℕ) (m : ℕ) → value_end max_depth (after_space all) ≡ Err (TooDeep m) → BeginsTooDeep all
begins_deep all m e =
    let b = value_bars max_depth (after_space all) m e in
    let ks = b.0 in let x = opening b.1 in
    let space = space_takes all in
    let w = space.0 in
    let mv = hole_moves ks (after_space all) (x ∷ b.2) b.4 in
    let own = mv.0 in
    let p : List ℕ = (w ++ own) ++ x ∷ [] in
    let whole : all ≡ p ++ b.2 = space.2 ∙ ap (λ u. w ++ u) mv.1 ∙ sym (two_more w own x b.2) in
    let front : take (length p) all ≡ p = ap (take (length p)) whole ∙ take_at p b.2 (length p) refl in
    let c : List ℕ = close b.1 ∷ closers ks in
    let done = filled w own ks space.1 mv.2 b.3 (empty b.1) (x ∷ close b.1 ∷ [])
    (empty_value b.1 (closers ks) (closers ks ++ []) (sym (append-nil (closers ks)))) in
    let only : OnlyDeep p = (
      (c, done.0, done.1, subst (λ u. Document u done.0 done.1) (sym (two_more w own x c)) done.2),
      λ rest t s h.
          let at : Document (w ++ (own ++ x ∷ rest)) t s = subst (λ u. Document u t s) (two_more w own x rest) h in
          is_deep (w ++ (own ++ x ∷ rest)) t s (after_space (w ++ (own ++ x ∷ rest))) refl at (suc (length rest))
          (sym (reads_deep w own ks space.1 mv.2 b.3 b.1 rest)),
    ) in
    (length p, subst OnlyDeep (sym front) only)

pub deep_read : (all : List ℕ) → BeginsTooDeep all → (m : ℕ) × (value_end max_depth (after_space all) ≡ Err (TooDeep m))
deep_read all h =
    let p : List ℕ = take h.0 all in
    let ex = h.1.0 in
    let rest = ex.0 in
    let whole : List ℕ = p ++ rest in
    let deep = h.1.1 rest ex.1 ex.2 ex.3 in
    let o = (met whole ex.1 ex.2 (after_space whole) refl ex.3).outcome.1 deep in
    let b = value_bars max_depth (after_space whole) o.0 o.1 in
    let ks = b.0 in let x = opening b.1 in
    let space = space_takes whole in
    let w = space.0 in
    let mv = hole_moves ks (after_space whole) (x ∷ b.2) b.4 in
    let own = mv.0 in
    let pre : List ℕ = w ++ own in
    let cut : whole ≡ pre ++ x ∷ b.2 = space.2 ∙ ap (λ u. w ++ u) mv.1 ∙ sym (append_assoc w own (x ∷ b.2)) in
    elim (cases_lt (length pre) (length p)) [
      | inl lt ↦
          let long : length (pre ++ x ∷ []) ≤ length p = omega (arith, lt, length-append pre (x ∷ [])) in
          let q = split_front (pre ++ x ∷ []) p b.2 rest (append_assoc pre (x ∷ []) b.2 ∙ sym cut) long in
          let z : List ℕ = q.0 ++ drop h.0 all in
          let text : all ≡ w ++ (own ++ x ∷ z) =
          sym (take-append-drop h.0 all) ∙ ap (λ u. u ++ drop h.0 all) q.1
          ∙ append_assoc (pre ++ x ∷ []) q.0 (drop h.0 all) ∙ two_more w own x z in (
            suc (length z),
            ap (λ u. value_end max_depth (after_space u)) text
                ∙ reads_deep w own ks space.1 mv.2 b.3 b.1 z,
          )
      | inr ge ↦
          let q = split_front p pre rest (x ∷ b.2) cut ge in
          let c : List ℕ = 48 ∷ closers ks in
          let done = filled w own ks space.1 mv.2 b.3 (number (48 ∷ [])) (48 ∷ [])
          (zero_number, ap (λ u. 48 ∷ u) (sym (append-nil (closers ks)))) in
          let text : p ++ (q.0 ++ c) ≡ w ++ (own ++ c) =
          sym (append_assoc p q.0 c) ∙ ap (λ u. u ++ c) (sym q.1) ∙ append_assoc w own c in
          let too = h.1.1 (q.0 ++ c) done.0 done.1 (subst (λ u. Document u done.0 done.1) (sym text) done.2) in
          let not = done.3 in
          absurd (omega (arith, too, not))
    ]
