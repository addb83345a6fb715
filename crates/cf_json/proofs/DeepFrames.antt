-- A frame that is refused: which of the two faults it is.
use Rattle.std.proofs.Common.{◌≡◌, ◌≢◌, ℕ, suc, ◌≤◌, ◌<◌, List, [], ◌∷◌, ◌++◌, length, take, drop, Bool, true, false}
use Rattle.std.proofs.Common.{cond, ◌&&◌, Ok, Err, refl, sym, ap, ◌∙◌, subst, append_assoc, arith, inl, inr}
use Rattle.std.proofs.lemmas.Bool.{cases_lt}
use Rattle.std.proofs.lemmas.List.{length-append, take_at, append-nil, take-append-drop}
use Rattle.cf_json.specs.Grammar.{Tree, null, boolean, number, text, array, object, Space, Value, Place, Ends, depth}
use Rattle.cf_json.specs.Spans.{Span, max_depth}
use Rattle.cf_json.specs.Frame.{Values, Apart, NoMinus, IsFrame, OnlyDeepFrame, BeginsTooDeepFrame, RefusesFrame}
use Rattle.cf_json.specs.Frame.{frame_depth}
use Rattle.cf_json.specs.Stops.{fault_of}
use Rattle.cf_json.specs.declared.stop.Stop.{Stop}
use Rattle.cf_json.specs.declared.stop.Stop.TheVariants.{NotJson, TooDeep}
use Rattle.cf_json.specs.Reading.{stopped, value_end, numeric, apart_end, close}
use Rattle.cf_json.proofs.Tokens.{Unspaced, no_space, space_again}
use Rattle.cf_json.proofs.Meets.{Begins, value_begins, Begins-unspaced, value_meets}
use Rattle.cf_json.proofs.Alone.{value_alone}
use Rattle.cf_json.proofs.Moves.{Moves, value_moves}
use Rattle.cf_json.proofs.Frames.{Done, Head, following, apart_stops, apart_meets, apart_err, values_on, no_values}
use Rattle.cf_json.proofs.Frames.{next_value, deep_behind}
use Rattle.cf_json.proofs.Holes.{opening, Hole, hole_begins, hole_reads, hole_moves, closers, hole_filled}
use Rattle.cf_json.proofs.Deeps.{value_bars, bind_err}
use Rattle.cf_json.proofs.DeepTexts.{split_front, empty, empty_value, zero_number}

-- ---- values before a place stand there whatever follows its first byte

number_same : (own : List ℕ) (y : ℕ) (r z : List ℕ) → Ends (own ++ y ∷ r) × NoMinus (own ++ y ∷ r) → Ends (own ++ y ∷ z)
    × NoMinus (own ++ y ∷ z)
number_same [] y r z h = h
number_same (x ∷ own) y r z h = h

apart_same : (t : Tree) (own : List ℕ) (y : ℕ) (r z : List ℕ) → Apart t (own ++ y ∷ r) → Apart t (own ++ y ∷ z)
apart_same null own y r z h = tt
apart_same (boolean b) own y r z h = tt
apart_same (number n) own y r z h = number_same own y r z h
apart_same (text c) own y r z h = tt
apart_same (array ps) own y r z h = tt
apart_same (object ps) own y r z h = tt

done_moves : (ts : List Tree) (s : List ℕ) (y : ℕ) (r : List ℕ) → Done ts s (y ∷ r) → (own : List ℕ)
    × (s ≡ own ++ y ∷ r) × ((z : List ℕ) → Done ts (own ++ y ∷ z) (y ∷ z))
done_moves [] s y r h = (h.0, h.2, λ z. (h.0, h.1, refl))
done_moves (t ∷ ts) s y r h =
    let w = h.2.0 in
    let v = value_moves t h.0 h.1 h.3 in
    let d = done_moves ts h.1 y r h.6 in
    let behind : Apart t (d.0 ++ y ∷ r) = subst (Apart t) d.1 h.4 in
    let own : List ℕ = w ++ (v.0 ++ d.0) in
    let group : (z : List ℕ) → own ++ y ∷ z ≡ w ++ (v.0 ++ (d.0 ++ y ∷ z)) =
    λ z. append_assoc w (v.0 ++ d.0) (y ∷ z) ∙ ap (λ u. w ++ u) (append_assoc v.0 d.0 (y ∷ z)) in (
      own,
      h.2.2 ∙ ap (λ u. w ++ u) (v.1 ∙ ap (λ u. v.0 ++ u) d.1) ∙ sym (group r),
      λ z. (
        v.0 ++ (d.0 ++ y ∷ z),
        d.0 ++ y ∷ z,
        (w, h.2.1, group z),
        v.2 (d.0 ++ y ∷ z),
        apart_same t d.0 y r z behind,
        h.5,
        d.2 z,
      ),
    )

-- the way to a hole has a first byte
solid : (ks : List Bool) (s b : List ℕ) → length ks ≡ max_depth → Moves (Hole ks) s b → (y : ℕ) × (own : List ℕ)
    × (s ≡ y ∷ (own ++ b)) × ((z : List ℕ) → Hole ks (y ∷ (own ++ z)) z)
solid [] s b long m = absurd (omega (arith, long))
solid (keyed ∷ ks) s b long m =
    let h = m.2 [] in
    let e : m.0 ≡ opening keyed ∷ h.2 = sym (append-nil m.0) ∙ h.5 in
    (opening keyed, h.2, m.1 ∙ ap (λ u. u ++ b) e, λ z. subst (λ u. Hole (keyed ∷ ks) (u ++ z) z) e (m.2 z))

-- ---- frames that go on from there

apart_end_of : (t : Tree) → Apart t []
apart_end_of null = tt
apart_end_of (boolean b) = tt
apart_end_of (number n) = (tt, tt)
apart_end_of (text c) = tt
apart_end_of (array ps) = tt
apart_end_of (object ps) = tt

some_push : (ts : List Tree) (t : Tree) → ts ++ t ∷ [] ≢ []
some_push [] t e = cc
some_push (u ∷ ts) t e = cc

done_values : (ts : List Tree) (t : Tree) (s c : List ℕ) → Done ts s c → Value t c [] → (places : List Place)
    × Values (ts ++ t ∷ []) places s
done_values [] t s c h v = ((length c, 0) ∷ [], (c, [], [], h, v, apart_end_of t, (refl, no_space []), refl))
done_values (u ∷ ts) t s c h v =
    let d = done_values ts t h.1 c h.6 v in
    ((length h.0, length h.1) ∷ d.0, (h.0, h.1, d.0, h.2, h.3, h.4, d.1, refl))

done_shallow : (ts : List Tree) (t : Tree) (s c : List ℕ) → Done ts s c → depth t ≤ max_depth
    → frame_depth (ts ++ t ∷ []) ≤ max_depth
done_shallow [] t s c h d = omega (arith, d)
done_shallow (u ∷ ts) t s c h d = let i = done_shallow ts t h.1 c h.6 d in let j = h.5 in omega (arith, i, j)

same_start : (s a b : List ℕ) → Space s a → Unspaced a → Space s b → Unspaced b → a ≡ b
same_start s a b h u g v = sym (space_again s a h u) ∙ space_again s b g v

-- a value stands here, so a frame goes on here with a value
at_value : (us : List Tree) (places : List Place) (s c : List ℕ) → Space s c → Begins c → Values us places s
    → (u : Tree) × (vs : List Tree) × (r : List ℕ) × (others : List Place) × Value u c r × Apart u r
    × Values vs others r × (us ≡ u ∷ vs)
at_value us places s c h b v =
    let here : Values us places c =
    subst (Values us places) (space_again s c h (Begins-unspaced c b)) (values_on us places s v) in
    next_value c us places (Begins-unspaced c b) (λ none. let empty_here : c
    ≡ [] = no_values places c (subst (λ x. Values x places c) none here) (Begins-unspaced c b) in
    omega (arith, ap length (sym empty_here ∙ b.2))) here

-- each frame of a text goes on where these values end
done_follows : (ts us : List Tree) (places : List Place) (s c : List ℕ) → Done ts s c → Begins c → Values us places s
    → (u : Tree) × (vs : List Tree) × (r : List ℕ) × (others : List Place) × Value u c r × Apart u r
    × Values vs others r × (us ≡ ts ++ u ∷ vs)
done_follows [] us places s c h b v = at_value us places s c h b v
done_follows (t ∷ ts) us places s c h b v =
    let a = at_value us places s h.0 h.2 (value_begins t h.0 h.1 h.3) v in
    let same = value_alone t a.0 h.0 h.1 a.2 h.3 (apart_stops t h.1 h.4) a.4 (apart_stops a.0 a.2 a.5) in
    let i = done_follows ts a.1 a.3 h.1 c h.6 b (subst (Values a.1 a.3) (sym same.1) a.6) in
    (i.0, i.1, i.2, i.3, i.4, i.5, i.6, a.7 ∙ ap (λ x. x ∷ a.1) (sym same.0) ∙ ap (λ x. t ∷ x) i.7)

-- the first value of a frame that is too deep
abbrev FirstDeep : List ℕ → Type 0
FirstDeep s =
    (ts : List Tree) × (t : Tree) × (c r : List ℕ) × Done ts s c × Value t c r × Apart t r × (max_depth < depth t)

first_deep : (us : List Tree) (places : List Place) (s : List ℕ) → Values us places s → max_depth < frame_depth us
    → FirstDeep s
first_deep [] places s v d = absurd (omega (arith, d))
first_deep (u ∷ us) places s v d =
    elim (cases_lt max_depth (depth u)) [
      | inl deep ↦ ([], u, v.0, v.1, v.3, v.4, v.5, deep)
      | inr shallow ↦
          let i = first_deep us v.2 v.1 v.6 (omega (arith, d, shallow)) in
          (u ∷ i.0, i.1, i.2, i.3, (v.0, v.1, v.3, v.4, v.5, shallow, i.4), i.5, i.6, i.7)
    ]

-- ---- a hole behind these values, whatever stands in it

deep_at : (t : Tree) (c r : List ℕ) (m : ℕ) → Value t c r → Apart t r → value_end max_depth c ≡ Err (TooDeep m)
    → max_depth < depth t
deep_at t c r m v a e =
    let o = value_meets t max_depth c r v (apart_stops t r a) in
    elim (cases_lt max_depth (depth t)) [
      | inl deep ↦ deep
      | inr shallow ↦ let both : Err (TooDeep m) ≡ Ok r = sym e ∙ o.0 shallow in absurd cc
    ]

module _ (ts : List Tree) (ks : List Bool) (front : List ℕ) (y : ℕ) (own : List ℕ) (keyed : Bool)
    (long : length ks ≡ max_depth) (stands : (z : List ℕ) → Hole ks (y ∷ (own ++ z)) z)
    (done : (z : List ℕ) → Done ts (front ++ y ∷ z) (y ∷ z)) where
  hole_starts : (r : List ℕ) → Begins (y ∷ (own ++ opening keyed ∷ r))
  hole_starts r = hole_begins ks keyed (y ∷ (own ++ opening keyed ∷ r)) r (stands (opening keyed ∷ r))

  hole_deep : (r : List ℕ) → value_end max_depth (y ∷ (own ++ opening keyed ∷ r)) ≡ Err (TooDeep (suc (length r)))
  hole_deep r =
      ap (λ n. value_end n (y ∷ (own ++ opening keyed ∷ r))) (sym long)
      ∙ hole_reads ks keyed (y ∷ (own ++ opening keyed ∷ r)) r (stands (opening keyed ∷ r))

  only_deep : OnlyDeepFrame ((front ++ y ∷ own) ++ opening keyed ∷ [])
  only_deep =
      let group : (z : List ℕ) → ((front ++ y ∷ own) ++ opening keyed ∷ []) ++ z ≡ front ++ y
      ∷ (own ++ opening keyed ∷ z) =
      λ z. append_assoc (front ++ y ∷ own) (opening keyed ∷ []) z
      ∙ append_assoc front (y ∷ own) (opening keyed ∷ z) in
      let c : List ℕ = close keyed ∷ closers ks in
      let at : List ℕ = y ∷ (own ++ opening keyed ∷ c) in
      let f = hole_filled ks at (opening keyed ∷ c) [] (empty keyed) (stands (opening keyed ∷ c))
      (empty_value keyed (closers ks) (closers ks ++ []) (sym (append-nil (closers ks)))) in
      let d = done_values ts f.0 (front ++ at) at (done (own ++ opening keyed ∷ c)) f.1 in (
        (c, ts ++ f.0 ∷ [], (some_push ts f.0, d.0, subst (Values (ts ++ f.0 ∷ []) d.0) (sym (group c)) d.1)),
        λ rest us frame.
            let v : Values us frame.1 (front ++ y ∷ (own ++ opening keyed ∷ rest)) =
            subst (Values us frame.1) (group rest) frame.2 in
            let i = done_follows ts us frame.1 (front ++ y ∷ (own ++ opening keyed ∷ rest))
            (y ∷ (own ++ opening keyed ∷ rest)) (done (own ++ opening keyed ∷ rest)) (hole_starts rest) v in
            let deep = deep_at i.0 (y ∷ (own ++ opening keyed ∷ rest)) i.2 (suc (length rest)) i.4 i.5
            (hole_deep rest) in
            subst (λ x. max_depth < frame_depth x) (sym i.7) (deep_behind ts i.1 i.0 max_depth deep),
      )

  -- a zero in the hole makes a frame that is read
  with_zero : (us : List Tree) × (places : List Place) × (us ≢ [])
      × Values us places (front ++ y ∷ (own ++ 48 ∷ closers ks)) × (frame_depth us ≤ max_depth)
  with_zero =
      let c : List ℕ = 48 ∷ closers ks in
      let at : List ℕ = y ∷ (own ++ c) in
      let f = hole_filled ks at c [] (number (48 ∷ [])) (stands c)
      (zero_number, ap (λ u. 48 ∷ u) (sym (append-nil (closers ks)))) in
      let high = f.3 in
      let d = done_values ts f.0 (front ++ at) at (done (own ++ c)) f.1 in (
        ts ++ f.0 ∷ [],
        d.0,
        some_push ts f.0,
        d.1,
        done_shallow ts f.0 (front ++ at) at (done (own ++ c))
            (omega (arith, high, long)),
      )

-- ---- the two faults

read_deep : (s : List ℕ) (m : ℕ) → apart_end max_depth s ≡ Err (TooDeep m) → value_end max_depth s ≡ Err (TooDeep m)
unfolding apart_end
read_deep s m e =
    elim (bind_err (value_end max_depth s) (λ r. cond (numeric s && numeric r) (stopped r) (Ok r)) (TooDeep m) e) [
      | inl h ↦ h
      | inr h ↦ absurd (by_case (numeric s && numeric h.0) h.0 h.2)
    ]
  where
    by_case : (b : Bool) (r : List ℕ) → cond b (stopped r) (Ok r) ≡ Err (TooDeep m) → ⊥
    by_case true r g = cc
    by_case false r g = cc

begins_deep_frame : (all rest : List ℕ) (found : List Span) (h : Head all rest found) (m : ℕ)
    → apart_end max_depth rest ≡ Err (TooDeep m) → BeginsTooDeepFrame all
begins_deep_frame all rest found h m e =
    let b = value_bars max_depth rest m (read_deep rest m e) in
    let x = opening b.1 in
    let w = solid b.0 rest (x ∷ b.2) b.3 (hole_moves b.0 rest (x ∷ b.2) b.4) in
    let d = done_moves h.so_far.trees all w.0 (w.1 ++ x ∷ b.2) (subst (Done h.so_far.trees all) w.2 h.so_far.done) in
    let p : List ℕ = (d.0 ++ w.0 ∷ w.1) ++ x ∷ [] in
    let whole : all ≡ p ++ b.2 =
    d.1 ∙ sym (append_assoc d.0 (w.0 ∷ w.1) (x ∷ b.2)) ∙ sym (append_assoc (d.0 ++ w.0 ∷ w.1) (x ∷ []) b.2) in
    let front : take (length p) all ≡ p = ap (take (length p)) whole ∙ take_at p b.2 (length p) refl in
    (length p, subst OnlyDeepFrame (sym front) (only_deep h.so_far.trees b.0 d.0 w.0 w.1 b.1 b.3 w.3 d.2))

-- the values before a place that is too deep, and those before one that is no JSON
not_both_faults : (ts us : List Tree) (s c r : List ℕ) (m left : ℕ) → Done ts s c → Begins c
    → value_end max_depth c ≡ Err (TooDeep m) → Done us s r → Unspaced r → apart_end max_depth r ≡ Err (NotJson left)
    → ⊥
not_both_faults [] [] s c r m left h b e g u n =
    let same = same_start s c r h (Begins-unspaced c b) g u in
    let both : Err (TooDeep m) ≡ Err (NotJson left) =
    sym (apart_err max_depth r (TooDeep m) (ap (value_end max_depth) (sym same) ∙ e)) ∙ n in
    cc
not_both_faults [] (v ∷ us) s c r m left h b e g u n =
    let same = same_start s c g.0 h (Begins-unspaced c b) g.2 (Begins-unspaced g.0 (value_begins v g.0 g.1 g.3)) in
    let deep = deep_at v g.0 g.1 m g.3 g.4 (ap (value_end max_depth) (sym same) ∙ e) in
    let shallow = g.5 in
    omega (arith, deep, shallow)
not_both_faults (t ∷ ts) [] s c r m left h b e g u n =
    let same = same_start s h.0 r h.2 (Begins-unspaced h.0 (value_begins t h.0 h.1 h.3)) g u in
    let read = (apart_meets t max_depth h.0 h.1 h.3 h.4).0 h.5 in
    let both : Ok h.1 ≡ Err (NotJson left) = sym read ∙ ap (apart_end max_depth) same ∙ n in
    cc
not_both_faults (t ∷ ts) (v ∷ us) s c r m left h b e g u n =
    let same = same_start s h.0 g.0 h.2 (Begins-unspaced h.0 (value_begins t h.0 h.1 h.3)) g.2
    (Begins-unspaced g.0 (value_begins v g.0 g.1 g.3)) in
    let alone = value_alone t v h.0 h.1 g.1 h.3 (apart_stops t h.1 h.4) (subst (λ x. Value v x g.1) (sym same) g.3)
    (apart_stops v g.1 g.4) in
    not_both_faults ts us h.1 c r m left h.6 b e (subst (λ x. Done us x r) (sym alone.1) g.6) u n

not_deep_frame : (all rest : List ℕ) (found : List Span) (h : Head all rest found) (left : ℕ)
    → apart_end max_depth rest ≡ Err (NotJson left) → BeginsTooDeepFrame all → ⊥
not_deep_frame all rest found h left e deep =
    let p : List ℕ = take deep.0 all in
    let ex = deep.1.0 in
    let more = ex.0 in
    let d = first_deep ex.1 ex.2.1 (p ++ more) ex.2.2 (deep.1.1 more ex.1 ex.2) in
    let o = (value_meets d.1 max_depth d.2 d.3 d.5 (apart_stops d.1 d.3 d.6)).1 d.7 in
    let b = value_bars max_depth d.2 o.0 o.1 in
    let x = opening b.1 in
    let w = solid b.0 d.2 (x ∷ b.2) b.3 (hole_moves b.0 d.2 (x ∷ b.2) b.4) in
    let own : List ℕ = w.0 ∷ w.1 in
    let dm = done_moves d.0 (p ++ more) w.0 (w.1 ++ x ∷ b.2) (subst (Done d.0 (p ++ more)) w.2 d.4) in
    let pre : List ℕ = dm.0 ++ own in
    let cut : p ++ more ≡ pre ++ x ∷ b.2 = dm.1 ∙ sym (append_assoc dm.0 own (x ∷ b.2)) in
    elim (cases_lt (length pre) (length p)) [
      | inl lt ↦
          let long : length (pre ++ x ∷ []) ≤ length p = omega (arith, lt, length-append pre (x ∷ [])) in
          let q = split_front (pre ++ x ∷ []) p b.2 more (append_assoc pre (x ∷ []) b.2 ∙ sym cut) long in
          let z : List ℕ = q.0 ++ drop deep.0 all in
          let at : List ℕ = w.0 ∷ (w.1 ++ x ∷ z) in
          let whole : all ≡ dm.0 ++ at =
          sym (take-append-drop deep.0 all) ∙ ap (λ u. u ++ drop deep.0 all) q.1
          ∙ append_assoc (pre ++ x ∷ []) q.0 (drop deep.0 all) ∙ append_assoc pre (x ∷ []) z
          ∙ append_assoc dm.0 own (x ∷ z) in
          let there : Done d.0 all at = subst (λ u. Done d.0 u at) (sym whole) (dm.2 (w.1 ++ x ∷ z)) in
          not_both_faults d.0 h.so_far.trees all at rest (suc (length z)) left there
          (hole_starts d.0 b.0 dm.0 w.0 w.1 b.1 b.3 w.3 dm.2 z) (hole_deep d.0 b.0 dm.0 w.0 w.1 b.1 b.3 w.3 dm.2 z)
          h.so_far.done h.unspaced e
      | inr ge ↦
          let q = split_front p pre more (x ∷ b.2) cut ge in
          let c : List ℕ = 48 ∷ closers b.0 in
          let f = with_zero d.0 b.0 dm.0 w.0 w.1 b.1 b.3 w.3 dm.2 in
          let text : p ++ (q.0 ++ c) ≡ dm.0 ++ w.0 ∷ (w.1 ++ c) =
          sym (append_assoc p q.0 c) ∙ ap (λ u. u ++ c) (sym q.1) ∙ append_assoc dm.0 own c in
          let too = deep.1.1 (q.0 ++ c) f.0 (f.2, f.1, subst (Values f.0 f.1) (sym text) f.3) in
          let not = f.4 in
          absurd (omega (arith, too, not))
    ]

module _ (all rest : List ℕ) (found : List Span) (h : Head all rest found) where
  not_refused : (left : ℕ) → apart_end max_depth rest ≡ Err (NotJson left) → (ts : List Tree) → IsFrame all ts → ⊥
  not_refused left e ts f =
      let n = following all rest found h ts f in
      let m = apart_meets n.0 max_depth rest n.2 n.4 n.5 in
      elim (cases_lt max_depth (depth n.0)) [
        | inl deep ↦ let o = m.1 deep in let both : Err (NotJson left) ≡ Err (TooDeep o.0) = sym e ∙ o.1 in cc
        | inr shallow ↦ let both : Err (NotJson left) ≡ Ok n.2 = sym e ∙ m.0 shallow in absurd cc
      ]

  is_deep : (left : ℕ) → apart_end max_depth rest ≡ Err (TooDeep left) → (ts : List Tree) → IsFrame all ts
      → max_depth < frame_depth ts
  is_deep left e ts f =
      let n = following all rest found h ts f in
      subst (λ x. max_depth < frame_depth x) (sym n.7)
      (deep_behind h.so_far.trees n.1 n.0 max_depth (deep_at n.0 rest n.2 left n.4 n.5 (read_deep rest left e)))

  pub frame_refused : (e : Stop) → apart_end max_depth rest ≡ Err e → RefusesFrame all (fault_of (length all) e)
  frame_refused (NotJson left) e = (omega arith, not_refused left e, not_deep_frame all rest found h left e)
  frame_refused (TooDeep left) e = (omega arith, is_deep left e, begins_deep_frame all rest found h left e)
