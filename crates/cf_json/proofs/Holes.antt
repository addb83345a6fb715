-- The place where a reading meets a bracket that opens a level too many: the way there, and what may stand in its
-- place.
use Rattle.std.proofs.Common.{◌≡◌, ℕ, zero, suc, ◌+◌, ◌≤◌, max, List, [], ◌∷◌, ◌++◌, length, Bool, true, false, Err}
use Rattle.std.proofs.Common.{refl, sym, ap, ◌∙◌, subst, append_assoc, arith}
use Rattle.cf_json.specs.Grammar.{Tree, array, object, Parts, no_parts, part, Ends, Space, Key, Place, Value, Inside}
use Rattle.cf_json.specs.Grammar.{depth, parts_depth}
use Rattle.cf_json.specs.declared.stop.Stop.{Stop}
use Rattle.cf_json.specs.declared.stop.Stop.TheVariants.{TooDeep}
use Rattle.cf_json.specs.Reading.{after_space, close, then_more, parts_end, inside_end, too_deep, value_end}
use Rattle.cf_json.proofs.Turns.{opened, value_end-cons, inside_open, part_passes, value_stops, then_comma}
use Rattle.cf_json.proofs.Tokens.{Unspaced, space_takes, space_again}
use Rattle.cf_json.proofs.Meets.{Begins, value_begins, key_begins, Begins-unspaced, not_close, Ends-space, Stops-Ends}
use Rattle.cf_json.proofs.Meets.{comma_stands, key_again, value_meets, space_shorter, key_shorter, value_shorter}
use Rattle.cf_json.proofs.Meets.{bracket_begins, brace_begins}
use Rattle.cf_json.proofs.Moves.{Rule, Moves, Then, One, moves_then, moves_as, one_moves, space_moves, key_moves}
use Rattle.cf_json.proofs.Moves.{value_moves}

abbrev pub opening : Bool → ℕ
opening false = 91
opening true = 123

-- ---- the way there

-- from behind a bracket or a comma over these parts, each with its comma, to where another part begins
abbrev pub Before : ℕ → Bool → Parts → List ℕ → List ℕ → Type 0
Before n keyed no_parts s r = Space s r
Before n keyed (part k t ps) s r =
    (s0 s1 s2 s3 s4 : List ℕ) × Space s s0 × Key keyed k s0 s1 × Value t s1 s2 × Space s2 s3 × (s3 ≡ 44 ∷ s4)
    × (depth t ≤ n) × Before n keyed ps s4 r

-- from where a value begins, into a level for each of the list, to where another value begins
abbrev pub Hole : List Bool → List ℕ → List ℕ → Type 0
Hole [] s b = s ≡ b
Hole (keyed ∷ ks) s b =
    (ps : Parts) × (k s1 a c : List ℕ) × (s ≡ opening keyed ∷ s1) × Before (length ks) keyed ps s1 a × Key keyed k a c
    × Hole ks c b

opening_begins : (keyed : Bool) (s r : List ℕ) → s ≡ opening keyed ∷ r → Begins s
opening_begins false s r e = (91, r, e, bracket_begins, (λ e. omega arith), (λ e. omega arith))
opening_begins true s r e = (123, r, e, brace_begins, (λ e. omega arith), (λ e. omega arith))

pub hole_begins : (ks : List Bool) (keyed : Bool) (s r : List ℕ) → Hole ks s (opening keyed ∷ r) → Begins s
hole_begins [] keyed s r h = opening_begins keyed s r h
hole_begins (l ∷ ks) keyed s r h = opening_begins l s h.2 h.5

-- ---- it is read so

module _ (d : ℕ) (keyed : Bool) (e : Stop) where
  way_reads : (ps : Parts) (k s a c : List ℕ) (n : ℕ) → Before d keyed ps s a → Key keyed k a c → Begins c
      → value_end d c ≡ Err e → length (after_space s) ≤ n
      → parts_end (value_end d) keyed (suc n) (after_space s) ≡ Err e
  way_reads no_parts k s a c n h key b v le =
      let first = space_again s a h (Begins-unspaced a (key_begins keyed k a c key b)) in
      ap (parts_end (value_end d) keyed (suc n)) first
      ∙ value_stops (value_end d) keyed n a c e (key_again keyed k a c key (Begins-unspaced c b)) v
  way_reads (part l t ps) k s a c zero h key b v le =
      let b1 = value_begins t h.1 h.2 h.7 in
      let b0 = key_begins keyed l h.0 h.1 h.6 b1 in
      let first = space_again s h.0 h.5 (Begins-unspaced h.0 b0) in
      absurd (omega (arith, ap length (first ∙ b0.2)))
  way_reads (part l t ps) k s a c (suc n) h key b v le =
      let b1 = value_begins t h.1 h.2 h.7 in
      let first = space_again s h.0 h.5 (Begins-unspaced h.0 (key_begins keyed l h.0 h.1 h.6 b1)) in
      let st = subst (λ u. Unspaced u × Ends u) (sym h.9) (comma_stands h.4) in
      let value = (value_meets t d h.1 h.2 h.7 (Stops-Ends t h.2 (Ends-space h.2 h.3 h.8 st.1))).0 h.10 in
      let passes =
      part_passes (value_end d) keyed (suc n) h.0 h.1 h.2 (key_again keyed l h.0 h.1 h.6 (Begins-unspaced h.1 b1))
      value in
      let behind = space_again h.2 h.3 h.8 st.0 in
      let comma = then_comma keyed (parts_end (value_end d) keyed (suc n)) h.3 44 h.4 h.9
      (not_close keyed 44 (λ e. omega arith) (λ e. omega arith)) refl in
      let fits : length (after_space h.4) ≤ n =
      omega (
        arith,
        ap length first,
        space_shorter h.4 (after_space h.4) (space_takes h.4),
        key_shorter keyed l h.0 h.1 h.6,
        value_shorter t h.1 h.2 h.7,
        space_shorter h.2 h.3 h.8,
        ap length h.9,
      ) in
      ap (parts_end (value_end d) keyed (suc (suc n))) first ∙ passes
      ∙ ap (then_more keyed (parts_end (value_end d) keyed (suc n))) behind ∙ comma
      ∙ way_reads ps k h.4 a c n h.11 key b v fits

  way_begins : (ps : Parts) (k s a c : List ℕ) → Before d keyed ps s a → Key keyed k a c → Begins c
      → Begins (after_space s)
  way_begins no_parts k s a c h key b = let b0 = key_begins keyed k a c key b in
      subst Begins (sym (space_again s a h (Begins-unspaced a b0))) b0
  way_begins (part l t ps) k s a c h key b =
      let b0 = key_begins keyed l h.0 h.1 h.6 (value_begins t h.1 h.2 h.7) in
      subst Begins (sym (space_again s h.0 h.5 (Begins-unspaced h.0 b0))) b0

  inside_reads : (ps : Parts) (k s a c : List ℕ) → Before d keyed ps s a → Key keyed k a c → Begins c
      → value_end d c ≡ Err e → inside_end (value_end d) keyed s ≡ Err e
  inside_reads ps k s a c h key b v =
      let f = way_begins ps k s a c h key b in
      inside_open (value_end d) keyed s f.0 f.1 f.2 (not_close keyed f.0 f.4 f.5)
      ∙ way_reads ps k s a c (length (after_space s)) h key b v (omega arith)

pub opened_next : (d : ℕ) (keyed : Bool) (s : List ℕ) → opened (suc d) keyed s ≡ inside_end (value_end d) keyed s
unfolding opened
opened_next d keyed s = refl

pub opened_last : (keyed : Bool) (s : List ℕ) → opened zero keyed s ≡ too_deep keyed s
unfolding opened
opened_last keyed s = refl

opens_with : (d : ℕ) (keyed : Bool) (s s1 : List ℕ) → s ≡ opening keyed ∷ s1 → value_end d s ≡ opened d keyed s1
opens_with d false s s1 e = value_end-cons d s 91 s1 e
opens_with d true s s1 e = value_end-cons d s 123 s1 e

pub hole_reads : (ks : List Bool) (keyed : Bool) (s r : List ℕ) → Hole ks s (opening keyed ∷ r)
    → value_end (length ks) s ≡ Err (TooDeep (suc (length r)))
hole_reads [] keyed s r h = opens_with 0 keyed s r h ∙ opened_last keyed r
hole_reads (l ∷ ks) keyed s r h =
    opens_with (suc (length ks)) l s h.2 h.5 ∙ opened_next (length ks) l h.2
    ∙ inside_reads (length ks) l (TooDeep (suc (length r))) h.0 h.1 h.2 h.3 h.4 h.6 h.7 (hole_begins ks keyed h.4 r h.8)
    (hole_reads ks keyed h.4 r h.8)

-- ---- it stands before any rest

before_moves : (n : ℕ) (keyed : Bool) (ps : Parts) (s r : List ℕ) → Before n keyed ps s r
    → Moves (Before n keyed ps) s r
before_moves n keyed no_parts s r h = space_moves s r h
before_moves n keyed (part k t ps) s r h =
    let tail : Rule = Then (One 44) (Before n keyed ps) in
    moves_as (Then Space (Then (Key keyed k) (Then (Value t) (Then Space tail)))) (Before n keyed (part k t ps)) s r
    (λ a b m. let u = m.2 in let v = u.2 in let w = v.2 in let x = w.2 in (
      m.0,
      u.0,
      v.0,
      w.0,
      x.0,
      m.1,
      u.1,
      v.1,
      w.1,
      x.1,
      h.10,
      x.2,
    ))
    (moves_then Space (Then (Key keyed k) (Then (Value t) (Then Space tail))) s h.0 r (space_moves s h.0 h.5)
    (moves_then (Key keyed k) (Then (Value t) (Then Space tail)) h.0 h.1 r (key_moves keyed k h.0 h.1 h.6)
    (moves_then (Value t) (Then Space tail) h.1 h.2 r (value_moves t h.1 h.2 h.7)
    (moves_then Space tail h.2 h.3 r (space_moves h.2 h.3 h.8)
    (moves_then (One 44) (Before n keyed ps) h.3 h.4 r (one_moves 44 h.3 h.4 h.9)
    (before_moves n keyed ps h.4 r h.11))))))

pub hole_moves : (ks : List Bool) (s b : List ℕ) → Hole ks s b → Moves (Hole ks) s b
hole_moves [] s b h = ([], h, λ z. refl)
hole_moves (keyed ∷ ks) s b h =
    let inner : Rule = Then (Key keyed h.1) (Hole ks) in
    let whole : Rule = Then (One (opening keyed)) (Then (Before (length ks) keyed h.0) inner) in
    moves_as whole (Hole (keyed ∷ ks)) s b
    (λ a c m. let u = m.2 in let v = u.2 in (h.0, h.1, m.0, u.0, v.0, m.1, u.1, v.1, v.2))
    (moves_then (One (opening keyed)) (Then (Before (length ks) keyed h.0) inner) s h.2 b
    (one_moves (opening keyed) s h.2 h.5)
    (moves_then (Before (length ks) keyed h.0) inner h.2 h.3 b (before_moves (length ks) keyed h.0 h.2 h.3 h.6)
    (moves_then (Key keyed h.1) (Hole ks) h.3 h.4 b (key_moves keyed h.1 h.3 h.4 h.7) (hole_moves ks h.4 b h.8))))

-- ---- a value in its place, with the brackets that close all levels behind it, makes a value

abbrev pub closers : List Bool → List ℕ
closers [] = []
closers (keyed ∷ ks) = closers ks ++ close keyed ∷ []

-- parts up to the closing bracket, the deepest of which is that deep at least and at most
abbrev Closes : Bool → ℕ → ℕ → List ℕ → List ℕ → Type 0
Closes keyed low high s r =
    (k : List ℕ) × (t : Tree) × (ps : Parts) × (places : List Place) × Inside keyed (part k t ps) places s r
    × (low ≤ parts_depth (part k t ps)) × (parts_depth (part k t ps) ≤ high)

close_up : (n : ℕ) (keyed : Bool) (ps : Parts) (k s a c r : List ℕ) (u : Tree) → Before n keyed ps s a → Key keyed k a c
    → Value u c r → Closes keyed (depth u) (max n (depth u)) s r
close_up n keyed no_parts k s a c r u h key v = (
  k,
  u,
  no_parts,
  (length c, length r) ∷ [],
  (a, c, r, r, [], h, key, v, ([], tt, refl), (refl, refl), refl),
  omega arith,
  omega arith,
)
close_up n keyed (part l t ps) k s a c r u h key v =
    let i = close_up n keyed ps k h.4 a c r u h.11 key v in
    let j = i.4 in
    let shallow = h.10 in (
      l,
      t,
      part i.0 i.1 i.2,
      (length h.1, length h.2) ∷ i.3,
      (
        h.0,
        h.1,
        h.2,
        h.3,
        i.3,
        h.5,
        h.6,
        h.7,
        h.8,
        (h.4, j.0, j.1, j.2, j.3, j.4, h.9, j.5, j.6, j.7, j.8, j.9, j.10),
        refl,
      ),
      omega (arith, i.5),
      omega (arith, i.6, shallow),
    )

abbrev pub Filled : ℕ → ℕ → List ℕ → List ℕ → Type 0
Filled low high s r = (t : Tree) × Value t s r × (low ≤ depth t) × (depth t ≤ high)

around : (keyed : Bool) (low high : ℕ) (s s1 r : List ℕ) → s ≡ opening keyed ∷ s1
    → Closes keyed low high s1 (close keyed ∷ r) → Filled (suc low) (suc high) s r
around false low high s s1 r e i = (array (part i.0 i.1 i.2), (s1, i.3, e, i.4), omega (arith, i.5), omega (arith, i.6))
around true low high s s1 r e i = (object (part i.0 i.1 i.2), (s1, i.3, e, i.4), omega (arith, i.5), omega (arith, i.6))

pub hole_filled : (ks : List Bool) (s b z : List ℕ) (u : Tree) → Hole ks s b → Value u b (closers ks ++ z)
    → Filled (length ks + depth u) (length ks + depth u) s z
hole_filled [] s b z u h v = (u, subst (λ t. Value u t z) (sym h) v, omega arith, omega arith)
hole_filled (keyed ∷ ks) s b z u h v =
    let inner = hole_filled ks h.4 b (close keyed ∷ z) u h.8
    (subst (Value u b) (append_assoc (closers ks) (close keyed ∷ []) z) v) in
    let low = inner.2 in let high = inner.3 in
    let closed = close_up (length ks) keyed h.0 h.1 h.2 h.3 h.4 (close keyed ∷ z) inner.0 h.6 h.7 inner.1 in
    let w = around keyed (depth inner.0) (max (length ks) (depth inner.0)) s h.2 z h.5 closed in
    (w.0, w.1, omega (arith, w.2, low), omega (arith, w.3, high))
