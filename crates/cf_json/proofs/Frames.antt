-- Frames: what is read of one is in the relation.
use Rattle.std.proofs.Common.{◌≡◌, ◌≢◌, ◌⊎◌, ℕ, ◌-◌, ◌≤◌, ◌<◌, List, [], ◌∷◌, ◌++◌, length, take, drop, map, Bool, true}
use Rattle.std.proofs.Common.{false, cond, ◌&&◌, Ok, Err, refl, sym, ap, ◌∙◌, subst, append_assoc, arith, inl, inr}
use Rattle.std.specs.List.{AllZip}
use Rattle.std.proofs.lemmas.List.{take-append-drop, map_push, append-nil}
use Rattle.std.proofs.lemmas.Slice.Zip.{all_zipped_more}
use Rattle.cf_json.specs.Bytes.{is_space, is_digit, is_exponent_mark}
use Rattle.cf_json.specs.Grammar.{Tree, null, boolean, number, text, array, object, Space, Value, Place, Stops, Ends}
use Rattle.cf_json.specs.Grammar.{depth}
use Rattle.cf_json.specs.Spans.{Span, IsAt, span_at, max_depth}
use Rattle.cf_json.specs.Frame.{Values, Apart, NoMinus, IsFrame, frame_depth}
use Rattle.cf_json.specs.declared.stop.Stop.{Stop}
use Rattle.cf_json.specs.declared.stop.Stop.TheVariants.{TooDeep}
use Rattle.cf_json.specs.Reading.{stopped, after_space, value_end, numeric, apart_end}
use Rattle.cf_json.proofs.Tokens.{Unspaced, chosen, not_ok, space_takes, space_again, space_then, no_space}
use Rattle.cf_json.proofs.Numbers.{bind_ok, ok_is, number_begins}
use Rattle.cf_json.proofs.Takes.{value_takes}
use Rattle.cf_json.proofs.Meets.{value_begins, Begins-unspaced, Outcome, value_meets}
use Rattle.cf_json.proofs.Alone.{value_alone}
use Rattle.cf_json.proofs.Documents.{Front, front_then, space_front, value_front, at_front, front_longer}

-- ---- white space

pub values_behind : (ts : List Tree) (places : List Place) (a b : List ℕ) → Space a b → Values ts places b
    → Values ts places a
values_behind [] places a b h v = (v.0, space_then a b [] h v.1)
values_behind (t ∷ ts) places a b h v = (v.0, v.1, v.2, space_then a b v.0 h v.3, v.4, v.5, v.6, v.7)

-- ---- numbers side by side

number_numeric : (x : ℕ) (xs : List ℕ) → (x ≡ 45) ⊎ (is_digit x ≡ true) → numeric (x ∷ xs) ≡ true
unfolding numeric
number_numeric x xs h = grind arith

not_numeric : (x : ℕ) (xs : List ℕ) → numeric (x ∷ xs) ≡ false → (is_digit x ≡ false) × (x ≢ 46)
    × (is_exponent_mark x ≡ false) × (x ≢ 45)
unfolding numeric
not_numeric x xs h = grind arith

number_apart : (r : List ℕ) → numeric r ≡ false → Ends r × NoMinus r
number_apart [] h = (tt, tt)
number_apart (x ∷ xs) h = let n = not_numeric x xs h in ((n.0, n.1, n.2), n.3)

apart_of : (t : Tree) (s r : List ℕ) → Value t s r → (numeric s && numeric r) ≡ false → Apart t r
apart_of null s r h e = tt
apart_of (boolean b) s r h e = tt
apart_of (number n) s r h e =
    let b = number_begins n h.0 in
    let begins : numeric s ≡ true = ap numeric (h.1 ∙ ap (λ u. u ++ r) b.2) ∙ number_numeric b.0 (b.1 ++ r) b.3 in
    number_apart r (sym (ap (λ u. u && numeric r) begins) ∙ e)
apart_of (text c) s r h e = tt
apart_of (array ps) s r h e = tt
apart_of (object ps) s r h e = tt

pub apart_stops : (t : Tree) (r : List ℕ) → Apart t r → Stops t r
apart_stops null r h = tt
apart_stops (boolean b) r h = tt
apart_stops (number n) r h = h.0
apart_stops (text c) r h = tt
apart_stops (array ps) r h = tt
apart_stops (object ps) r h = tt

pub apart_takes : (s r : List ℕ) → apart_end max_depth s ≡ Ok r → (t : Tree) × Value t s r × Apart t r
    × (depth t ≤ max_depth)
unfolding apart_end
apart_takes s r e =
    let a = bind_ok (value_end max_depth s) (λ m. cond (numeric s && numeric m) (stopped m) (Ok m)) r e in
    let t = value_takes max_depth s a.0 a.1 in
    elim (chosen (numeric s && numeric a.0) _ _ _ a.2) [
      | inl h ↦ absurd (not_ok a.0 r h.1)
      | inr h ↦ let same = ok_is a.0 r h.1 in
          (t.0, subst (Value t.0 s) same t.1, subst (Apart t.0) same (apart_of t.0 s a.0 t.1 h.0), t.2)
    ]

-- ---- what is in the relation is read

number_not : (x : ℕ) (xs : List ℕ) → is_digit x ≡ false → x ≢ 46 → is_exponent_mark x ≡ false → x ≢ 45
    → numeric (x ∷ xs) ≡ false
unfolding numeric
number_not x xs d p m n = grind arith

nothing_numeric : numeric [] ≡ false
unfolding numeric
nothing_numeric = refl

behind_number : (r : List ℕ) → Ends r → NoMinus r → numeric r ≡ false
behind_number [] e n = nothing_numeric
behind_number (x ∷ xs) e n = number_not x xs e.0 e.1 e.2 n

other_begins : (x : ℕ) (xs : List ℕ) → ((x ≡ 110) ⊎ (x ≡ 116)) ⊎ ((x ≡ 102) ⊎ ((x ≡ 34) ⊎ ((x ≡ 91) ⊎ (x ≡ 123))))
    → numeric (x ∷ xs) ≡ false
unfolding numeric is_digit is_exponent_mark
other_begins x xs h = grind arith

not_both : (a b : Bool) → a ≡ false → (a && b) ≡ false
not_both a b e = ap (λ u. u && b) e

not_either : (a b : Bool) → b ≡ false → (a && b) ≡ false
not_either true b e = e
not_either false b e = refl

apart_not_numeric : (t : Tree) (s r : List ℕ) → Value t s r → Apart t r → (numeric s && numeric r) ≡ false
apart_not_numeric null s r h a = not_both (numeric s) (numeric r) (ap numeric h ∙ other_begins 110 _ (inl (inl refl)))
apart_not_numeric (boolean true) s r h a =
    not_both (numeric s) (numeric r) (ap numeric h ∙ other_begins 116 _ (inl (inr refl)))
apart_not_numeric (boolean false) s r h a =
    not_both (numeric s) (numeric r) (ap numeric h ∙ other_begins 102 _ (inr (inl refl)))
apart_not_numeric (number n) s r h a = not_either (numeric s) (numeric r) (behind_number r a.0 a.1)
apart_not_numeric (text c) s r h a =
    not_both (numeric s) (numeric r) (ap numeric h.1 ∙ other_begins 34 _ (inr (inr (inl refl))))
apart_not_numeric (array ps) s r h a =
    not_both (numeric s) (numeric r) (ap numeric h.2 ∙ other_begins 91 _ (inr (inr (inr (inl refl)))))
apart_not_numeric (object ps) s r h a =
    not_both (numeric s) (numeric r) (ap numeric h.2 ∙ other_begins 123 _ (inr (inr (inr (inr refl)))))

apart_ok : (d : ℕ) (s r : List ℕ) → value_end d s ≡ Ok r → (numeric s && numeric r) ≡ false → apart_end d s ≡ Ok r
unfolding apart_end
apart_ok d s r e n = rw (e, n) refl

pub apart_err : (d : ℕ) (s : List ℕ) (e : Stop) → value_end d s ≡ Err e → apart_end d s ≡ Err e
unfolding apart_end
apart_err d s e h = rw h refl

pub apart_meets : (t : Tree) (d : ℕ) (s r : List ℕ) → Value t s r → Apart t r → Outcome d (depth t) (apart_end d s) r
apart_meets t d s r h a =
    let m = value_meets t d s r h (apart_stops t r a) in (
      (λ le. apart_ok d s r (m.0 le) (apart_not_numeric t s r h a)),
      (λ lt. let o = m.1 lt in (o.0, apart_err d s (TooDeep o.0) o.1)),
    )

-- ---- the loop

-- these values one after another, each no deeper than is read, up to where another begins
abbrev pub Done : List Tree → List ℕ → List ℕ → Type 0
Done [] s r = Space s r
Done (t ∷ ts) s r = (s1 s2 : List ℕ) × Space s s1 × Value t s1 s2 × Apart t s2 × (depth t ≤ max_depth) × Done ts s2 r

done_push : (ts : List Tree) (t : Tree) (s c r : List ℕ) → Done ts s c → Value t c r → Apart t r → depth t ≤ max_depth
    → Done (ts ++ t ∷ []) s r
done_push [] t s c r h v a d = (c, r, h, v, a, d, no_space r)
done_push (u ∷ ts) t s c r h v a d = (h.0, h.1, h.2, h.3, h.4, h.5, done_push ts t h.1 c r h.6 v a d)

done_on : (ts : List Tree) (s a b : List ℕ) → Done ts s a → Space a b → Done ts s b
done_on [] s a b h g = space_then s a b h g
done_on (t ∷ ts) s a b h g = (h.0, h.1, h.2, h.3, h.4, h.5, done_on ts h.1 a b h.6 g)

-- the values found so far: whatever follows here completes them, and every frame goes on so
pub record SoFar (all rest : List ℕ) (found : List Span) : Type 0 where
  pub trees : List Tree
  pub places : List Place
  pub spans : found ≡ map (span_at all) places
  pub stand : AllZip (λ s t. IsAt all t s) found trees
  pub done : Done trees all rest
  pub completes : (ts : List Tree) (others : List Place) → Values ts others rest
      → Values (trees ++ ts) (places ++ others) all
  pub every : (ts : List Tree) (others : List Place) → ts ≢ [] → Values ts others all → (us : List Tree)
      × (there : List Place) × Values us there rest × (ts ≡ trees ++ us)

-- the same at the head of the loop, where a value is to follow
pub record Head (all rest : List ℕ) (found : List Span) : Type 0 where
  pub within : length rest ≤ length all
  pub here : drop (length all - length rest) all ≡ rest
  pub unspaced : Unspaced rest
  pub so_far : SoFar all rest found
  pub started : rest ≡ [] → so_far.trees ≡ []

unspaced_step : (x : ℕ) (xs : List ℕ) (b : Bool) → is_space x ≡ b → Unspaced (after_space xs)
    → Unspaced (cond b (after_space xs) (x ∷ xs))
unspaced_step x xs true e h = h
unspaced_step x xs false e h = e

after_unspaced : (s : List ℕ) → Unspaced (after_space s)
unfolding after_space
after_unspaced [] = tt
after_unspaced (x ∷ xs) = unspaced_step x xs (is_space x) refl (after_unspaced xs)

-- behind white space the values stand as they are
pub values_on : (ts : List Tree) (places : List Place) (a : List ℕ) → Values ts places a
    → Values ts places (after_space a)
values_on [] places a v = (v.0, subst (λ u. Space u []) (sym (space_again a [] v.1 tt)) (no_space []))
values_on (t ∷ ts) places a v =
    let first = space_again a v.0 v.3 (Begins-unspaced v.0 (value_begins t v.0 v.1 v.4)) in
    (v.0, v.1, v.2, subst (λ u. Space u v.0) (sym first) (no_space v.0), v.4, v.5, v.6, v.7)

pub no_values : (places : List Place) (a : List ℕ) → Values [] places a → Unspaced a → a ≡ []
no_values places a v u = sym (space_again a a (no_space a) u) ∙ space_again a [] v.1 tt

-- the value that a frame has next
abbrev pub Following : List ℕ → List Tree → List Tree → Type 0
Following rest done ts =
    (t : Tree) × (us : List Tree) × (r : List ℕ) × (others : List Place) × Value t rest r × Apart t r
    × Values us others r × (ts ≡ done ++ t ∷ us)

pub next_value : (rest : List ℕ) (us : List Tree) (there : List Place) → Unspaced rest → us ≢ [] → Values us there rest
    → (t : Tree) × (vs : List Tree) × (r : List ℕ) × (others : List Place) × Value t rest r × Apart t r
    × Values vs others r × (us ≡ t ∷ vs)
next_value rest [] there u some v = absurd (some refl)
next_value rest (t ∷ vs) there u some v =
    let first : rest ≡ v.0 =
    sym (space_again rest rest (no_space rest) u)
    ∙ space_again rest v.0 v.3 (Begins-unspaced v.0 (value_begins t v.0 v.1 v.4)) in
    (t, vs, v.1, v.2, subst (λ s. Value t s v.1) (sym first) v.4, v.5, v.6, refl)

none_left : (rest : List ℕ) (done us : List Tree) (there : List Place) (ts : List Tree) → Unspaced rest
    → (rest ≡ [] → done ≡ []) → Values us there rest → ts ≡ done ++ us → ts ≢ [] → us ≢ []
none_left rest done us there ts u started v e some none =
    let v2 : Values [] there rest = subst (λ x. Values x there rest) none v in
    some (e ∙ ap (λ x. done ++ x) none ∙ append-nil done ∙ started (no_values there rest v2 u))

pub following : (all rest : List ℕ) (found : List Span) (h : Head all rest found) (ts : List Tree) → IsFrame all ts
    → Following rest h.so_far.trees ts
following all rest found h ts f =
    let e = h.so_far.every ts f.1 f.0 f.2 in
    let n = next_value rest e.0 e.1 h.unspaced (none_left rest h.so_far.trees e.0 e.1 ts h.unspaced h.started e.2 e.3
    f.0) e.2 in
    (n.0, n.1, n.2, n.3, n.4, n.5, n.6, e.3 ∙ ap (λ x. h.so_far.trees ++ x) n.7)

pub head_first : (all rest : List ℕ) → rest ≡ after_space all → Head all rest []
head_first all rest e =
    let front : Front all rest = subst (Front all) (sym e) (space_front all (after_space all) (space_takes all)) in
    record {
      within = front_longer all rest front;
      here = at_front all rest front;
      unspaced = subst Unspaced (sym e) (after_unspaced all);
      so_far = record {
        trees = [];
        places = [];
        spans = refl;
        stand = tt;
        done = subst (Space all) (sym e) (space_takes all);
        completes = λ ts others v. values_behind ts others all rest (subst (Space all) (sym e) (space_takes all)) v;
        every = λ ts others some v. (ts, others, subst (Values ts others) (sym e) (values_on ts others all v), refl);
      };
      started = λ none. refl;
    }

some_push : (ts : List Tree) (t : Tree) → ts ++ t ∷ [] ≢ []
some_push [] t e = cc
some_push (u ∷ ts) t e = cc

value_found : (all rest after : List ℕ) → drop (length all - length rest) all ≡ rest
    → apart_end max_depth rest ≡ Ok after → Front all after
value_found all rest after here e =
    let t = apart_takes rest after e in
    front_then all rest after (
      take (length all - length rest) all,
      sym (take-append-drop (length all - length rest) all) ∙ ap (λ u. take (length all - length rest) all ++ u) here,
    )
    (value_front t.0 rest after t.1)

-- the value that was read is the one that each frame has next
same_next : (t u : Tree) (rest after r : List ℕ) → apart_end max_depth rest ≡ Ok after → Value t rest after
    → Apart t after → Value u rest r → Apart u r → (t ≡ u) × (after ≡ r)
same_next t u rest after r e v a w b = value_alone t u rest after r v (apart_stops t after a) w (apart_stops u r b)

pub one_value_more : (all rest after : List ℕ) (found : List Span) (h : Head all rest found)
    → apart_end max_depth rest ≡ Ok after
    → (n : SoFar all after (found ++ record { from = length all - length rest; to = length all - length after } ∷ []))
    × (n.trees ≢ []) × Front all after
one_value_more all rest after found h e =
    let i = h.so_far in
    let t = apart_takes rest after e in
    let place : Place = (length rest, length after) in
    let whole = value_found all rest after h.here e in
    let there = at_front all after whole in
    let here = h.here in
    let within = h.within in
    let is_at : IsAt all t.0 (span_at all place) =
    record {
      begins = omega arith;
      ends = omega arith;
      value = rw (here, there) t.1;
      stops = rw there (apart_stops t.0 after t.2);
      shallow = t.3;
    } in (
      record {
        trees = i.trees ++ t.0 ∷ [];
        places = i.places ++ place ∷ [];
        spans = ap (λ u. u ++ span_at all place ∷ []) i.spans ∙ sym (map_push (span_at all) i.places place);
        stand = all_zipped_more (λ s u. IsAt all u s) found i.trees (span_at all place) t.0 i.stand is_at;
        done = done_push i.trees t.0 all rest after i.done t.1 t.2 t.3;
        completes = λ ts others v. rw (append_assoc i.trees (t.0 ∷ []) ts, append_assoc i.places (place ∷ []) others)
            (i.completes (t.0 ∷ ts) (place ∷ others) (rest, after, others, no_space rest, t.1, t.2, v, refl));
        every = λ ts others some v. let f = following all rest found h ts (some, others, v) in
            let same = same_next t.0 f.0 rest after f.2 e t.1 t.2 f.4 f.5 in (
              f.1,
              f.3,
              subst (Values f.1 f.3) (sym same.1) f.6,
              f.7 ∙ ap (λ x. i.trees ++ x ∷ f.1) (sym same.0) ∙ sym (append_assoc i.trees (t.0 ∷ []) f.1),
            );
      },
      some_push i.trees t.0,
      whole,
    )

module _ (all after : List ℕ) (found : List Span) (n : SoFar all after found) where
  -- where nothing but white space is left, the text is the frame of what was found
  pub frame_done : n.trees ≢ [] → after_space after ≡ []
      → (ts : List Tree) × (places : List Place) × (ts ≢ []) × Values ts places all × (found ≡ map (span_at all) places)
      × AllZip (λ s t. IsAt all t s) found ts
  frame_done some last =
      let done : Values (n.trees ++ []) (n.places ++ []) all =
      n.completes [] [] (refl, subst (Space after) last (space_takes after)) in
      (n.trees, n.places, some, rw (append-nil n.trees, append-nil n.places) at done, n.spans, n.stand)

  nothing_more : (us : List Tree) (others : List Place) → after_space after ≡ [] → Values us others after → us ≡ []
  nothing_more [] others last v = refl
  nothing_more (t ∷ us) others last v =
      let b = value_begins t v.0 v.1 v.4 in
      let first = space_again after v.0 v.3 (Begins-unspaced v.0 b) in
      absurd (omega (arith, ap length (sym last ∙ first ∙ b.2)))

  pub frame_only : after_space after ≡ [] → (ts : List Tree) → IsFrame all ts → AllZip (λ s t. IsAt all t s) found ts
  frame_only last ts f =
      let e = n.every ts f.1 f.0 f.2 in
      let same : ts ≡ n.trees = e.3 ∙ ap (λ x. n.trees ++ x) (nothing_more e.0 e.1 last e.2) ∙ append-nil n.trees in
      subst (AllZip (λ s t. IsAt all t s) found) (sym same) n.stand

  pub head_on : (rest : List ℕ) → rest ≡ after_space after → rest ≢ [] → Front all after → Head all rest found
  head_on rest e some whole =
      let front : Front all rest =
      front_then all after rest whole (subst (Front after) (sym e)
      (space_front after (after_space after) (space_takes after))) in
      record {
        within = front_longer all rest front;
        here = at_front all rest front;
        unspaced = subst Unspaced (sym e) (after_unspaced after);
        so_far = record {
          trees = n.trees;
          places = n.places;
          spans = n.spans;
          stand = n.stand;
          done = done_on n.trees all after rest n.done (subst (Space after) (sym e) (space_takes after));
          completes = λ ts others v. n.completes ts others
              (values_behind ts others after rest (subst (Space after) (sym e) (space_takes after)) v);
          every = λ ts others more v. let f = n.every ts others more v in
              (f.0, f.1, subst (Values f.0 f.1) (sym e) (values_on f.0 f.1 after f.2), f.3);
        };
        started = λ none. absurd (some none);
      }

-- ---- faults

pub deep_behind : (ts us : List Tree) (t : Tree) (n : ℕ) → n < depth t → n < frame_depth (ts ++ t ∷ us)
deep_behind [] us t n h = omega arith
deep_behind (v ∷ ts) us t n h = let i = deep_behind ts us t n h in omega arith
