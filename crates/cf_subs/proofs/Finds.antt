-- Where a row lies, and what is left where it goes.
use Rattle.std.proofs.Common.{◌≡◌, ℕ, ◌==◌, ◌&&◌, ◌||◌, ◌+◌, ◌<◌, Bool, true, false, cond, not, List, [], ◌∷◌, ◌++◌}
use Rattle.std.proofs.Common.{length, map, Option, Some, None, refl, sym, ap, ◌∙◌, subst, arith, length-append}
use Rattle.std.specs.Prelude.{IfSome, IsSome, MatchOption, is_some, option_map, filter, slice_get}
use Rattle.std.specs.List.{AllByRecursion}
use Rattle.std.proofs.lemmas.Bool.Decides.{nat_tests}
use Rattle.std.proofs.lemmas.List.Elements.{filter-append}
use Rattle.std.proofs.lemmas.List.{length-map, map-append}
use denote.RawPtr.{Ptr}
use Rattle.lru.specs.Linked.{IsApart}
use Rattle.lru.proofs.Splits.{all_right}
use Rattle.cf_subs.specs.declared.blocks.At.{At}
use Rattle.cf_subs.specs.declared.table.Row.{Row}
use Rattle.cf_subs.specs.declared.linked_row.LinkedRow.{LinkedRow}
use Rattle.cf_subs.specs.Held.{Held, places, found, without}
use Rattle.cf_subs.specs.Rows.{AreOnce, after_in, channels_of, follows, is_among, is_of, sessions_of, without_row}
use Rattle.cf_subs.specs.Rows.{without_session}
use Rattle.cf_subs.specs.Threads.{at, first_of}
use Rattle.cf_subs.specs.RowBlocks.{AreLinkedByChannel, AreLinkedBySession, IsChannelWalk, IsSessionWalk, StandsIn}
use Rattle.cf_subs.specs.RowBlocks.{channel_of, channels_onward, of_number, onward, place_of, rows_of, session_of}
use Rattle.cf_subs.specs.RowBlocks.{sessions_onward}
use Rattle.cf_subs.proofs.Members.{among_sessions}
use Rattle.cf_subs.proofs.Places.{cut_at, without_cut}
use Rattle.cf_subs.proofs.Threads.{some_eq, same_number, same_refl}
use Rattle.cf_subs.proofs.Walks.{Step, found_here, from_here, walk_step}

abbrev H : Type 0
H = Held LinkedRow

-- ---- the walks as filters of the blocks

pub channel_walk : (hs : List H) (c : ℕ) → map (λ h. h.value.row.session) (of_number channel_of c hs)
    ≡ sessions_of (rows_of hs) c
channel_walk [] c = refl
channel_walk (h ∷ hs) c = by_value (h.value.row.channel == c) (channel_walk hs c)
  where
    by_value : (t : Bool) → map (λ h. h.value.row.session) (of_number channel_of c hs) ≡ sessions_of (rows_of hs) c
        → map (λ h. h.value.row.session) (cond t (h ∷ of_number channel_of c hs) (of_number channel_of c hs))
        ≡ map (λ r. r.session) (cond t (h.value.row ∷ filter (λ r. r.channel == c) (rows_of hs))
        (filter (λ r. r.channel == c) (rows_of hs)))
    by_value true e = ap (λ l. h.value.row.session ∷ l) e
    by_value false e = e

pub session_walk : (hs : List H) (s : ℕ) → map (λ h. h.value.row.channel) (of_number session_of s hs)
    ≡ channels_of (rows_of hs) s
session_walk [] s = refl
session_walk (h ∷ hs) s = by_value (h.value.row.session == s) (session_walk hs s)
  where
    by_value : (t : Bool) → map (λ h. h.value.row.channel) (of_number session_of s hs) ≡ channels_of (rows_of hs) s
        → map (λ h. h.value.row.channel) (cond t (h ∷ of_number session_of s hs) (of_number session_of s hs))
        ≡ map (λ r. r.channel) (cond t (h.value.row ∷ filter (λ r. r.session == s) (rows_of hs))
        (filter (λ r. r.session == s) (rows_of hs)))
    by_value true e = ap (λ l. h.value.row.channel ∷ l) e
    by_value false e = e

-- ---- the place of a row

-- a row stands among those of its session
pub place-of_number : (hs : List H) (c s : ℕ) → place_of c s (of_number session_of s hs) ≡ place_of c s hs
place-of_number [] c s = refl
place-of_number (h ∷ hs) c s = by_value (h.value.row.session == s) refl (place-of_number hs c s)
  where
    and_false : (b : Bool) → (b && false) ≡ false
    and_false true = refl
    and_false false = refl

    by_value : (t : Bool) → (h.value.row.session == s) ≡ t → place_of c s (of_number session_of s hs) ≡ place_of c s hs
        → place_of c s (cond t (h ∷ of_number session_of s hs) (of_number session_of s hs)) ≡ place_of c s (h ∷ hs)
    by_value true is e = ap (cond (is_of c s h.value.row) (Some (at h.at))) e
    by_value false is e =
        e ∙ sym (ap (λ y. cond y (Some (at h.at)) (place_of c s hs))
        (ap (λ y. (h.value.row.channel == c) && y) is ∙ and_false (h.value.row.channel == c)))

pub place_is : (hs : List H) (c s : ℕ) → is_some (place_of c s hs) ≡ follows (rows_of hs) c s
place_is [] c s = refl
place_is (h ∷ hs) c s = by_value (is_of c s h.value.row) (place_is hs c s)
  where
    by_value : (t : Bool) → is_some (place_of c s hs) ≡ follows (rows_of hs) c s
        → is_some (cond t (Some (at h.at)) (place_of c s hs)) ≡ (t || follows (rows_of hs) c s)
    by_value true e = refl
    by_value false e = e

-- the blocks, cut at the row's
pub record Placed (c s : ℕ) (hs : List H) (a : At) : Type 0 where
  pub before : List H
  pub here : H
  pub after : List H
  pub cut : hs ≡ before ++ here ∷ after
  pub place : at here.at ≡ a
  pub is : is_of c s here.value.row ≡ true
  pub none : place_of c s before ≡ None

pub placed : (c s : ℕ) (hs : List H) (a : At) → place_of c s hs ≡ Some a → Placed c s hs a
placed c s [] a e = absurd cc
placed c s (h ∷ hs) a e =
    (elim (is_of c s h.value.row) as (λ y. is_of c s h.value.row ≡ y
    → cond y (Some (at h.at)) (place_of c s hs) ≡ Some a → Placed c s (h ∷ hs) a) [
      | true ↦ λ is e'. record {
        before = [];
        here = h;
        after = hs;
        cut = refl;
        place = some_eq (at h.at) a e';
        is = is;
        none = refl;
      }
      | false ↦ λ other e'. let on = placed c s hs a e' in record {
        before = h ∷ on.before;
        here = on.here;
        after = on.after;
        cut = ap (λ l. h ∷ l) on.cut;
        place = on.place;
        is = on.is;
        none = ap (λ y. cond y (Some (at h.at)) (place_of c s on.before)) other ∙ on.none;
      }
    ]) refl e

pub found_placed : (c s : ℕ) (hs : List H) (a : At) (p : Placed c s hs a) → IsApart (places hs)
    → found hs a.ptr ≡ Some p.here.value
found_placed c s hs a p d =
    let P : H → Type 0 = λ u. found hs u.at ≡ Some u.value in
    ap (λ (b : At). found hs b.ptr) (sym p.place)
    ∙ (all_right P p.before (p.here ∷ p.after) (subst (AllByRecursion P) p.cut (found_here hs d))).0

pub place_is_held : (c s : ℕ) (hs : List H) (a : At) → place_of c s hs ≡ Some a → IsApart (places hs)
    → IsSome (found hs a.ptr)
place_is_held c s hs a e d = subst (λ o. IsSome o) (sym (found_placed c s hs a (placed c s hs a e) d)) refl

-- ---- the row goes

pub none_goes : (c s : ℕ) (rows : List Row) → follows rows c s ≡ false → without_row rows c s ≡ rows
none_goes c s [] h = refl
none_goes c s (r ∷ rows) h = grind (arith, none_goes c s rows)

follows_none : (c s : ℕ) (hs : List H) → place_of c s hs ≡ None → follows (rows_of hs) c s ≡ false
follows_none c s hs e = sym (place_is hs c s) ∙ ap is_some e

is_row : (c s : ℕ) (r : Row) → is_of c s r ≡ true → (r.channel ≡ c) × (r.session ≡ s)
is_row c s r h =
    (elim (r.channel == c) as (λ y. (r.channel == c) ≡ y → (y && (r.session == s)) ≡ true → (r.channel ≡ c)
    × (r.session ≡ s)) [
      | true ↦ λ e g. (same_number r.channel c e, same_number r.session s g)
      | false ↦ λ e g. absurd cc
    ]) refl h

goes : (c s : ℕ) (xs : List Row) (r : Row) (ys : List Row) → is_of c s r ≡ true → follows xs c s ≡ false
    → AreOnce (xs ++ r ∷ ys) → without_row (xs ++ r ∷ ys) c s ≡ xs ++ ys
goes c s [] r ys is none once =
    let same = is_row c s r is in
    let rest : follows ys c s ≡ false =
    subst (λ (z : ℕ × ℕ). follows ys z.0 z.1 ≡ false) (λ i. (same.0 i, same.1 i)) once.0 in
    ap (λ t. cond (not t) (r ∷ without_row ys c s) (without_row ys c s)) is ∙ none_goes c s ys rest
goes c s (x ∷ xs) r ys is none once = grind (arith, goes c s xs r ys is, none, once.1)

rest_of : (hs : List H) (a : At) (before : List H) (here : H) (after : List H) → hs ≡ before ++ here ∷ after
    → at here.at ≡ a → IsApart (places hs) → without hs a.ptr ≡ before ++ after
rest_of hs a before here after cut place d =
    ap (λ l. without l a.ptr) cut ∙ ap (λ (b : At). without (before ++ here ∷ after) b.ptr) (sym place)
    ∙ without_cut before here after (subst (λ l. IsApart (places l)) cut d)

pub row_goes : (c s : ℕ) (hs : List H) (a : At) → place_of c s hs ≡ Some a → IsApart (places hs) → AreOnce (rows_of hs)
    → rows_of (without hs a.ptr) ≡ without_row (rows_of hs) c s
row_goes c s hs a e d once =
    let p = placed c s hs a e in
    let split : rows_of hs ≡ rows_of p.before ++ p.here.value.row ∷ rows_of p.after =
    ap rows_of p.cut ∙ map-append (λ (h : H). h.value.row) p.before (p.here ∷ p.after) in
    ap rows_of (rest_of hs a p.before p.here p.after p.cut p.place d)
    ∙ map-append (λ (h : H). h.value.row) p.before p.after
    ∙ sym (goes c s (rows_of p.before) p.here.value.row (rows_of p.after) p.is (follows_none c s p.before p.none)
    (subst AreOnce split once)) ∙ ap (λ l. without_row l c s) (sym split)

-- one block less
pub one_less : (hs : List H) (p : Ptr) (s : LinkedRow) → Some s ≡ found hs p → IsApart (places hs)
    → length (rows_of (without hs p)) + 1 ≡ length (rows_of hs)
one_less hs p s e d =
    let cut = cut_at hs p (subst (λ o. IsSome o) e refl) in
    let left = ap (λ l. length (rows_of l)) (rest_of hs (at p) cut.before cut.here cut.after cut.cut (ap at cut.place)
    d) in let all = ap (λ l. length (rows_of l)) cut.cut in
    let m₁ = length-map (cut.before ++ cut.after) (λ (h : H). h.value.row) in let m₂ =
    length-map (cut.before ++ cut.here ∷ cut.after) (λ (h : H). h.value.row) in
    let len₁ = length-append cut.before cut.after in let len₂ = length-append cut.before (cut.here ∷ cut.after) in
    omega (arith, left, all, m₁, m₂, len₁, len₂)

-- ---- the first row of a number goes

pub record First (key : LinkedRow → ℕ) (k : ℕ) (hs : List H) (a : At) : Type 0 where
  pub before : List H
  pub here : H
  pub after : List H
  pub cut : hs ≡ before ++ here ∷ after
  pub place : at here.at ≡ a
  pub number : (key here.value == k) ≡ true

pub first_cut : (key : LinkedRow → ℕ) (k : ℕ) (a : At) (hs : List H) → first_of key k hs ≡ Some a → First key k hs a
first_cut key k a [] e = absurd cc
first_cut key k a (h ∷ hs) e =
    (elim (key h.value == k) as (λ y. (key h.value == k) ≡ y → cond y (Some (at h.at)) (first_of key k hs) ≡ Some a
    → First key k (h ∷ hs) a) [
      | true ↦ λ is e'. record {
        before = [];
        here = h;
        after = hs;
        cut = refl;
        place = some_eq (at h.at) a e';
        number = is;
      }
      | false ↦ λ other e'. let on = first_cut key k a hs e' in record {
        before = h ∷ on.before;
        here = on.here;
        after = on.after;
        cut = ap (λ l. h ∷ l) on.cut;
        place = on.place;
        number = on.number;
      }
    ]) refl e

found_first : (key : LinkedRow → ℕ) (k : ℕ) (hs : List H) (a : At) (f : First key k hs a) → IsApart (places hs)
    → found hs a.ptr ≡ Some f.here.value
found_first key k hs a f d =
    let P : H → Type 0 = λ u. found hs u.at ≡ Some u.value in
    ap (λ (b : At). found hs b.ptr) (sym f.place)
    ∙ (all_right P f.before (f.here ∷ f.after) (subst (AllByRecursion P) f.cut (found_here hs d))).0

pub first_is_held : (key : LinkedRow → ℕ) (k : ℕ) (hs : List H) (a : At) → first_of key k hs ≡ Some a
    → IsApart (places hs) → IsSome (found hs a.ptr)
first_is_held key k hs a e d = subst (λ o. IsSome o) (sym (found_first key k hs a (first_cut key k a hs e) d)) refl

pub first_less : (key : LinkedRow → ℕ) (k : ℕ) (hs : List H) (a : At) → first_of key k hs ≡ Some a → IsApart (places hs)
    → length (rows_of (without hs a.ptr)) + 1 ≡ length (rows_of hs)
first_less key k hs a e d = let f = first_cut key k a hs e in
    one_less hs a.ptr f.here.value (sym (found_first key k hs a f d)) d

gone : (k : ℕ) (us : List H) (g : H) (vs : List H) → (g.value.row.session == k) ≡ true
    → without_session (rows_of (us ++ vs)) k ≡ without_session (rows_of (us ++ g ∷ vs)) k
gone k [] g vs e =
    sym (ap (λ y. cond (not y) (g.value.row ∷ without_session (rows_of vs) k) (without_session (rows_of vs) k)) e)
gone k (u ∷ us) g vs e = ap (λ l. cond (not (u.value.row.session == k)) (u.value.row ∷ l) l) (gone k us g vs e)

-- what stays of all others where the first row of a session goes
pub first_goes : (k : ℕ) (hs : List H) (a : At) → first_of session_of k hs ≡ Some a → IsApart (places hs)
    → without_session (rows_of (without hs a.ptr)) k ≡ without_session (rows_of hs) k
first_goes k hs a e d =
    let f = first_cut session_of k a hs e in
    ap (λ l. without_session (rows_of l) k) (rest_of hs a f.before f.here f.after f.cut f.place d)
    ∙ gone k f.before f.here f.after f.number ∙ ap (λ l. without_session (rows_of l) k) (sym f.cut)

-- no row of the session is left
pub none_left : (k : ℕ) (hs : List H) → first_of session_of k hs ≡ None → without_session (rows_of hs) k ≡ rows_of hs
none_left k [] e = refl
none_left k (h ∷ hs) e =
    (elim (h.value.row.session == k) as (λ y. cond y (Some (at h.at)) (first_of session_of k hs) ≡ None
    → cond (not y) (h.value.row ∷ without_session (rows_of hs) k) (without_session (rows_of hs) k) ≡ h.value.row
    ∷ rows_of hs) [
      | true ↦ λ bad. absurd cc
      | false ↦ λ e'. ap (λ l. h.value.row ∷ l) (none_left k hs e')
    ]) e

-- no row at all
pub all_none : (key : LinkedRow → ℕ) (hs : List H) → ((k : ℕ) → first_of key k hs ≡ None) → hs ≡ []
all_none key [] none = refl
all_none key (h ∷ hs) none =
    absurd (let bad = none (key h.value) in let is = ap (λ y. cond y (Some (at h.at)) (first_of key (key h.value) hs))
    (same_refl (key h.value)) in cc)

-- ---- along a session's list to a row

-- a pointer along a session's list from which on the row is found, if it is there
abbrev pub WayTo : ℕ → ℕ → List H → Option At → Type 0
WayTo c s hs o = IsSessionWalk hs s o × (place_of c s (of_number session_of s (onward hs o)) ≡ place_of c s hs)

read : {Y : Type 0} (f : LinkedRow → Y) (x : LinkedRow) (o : Option LinkedRow) (y : Y) → o ≡ Some x
    → Some y ≡ option_map f o → y ≡ f x
read f x o y e g = some_eq y (f x) (g ∙ ap (option_map f) e)

met : (hs : List H) (s : ℕ) (a : At) (linked : AreLinkedBySession hs) (stands : StandsIn session_of hs s (Some a))
    → IsApart (places hs) → Step session_of (λ x. x.before_in_session) (λ x. x.after_in_session) hs s a stands.0
met hs s a linked stands d =
    walk_step session_of (λ x. x.before_in_session) (λ x. x.after_in_session) hs s a stands.0 linked stands d
    (sym stands.1)

and_both : (p q : Bool) → p ≡ true → q ≡ true → (p && q) ≡ true
and_both p q h g = (λ i. h i && g i)

pub find_here : (c s : ℕ) (hs : List H) (a : At) (r : Row) → IsSessionWalk hs s (Some a) → IsApart (places hs)
    → Some r ≡ option_map (λ x. x.row) (found hs a.ptr)
    → place_of c s (of_number session_of s (onward hs (Some a))) ≡ place_of c s hs → r.channel ≡ c
    → Some a ≡ place_of c s hs
find_here c s hs a r walk d e left is =
    let x = walk.1.0 in let same : r ≡ x.row = read (λ y. y.row) x (found hs a.ptr) r walk.1.1 e in
    let c_is : (x.row.channel == c) ≡ true =
    ap (λ (y : Row). y.channel == c) (sym same) ∙ ap (λ n. n == c) is ∙ same_refl c in
    let s_is : (x.row.session == s) ≡ true = ap (λ n. n == s) walk.1.2 ∙ same_refl s in
    let step = met hs s a walk.0 walk.1 d in
    sym (ap (λ t. cond t (Some a) (place_of c s (of_number session_of s (onward hs x.after_in_session))))
    (and_both (x.row.channel == c) (x.row.session == s) c_is s_is)) ∙ sym (ap (place_of c s) step.left) ∙ left

unequal : (m n : ℕ) → (m ≡ n → ⊥) → (m == n) ≡ false
unequal m n h = (elim (m == n) as (λ y. (m == n) ≡ y → y ≡ false) [
  | true ↦ λ e. absurd (h (same_number m n e))
  | false ↦ λ e. refl
]) refl

pub find_on : (c s : ℕ) (hs : List H) (a : At) (r : Row) (o : Option At) → IsSessionWalk hs s (Some a)
    → IsApart (places hs) → Some r ≡ option_map (λ x. x.row) (found hs a.ptr)
    → Some o ≡ option_map (λ x. x.after_in_session) (found hs a.ptr)
    → place_of c s (of_number session_of s (onward hs (Some a))) ≡ place_of c s hs → (r.channel ≡ c → ⊥)
    → IsSessionWalk hs s o × (place_of c s (of_number session_of s (onward hs o)) ≡ place_of c s hs)
find_on c s hs a r o walk d e g left isnt =
    let x = walk.1.0 in let same : r ≡ x.row = read (λ y. y.row) x (found hs a.ptr) r walk.1.1 e in
    let next : o ≡ x.after_in_session = read (λ y. y.after_in_session) x (found hs a.ptr) o walk.1.1 g in
    let other : (x.row.channel == c) ≡ false = ap (λ (y : Row). y.channel == c) (sym same) ∙ unequal r.channel c isnt in
    let step = met hs s a walk.0 walk.1 d in (
      (walk.0, subst (StandsIn session_of hs s) (sym next) step.stands),
      ap (λ p. place_of c s (of_number session_of s (onward hs p))) next
          ∙ sym (ap (λ t. cond (t && (x.row.session == s)) (Some a)
          (place_of c s (of_number session_of s (onward hs x.after_in_session)))) other)
          ∙ sym (ap (place_of c s) step.left) ∙ left,
    )

pub find_less : (s : ℕ) (hs : List H) (a : At) (o : Option At) → IsSessionWalk hs s (Some a) → IsApart (places hs)
    → Some o ≡ option_map (λ x. x.after_in_session) (found hs a.ptr)
    → length (of_number session_of s (onward hs o)) < length (of_number session_of s (onward hs (Some a)))
find_less s hs a o walk d g =
    let x = walk.1.0 in let next : o ≡ x.after_in_session =
    read (λ y. y.after_in_session) x (found hs a.ptr) o walk.1.1 g in
    let step = met hs s a walk.0 walk.1 d in
    let on = ap (λ p. length (of_number session_of s (onward hs p))) next in let left =
    ap (λ (l : List H). length l) step.left in
    omega (arith, on, left)

-- a block that is held, and goes
pub held_one_less : (hs : List H) (p : Ptr) → IsSome (found hs p) → IsApart (places hs)
    → length (rows_of (without hs p)) + 1 ≡ length (rows_of hs)
held_one_less hs p e d = let cut = cut_at hs p e in one_less hs p cut.here.value (sym cut.value) d

pub held_less : (hs : List H) (p : Ptr) → IsSome (found hs p) → IsApart (places hs)
    → length (rows_of (without hs p)) < length (rows_of hs)
held_less hs p e d =
    let cut = cut_at hs p e in let less = one_less hs p cut.here.value (sym cut.value) d in omega (arith, less)

-- the first block of a list is held
pub any_held : (key : LinkedRow → ℕ) (hs : List H) (k : ℕ) (o : Option At) → o ≡ first_of key k hs → IsApart (places hs)
    → IfSome o (λ at. IsSome (found hs at.ptr))
any_held key hs k None e d = tt
any_held key hs k (Some a) e d = first_is_held key k hs a (sym e) d

-- ---- along a walk

pub record ChannelStep (hs : List H) (k : ℕ) (a : At) (r : Row) (o : Option At) : Type 0 where
  pub left : sessions_onward hs k (Some a) ≡ r.session ∷ sessions_onward hs k o
  pub stands : IsChannelWalk hs k o

pub channel_step : (hs : List H) (k : ℕ) (a : At) (r : Row) (o : Option At) → IsChannelWalk hs k (Some a)
    → IsApart (places hs) → Some r ≡ option_map (λ x. x.row) (found hs a.ptr)
    → Some o ≡ option_map (λ x. x.after_in_channel) (found hs a.ptr) → ChannelStep hs k a r o
channel_step hs k a r o walk d e g =
    let x = walk.1.0 in let same : r ≡ x.row = read (λ y. y.row) x (found hs a.ptr) r walk.1.1 e in
    let next : o ≡ x.after_in_channel = read (λ y. y.after_in_channel) x (found hs a.ptr) o walk.1.1 g in
    let step = walk_step channel_of (λ x. x.before_in_channel) (λ x. x.after_in_channel) hs k a x walk.0 walk.1 d
    (sym walk.1.1) in record {
      left = ap (map (λ (h : H). h.value.row.session)) step.left
          ∙ (λ i. (sym same i).session ∷ sessions_onward hs k (sym next i));
      stands = (walk.0, subst (StandsIn channel_of hs k) (sym next) step.stands);
    }

pub record SessionStep (hs : List H) (k : ℕ) (a : At) (r : Row) (o : Option At) : Type 0 where
  pub left : channels_onward hs k (Some a) ≡ r.channel ∷ channels_onward hs k o
  pub stands : IsSessionWalk hs k o

pub session_step : (hs : List H) (k : ℕ) (a : At) (r : Row) (o : Option At) → IsSessionWalk hs k (Some a)
    → IsApart (places hs) → Some r ≡ option_map (λ x. x.row) (found hs a.ptr)
    → Some o ≡ option_map (λ x. x.after_in_session) (found hs a.ptr) → SessionStep hs k a r o
session_step hs k a r o walk d e g =
    let x = walk.1.0 in let same : r ≡ x.row = read (λ y. y.row) x (found hs a.ptr) r walk.1.1 e in
    let next : o ≡ x.after_in_session = read (λ y. y.after_in_session) x (found hs a.ptr) o walk.1.1 g in
    let step = met hs k a walk.0 walk.1 d in record {
      left = ap (map (λ (h : H). h.value.row.channel)) step.left
          ∙ (λ i. (sym same i).channel ∷ channels_onward hs k (sym next i));
      stands = (walk.0, subst (StandsIn session_of hs k) (sym next) step.stands);
    }

-- ---- the session behind one

after_here : (n : ℕ) (xs ys : List ℕ) → is_among n xs ≡ false → after_in n (xs ++ n ∷ ys) ≡ slice_get ys 0
after_here n [] ys h = grind (arith, nat_tests)
after_here n (x ∷ xs) ys h = grind (arith, nat_tests, after_here n xs ys)

after_none : (n : ℕ) (ns : List ℕ) → is_among n ns ≡ false → after_in n ns ≡ None
after_none n [] h = refl
after_none n (m ∷ ms) h = grind (arith, nat_tests, after_none n ms)

pub after_nobody : (c s : ℕ) (hs : List H) → place_of c s hs ≡ None → after_in s (sessions_of (rows_of hs) c) ≡ None
after_nobody c s hs e =
    after_none s (sessions_of (rows_of hs) c) (among_sessions (rows_of hs) c s ∙ follows_none c s hs e)

-- the walk from the row behind a row's in its channel
pub record Behind (c s : ℕ) (hs : List H) (o : Option At) : Type 0 where
  pub walk : IsChannelWalk hs c o
  pub next : slice_get (sessions_onward hs c o) 0 ≡ after_in s (sessions_of (rows_of hs) c)

pub behind : (c s : ℕ) (hs : List H) (a : At) (o : Option At) → place_of c s hs ≡ Some a → AreLinkedByChannel hs
    → IsApart (places hs) → Some o ≡ option_map (λ x. x.after_in_channel) (found hs a.ptr) → Behind c s hs o
behind c s hs a o e linked d g =
    let p = placed c s hs a e in let n = p.here in let same = is_row c s n.value.row p.is in
    let at_a = found_placed c s hs a p d in let walk : IsChannelWalk hs c (Some a) =
    (linked, (n.value, at_a, same.0)) in
    let step = channel_step hs c a n.value.row o walk d (sym (ap (option_map (λ (x : LinkedRow). x.row)) at_a)) g in
    let here : onward hs (Some a) ≡ n ∷ p.after =
    (λ i. onward (p.cut i) (Some (sym p.place i)))
    ∙ from_here channel_of (λ x. x.before_in_channel) (λ x. x.after_in_channel) c p.before n p.after
    (subst AreLinkedByChannel p.cut linked) (subst (λ l. IsApart (places l)) p.cut d) same.0 in
    let first : List ℕ = map (λ (h : H). h.value.row.session) (of_number channel_of c p.before) in
    let split : sessions_of (rows_of hs) c ≡ first ++ s ∷ sessions_onward hs c o =
    sym (channel_walk hs c) ∙ ap (λ l. map (λ (h : H). h.value.row.session) (of_number channel_of c l)) p.cut
    ∙ ap (map (λ (h : H). h.value.row.session)) (filter-append (λ (h : H). h.value.row.channel == c) p.before
    (n ∷ p.after))
    ∙ map-append (λ (h : H). h.value.row.session) (of_number channel_of c p.before)
    (of_number channel_of c (n ∷ p.after))
    ∙ ap (λ l. first ++ map (λ (h : H). h.value.row.session) (of_number channel_of c l)) (sym here)
    ∙ ap (λ l. first ++ l) step.left ∙ ap (λ k. first ++ k ∷ sessions_onward hs c o) same.1 in
    let absent : is_among s first ≡ false =
    ap (is_among s) (channel_walk p.before c) ∙ among_sessions (rows_of p.before) c s
    ∙ follows_none c s p.before p.none in record {
      walk = step.stands;
      next = sym (ap (after_in s) split ∙ after_here s first (sessions_onward hs c o) absent);
    }

-- what a walk's first step gives
pub starts : (o : Option ℕ) (ns left : List ℕ) → MatchOption o ((ns ≡ []) × (left ≡ [])) (λ n. ns ≡ n ∷ left)
    → o ≡ slice_get ns 0
starts None ns left h = sym (ap (λ l. slice_get l 0) h.0)
starts (Some n) ns left h = sym (ap (λ l. slice_get l 0) h)
