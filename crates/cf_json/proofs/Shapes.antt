-- What the first byte of a value tells, and the deepest level that its bytes reach.
use Rattle.std.proofs.Common.{◌≡◌, ◌⊎◌, ℕ, suc, ◌+◌, ◌-◌, ◌≤◌, max, List, [], ◌∷◌, ◌++◌, take, drop, get_or, Bool, true}
use Rattle.std.proofs.Common.{false, cond, ◌==◌, refl, sym, ap, ◌∙◌, subst, add-zero, arith, inl, inr}
use Rattle.std.specs.Prelude.{codes, IsUtf8}
use Rattle.std.specs.List.{AllByRecursion}
use Rattle.std.proofs.lemmas.List.{get_or-drop, drop-take, append-nil}
use Rattle.cf_json.specs.Bytes.{is_space, is_digit, is_hex, is_opening, is_closing}
use Rattle.cf_json.specs.Grammar.{Tree, null, boolean, number, text, array, object, Parts, no_parts, part, Space}
use Rattle.cf_json.specs.Grammar.{IsText, nothing, plain, escaped, unicode, Quoted, Key, Place, Value, Inside, More}
use Rattle.cf_json.specs.Grammar.{depth, parts_depth}
use Rattle.cf_json.specs.Spans.{Span, IsAt}
use Rattle.cf_json.specs.Kinds.{kind_of, kind_from}
use Rattle.cf_json.specs.Squeeze.{next}
use Rattle.cf_json.specs.Levels.{level_after, deepest}
use Rattle.cf_json.specs.declared.squeeze.SqueezeMode.{SqueezeMode}
use Rattle.cf_json.specs.declared.squeeze.SqueezeMode.TheVariants.{Between, Within, Escaped}
use Rattle.cf_json.specs.declared.kinds.Kind.TheVariants.{Number}
use Rattle.cf_json.proofs.Numbers.{number_begins}
use Rattle.cf_json.proofs.Nexts.{first}
use Rattle.cf_json.proofs.Moves.{value_moves}
use Rattle.cf_json.proofs.Cuts.{cut, own_at}
use Rattle.cf_json.proofs.Squeezed.{AreBare, number_bare, word_bare, escape_stays, next_plain}

-- ---- kinds

number_kind : (x : ℕ) → (x ≡ 45) ⊎ (is_digit x ≡ true) → kind_from x ≡ Number
unfolding kind_from is_digit
number_kind x h = grind arith

kind_is : (t : Tree) (s r : List ℕ) → Value t s r → kind_from (first s) ≡ kind_of t
unfolding kind_from
kind_is null s r h = ap (λ u. kind_from (first u)) h
kind_is (boolean true) s r h = ap (λ u. kind_from (first u)) h
kind_is (boolean false) s r h = ap (λ u. kind_from (first u)) h
kind_is (number n) s r h = let b = number_begins n h.0 in
    ap (λ u. kind_from (first u)) (h.1 ∙ ap (λ u. u ++ r) b.2) ∙ number_kind b.0 b.3
kind_is (text c) s r h = ap (λ u. kind_from (first u)) h.1
kind_is (array ps) s r h = ap (λ u. kind_from (first u)) h.2
kind_is (object ps) s r h = ap (λ u. kind_from (first u)) h.2

pub kind_at : (all : List ℕ) (t : Tree) (s : Span) → IsAt all t s → kind_from (get_or all s.from 0) ≡ kind_of t
kind_at all t s h =
    let here : get_or all s.from 0 ≡ first (drop s.from all) =
    ap (λ i. get_or all i 0) (sym (add-zero s.from)) ∙ sym (get_or-drop s.from all 0 0) in
    ap kind_from here ∙ kind_is t (drop s.from all) (drop s.to all) h.value

-- ---- levels

-- the bytes before r open n levels more, and close them again
abbrev Opens : ℕ → List ℕ → List ℕ → Type 0
Opens n s r = (l d : ℕ) → l ≤ d → deepest Between l d s ≡ deepest Between l (max d (l + n)) r

-- or none
abbrev Flat : List ℕ → List ℕ → Type 0
Flat s r = (l d : ℕ) → l ≤ d → deepest Between l d s ≡ deepest Between l d r

flat_opens : (s r : List ℕ) → Flat s r → Opens 0 s r
flat_opens s r f l d h = f l d h ∙ ap (λ n. deepest Between l n r) (omega arith)

opens_then : (a b : ℕ) (s m r : List ℕ) → Opens a s m → Opens b m r → Opens (max a b) s r
opens_then a b s m r f g l d h =
    f l d h ∙ g l (max d (l + a)) (omega arith) ∙ ap (λ n. deepest Between l n r) (omega arith)

flat_then : (n : ℕ) (s m r : List ℕ) → Flat s m → Opens n m r → Opens n s r
flat_then n s m r f g l d h = f l d h ∙ g l d h

then_flat : (n : ℕ) (s m r : List ℕ) → Opens n s m → Flat m r → Opens n s r
then_flat n s m r f g l d h = f l d h ∙ g l (max d (l + n)) (omega arith)

flat_both : (s m r : List ℕ) → Flat s m → Flat m r → Flat s r
flat_both s m r f g l d h = f l d h ∙ g l d h

bare_step : (x : ℕ) (xs : List ℕ) (l d : ℕ) → (x == 34) ≡ false → is_opening x ≡ false → is_closing x ≡ false → l ≤ d
    → deepest Between l d (x ∷ xs) ≡ deepest Between l d xs
unfolding deepest level_after
bare_step x xs l d q o c h = let m : max d l ≡ d = omega arith in rw (q, o, c) (ap (λ n. deepest Between l n xs) m)

bare_flat : (w r : List ℕ) → AreBare w → Flat (w ++ r) r
bare_flat [] r a l d h = refl
bare_flat (x ∷ w) r a l d h = bare_step x (w ++ r) l d a.0.1 a.0.3 a.0.4 h ∙ bare_flat w r a.1 l d h

space_bare : (x : ℕ) → is_space x ≡ true → ((x == 34) ≡ false) × (is_opening x ≡ false) × (is_closing x ≡ false)
unfolding is_space is_opening is_closing
space_bare x h = grind arith

spaces_flat : (w r : List ℕ) → AllByRecursion (λ x. is_space x ≡ true) w → Flat (w ++ r) r
spaces_flat [] r a l d h = refl
spaces_flat (x ∷ w) r a l d h = let b = space_bare x a.0 in
    bare_step x (w ++ r) l d b.0 b.1 b.2 h ∙ spaces_flat w r a.1 l d h

space_flat : (s r : List ℕ) → Space s r → Flat s r
space_flat s r h = subst (λ u. Flat u r) (sym h.2) (spaces_flat h.0 r h.1)

comma_flat : (q : List ℕ) → Flat (44 ∷ q) q
unfolding deepest level_after is_opening is_closing
comma_flat q a b h = ap (λ n. deepest Between a n q) (omega arith)

colon_flat : (q : List ℕ) → Flat (58 ∷ q) q
unfolding deepest level_after is_opening is_closing
colon_flat q a b h = ap (λ n. deepest Between a n q) (omega arith)

-- ---- strings

within_step : (x : ℕ) (xs : List ℕ) (l d : ℕ) → next Within x ≡ Within → l ≤ d
    → deepest Within l d (x ∷ xs) ≡ deepest Within l d xs
unfolding deepest level_after
within_step x xs l d e h = ap (λ m. deepest m l (max d l) xs) e ∙ ap (λ n. deepest Within l n xs) (omega arith)

hex_step : (x : ℕ) (xs : List ℕ) (l d : ℕ) → is_hex x ≡ true → l ≤ d
    → deepest Within l d (x ∷ xs) ≡ deepest Within l d xs
hex_step x xs l d h le = let n = escape_stays x h in within_step x xs l d (next_plain x n.0 n.1) le

escape_step : (x : ℕ) (xs : List ℕ) (l d : ℕ) → l ≤ d → deepest Within l d (92 ∷ x ∷ xs) ≡ deepest Within l d xs
unfolding deepest level_after
escape_step x xs l d h = ap (λ n. deepest Within l n xs) (omega arith)

quote_step : (xs : List ℕ) (l d : ℕ) → l ≤ d → deepest Within l d (34 ∷ xs) ≡ deepest Between l d xs
unfolding deepest level_after
quote_step xs l d h = ap (λ n. deepest Between l n xs) (omega arith)

text_flat : {c : List ℕ} (r : List ℕ) (l n : ℕ) → IsText c → l ≤ n
    → deepest Within l n (c ++ 34 ∷ r) ≡ deepest Between l n r
text_flat r l n nothing h = quote_step r l n h
text_flat r l n (plain {x} {xs} a q b t) h = within_step x (xs ++ 34 ∷ r) l n (next_plain x q b) h ∙ text_flat r l n t h
text_flat r l n (escaped {x} {xs} e t) h = escape_step x (xs ++ 34 ∷ r) l n h ∙ text_flat r l n t h
text_flat r l n (unicode {a} {b} {c} {d} {xs} ha hb hc hd t) h =
    let q : List ℕ = xs ++ 34 ∷ r in
    escape_step 117 (a ∷ b ∷ c ∷ d ∷ q) l n h ∙ hex_step a (b ∷ c ∷ d ∷ q) l n ha h ∙ hex_step b (c ∷ d ∷ q) l n hb h
    ∙ hex_step c (d ∷ q) l n hc h ∙ hex_step d q l n hd h ∙ text_flat r l n t h

open_quote : (xs : List ℕ) (l d : ℕ) → l ≤ d → deepest Between l d (34 ∷ xs) ≡ deepest Within l d xs
unfolding deepest level_after is_opening is_closing
open_quote xs l d h = ap (λ n. deepest Within l n xs) (omega arith)

quoted_flat : (c s r : List ℕ) → Quoted c s r → Flat s r
quoted_flat c s r h l d le = ap (deepest Between l d) h.1 ∙ open_quote (c ++ 34 ∷ r) l d le ∙ text_flat r l d h.0 le

key_flat : (keyed : Bool) (k s r : List ℕ) → Key keyed k s r → Flat s r
key_flat false k s r h = subst (Flat s) h.1 (λ l d le. refl)
key_flat true k s r h =
    flat_both s h.0 r (quoted_flat k s h.0 h.2) (flat_both h.0 (58 ∷ h.1) r (space_flat h.0 (58 ∷ h.1) h.3)
    (flat_both (58 ∷ h.1) h.1 r (colon_flat h.1) (space_flat h.1 r h.4)))

-- ---- values

opening_step : (x : ℕ) (xs : List ℕ) (l d : ℕ) → (x ≡ 91) ⊎ (x ≡ 123)
    → deepest Between l d (x ∷ xs) ≡ deepest Between (l + 1) (max d (l + 1)) xs
unfolding deepest level_after is_opening is_closing
opening_step x xs l d h = elim h [ inl e ↦ rw e refl | inr e ↦ rw e refl ]

closing_step : (x : ℕ) (xs : List ℕ) (l d : ℕ) → (x ≡ 93) ⊎ (x ≡ 125) → l ≤ d
    → deepest Between l d (x ∷ xs) ≡ deepest Between (l - 1) d xs
unfolding deepest level_after is_opening is_closing
closing_step x xs l d h le = let m : max d (l - 1) ≡ d = omega arith in
    elim h [ inl e ↦ rw (e, m) refl | inr e ↦ rw (e, m) refl ]

brackets_open : (a b n : ℕ) (s s1 r : List ℕ) → (a ≡ 91) ⊎ (a ≡ 123) → (b ≡ 93) ⊎ (b ≡ 125) → s ≡ a ∷ s1
    → Opens n s1 (b ∷ r) → Opens (suc n) s r
brackets_open a b n s s1 r opening closing e inside l d h =
    let low : l + 1 - 1 ≡ l = omega arith in
    let top : max (max d (l + 1)) (l + 1 + n) ≡ max d (l + suc n) = omega arith in
    ap (deepest Between l d) e ∙ opening_step a s1 l d opening ∙ inside (l + 1) (max d (l + 1)) (omega arith)
    ∙ closing_step b r (l + 1) (max (max d (l + 1)) (l + 1 + n)) closing (omega arith)
    ∙ ap (λ k. deepest Between k (max (max d (l + 1)) (l + 1 + n)) r) low ∙ ap (λ k. deepest Between l k r) top

mutual
  value_opens : (t : Tree) (s r : List ℕ) → Value t s r → Opens (depth t) s r
  value_opens null s r h = flat_opens s r (subst (λ u. Flat u r) (sym h) (bare_flat (codes "null") r word_bare.0))
  value_opens (boolean true) s r h =
      flat_opens s r (subst (λ u. Flat u r) (sym h) (bare_flat (codes "true") r word_bare.1))
  value_opens (boolean false) s r h =
      flat_opens s r (subst (λ u. Flat u r) (sym h) (bare_flat (codes "false") r word_bare.2))
  value_opens (number n) s r h = flat_opens s r (subst (λ u. Flat u r) (sym h.1) (bare_flat n r (number_bare n h.0)))
  value_opens (text c) s r h = flat_opens s r (quoted_flat c s r h)
  value_opens (array ps) s r h =
      brackets_open 91 93 (parts_depth ps) s h.0 r (inl refl) (inl refl) h.2
      (inside_opens false ps h.1 h.0 (93 ∷ r) h.3)
  value_opens (object ps) s r h =
      brackets_open 123 125 (parts_depth ps) s h.0 r (inr refl) (inr refl) h.2
      (inside_opens true ps h.1 h.0 (125 ∷ r) h.3)

  inside_opens : (keyed : Bool) (ps : Parts) (places : List Place) (s r : List ℕ) → Inside keyed ps places s r
      → Opens (parts_depth ps) s r
  inside_opens keyed no_parts places s r h = flat_opens s r (space_flat s r h.1)
  inside_opens keyed (part k t ps) places s r h =
      flat_then (max (depth t) (parts_depth ps)) s h.1 r
      (flat_both s h.0 h.1 (space_flat s h.0 h.5) (key_flat keyed k h.0 h.1 h.6))
      (opens_then (depth t) (parts_depth ps) h.1 h.3 r
      (then_flat (depth t) h.1 h.2 h.3 (value_opens t h.1 h.2 h.7) (space_flat h.2 h.3 h.8))
      (more_opens keyed ps h.4 h.3 r h.9))

  more_opens : (keyed : Bool) (ps : Parts) (places : List Place) (s r : List ℕ) → More keyed ps places s r
      → Opens (parts_depth ps) s r
  more_opens keyed no_parts places s r h = flat_opens s r (subst (Flat s) h.1 (λ l d le. refl))
  more_opens keyed (part k t ps) places s r h =
      flat_then (max (depth t) (parts_depth ps)) s h.2 r
      (flat_both s h.0 h.2 (subst (λ u. Flat u h.0) (sym h.6) (comma_flat h.0))
      (flat_both h.0 h.1 h.2 (space_flat h.0 h.1 h.7) (key_flat keyed k h.1 h.2 h.8)))
      (opens_then (depth t) (parts_depth ps) h.2 h.4 r
      (then_flat (depth t) h.2 h.3 h.4 (value_opens t h.2 h.3 h.9) (space_flat h.3 h.4 h.10))
      (more_opens keyed ps h.5 h.4 r h.11))

deepest-nil : (m : SqueezeMode) (l d : ℕ) → deepest m l d [] ≡ d
unfolding deepest
deepest-nil m l d = refl

pub depth_at : (all : List ℕ) (t : Tree) (s : Span) → IsUtf8 all → IsAt all t s
    → deepest Between 0 0 (drop s.from (take s.to all)) ≡ depth t
depth_at all t s utf8 h =
    let m = value_moves t (drop s.from all) (drop s.to all) h.value in
    let ordered = (cut all t s utf8 h).ordered in
    let whole : s.from + (s.to - s.from) ≡ s.to = omega arith in
    let own : drop s.from (take s.to all) ≡ m.0 =
    ap (λ n. drop s.from (take n all)) (sym whole) ∙ drop-take s.from (s.to - s.from) all
    ∙ own_at all m.0 s h.begins h.ends m.1 in
    let alone : Value t m.0 [] = subst (λ u. Value t u []) (append-nil m.0) (m.2 []) in
    ap (deepest Between 0 0) own ∙ value_opens t m.0 [] alone 0 0 (omega arith)
    ∙ deepest-nil Between 0 (max 0 (0 + depth t)) ∙ omega arith

-- one byte more, as the loop reads it
pub one_level : (m n : SqueezeMode) (l k d e x y : ℕ) (s xs : List ℕ) → s ≡ x ∷ xs → n ≡ next m y → y ≡ x
    → k ≡ level_after m x l → e ≡ max d k → deepest n k e xs ≡ deepest m l d s
unfolding deepest
one_level m n l k d e x y s xs is mode same level highest = rw (is, mode, same, highest, level) refl

pub level_after-le : (m : SqueezeMode) (x l : ℕ) → level_after m x l ≤ l + 1
unfolding level_after
level_after-le Between x l = up_or_down (is_opening x) (is_closing x)
  where
    up_or_down : (a b : Bool) → cond a (l + 1) (cond b (l - 1) l) ≤ l + 1
    up_or_down true b = omega arith
    up_or_down false true = omega arith
    up_or_down false false = omega arith
level_after-le Within x l = omega arith
level_after-le Escaped x l = omega arith
