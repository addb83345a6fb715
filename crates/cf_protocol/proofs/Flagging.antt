-- The flags of a namespace's settings.
use Rattle.std.proofs.Common.{◌≡◌, ℕ, ◌+◌, ◌<◌, ◌≤◌, Bool, true, false, eqb, cond, eq-eqb, List, [], ◌∷◌, ◌++◌, length}
use Rattle.std.proofs.Common.{get_or, take, refl, sym, ap, ◌∙◌, subst, arith}
use Rattle.std.specs.List.Sorted.{IsPermutation}
use Rattle.std.proofs.lemmas.List.{append-nil, append_assoc, take_more}
use Rattle.std.proofs.lemmas.List.Sums.{count_by_more_yes, sum_by-take-le}
use Rattle.std.proofs.lemmas.List.Sorted.{IsPermutation-sym, IsPermutation-trans, IsPermutation-to_front}
use Rattle.std.proofs.lemmas.List.Sorted.{IsPermutation-append_left, IsPermutation-append_right, sum_by-IsPermutation}
use Rattle.cf_protocol.specs.SettingsText.{letters_of}
use Rattle.cf_protocol.specs.SettingsRead.{AddsLetter, HasMost, times}
use Rattle.cf_protocol.specs.declared.settings.Settings.{Settings}

-- ---- one flag more

to_front : (x y : List ℕ) (b : ℕ) → IsPermutation ((x ++ y) ++ b ∷ []) ((x ++ b ∷ []) ++ y)
to_front x y b =
    rw (append_assoc x y (b ∷ []), append_assoc x (b ∷ []) y)
    (IsPermutation-append_right x (y ++ b ∷ []) (b ∷ y) (IsPermutation-to_front y b))

publish_more : (q : Bool) (x y : List ℕ) → q ≡ false
    → IsPermutation (((cond q (112 ∷ []) [] ++ x) ++ y) ++ 112 ∷ []) (((112 ∷ []) ++ x) ++ y)
publish_more true x y e = absurd (cc)
publish_more false x y e = IsPermutation-to_front (x ++ y) 112

history_more : (q : Bool) (x y : List ℕ) → q ≡ false
    → IsPermutation (((x ++ cond q (104 ∷ []) []) ++ y) ++ 104 ∷ []) ((x ++ 104 ∷ []) ++ y)
history_more true x y e = absurd (cc)
history_more false x y e = rw (append-nil x) (to_front x y 104)

pub adds_publish : (b : ℕ) (s : Settings) → b ≡ 112 → s.publish ≡ false → AddsLetter b s (record s { publish = true })
adds_publish b s e h = record {
  size = refl;
  seconds = refl;
  letters = subst (λ x. IsPermutation (letters_of s ++ x ∷ []) (letters_of (record s { publish = true }))) (sym e)
      (publish_more s.publish (cond s.history (104 ∷ []) []) (cond s.presence (115 ∷ []) []) h);
}

pub adds_history : (b : ℕ) (s : Settings) → b ≡ 104 → s.history ≡ false → AddsLetter b s (record s { history = true })
adds_history b s e h = record {
  size = refl;
  seconds = refl;
  letters = subst (λ x. IsPermutation (letters_of s ++ x ∷ []) (letters_of (record s { history = true }))) (sym e)
      (history_more s.history (cond s.publish (112 ∷ []) []) (cond s.presence (115 ∷ []) []) h);
}

-- ---- the flags so far

pub flags_more : (flags : List ℕ) (i b : ℕ) (old new : Settings) → i < length flags → b ≡ get_or flags i 0
    → IsPermutation (letters_of old) (take i flags) → AddsLetter b old new
    → IsPermutation (letters_of new) (take (i + 1) flags)
flags_more flags i b old new within is so_far adds =
    let longer : take (i + 1) flags ≡ take i flags ++ b ∷ [] =
    take_more flags i 0 within ∙ ap (λ x. take i flags ++ x ∷ []) (sym is) in
    subst (IsPermutation (letters_of new)) (sym longer)
    (IsPermutation-trans _ _ _ (IsPermutation-sym _ _ adds.letters)
    (IsPermutation-append_left (b ∷ []) (letters_of old) (take i flags) so_far))

abbrev one : ℕ → ℕ → ℕ
one b x = cond (eqb x b) 1 0

-- a flag that no settings have more often ends the flags of none
pub flags_refused : (flags : List ℕ) (i b : ℕ) (old : Settings) → i < length flags → b ≡ get_or flags i 0
    → IsPermutation (letters_of old) (take i flags) → HasMost b old → (s : Settings)
    → IsPermutation (letters_of s) flags → ⊥
flags_refused flags i b old within is so_far most s spelled =
    let all : times b flags ≡ times b (letters_of s) = sum_by-IsPermutation (one b) (letters_of s) flags spelled in
    let before : times b (take i flags) ≡ times b (letters_of old) =
    sum_by-IsPermutation (one b) (letters_of old) (take i flags) so_far in
    let here : times b (take (i + 1) flags) ≡ times b (take i flags) + 1 =
    count_by_more_yes (λ x. eqb x b) flags i 0 within (eq-eqb (get_or flags i 0) b (sym is)) in
    let part : times b (take (i + 1) flags) ≤ times b flags = sum_by-take-le (one b) flags (i + 1) in
    let bound : times b (letters_of s) ≤ times b (letters_of old) = most s in
    omega arith

-- ---- flags say the settings

record Letters (p h q : Bool) (s : List ℕ) : Type 0 where
  publish : times 112 s ≡ cond p 1 0
  history : times 104 s ≡ cond h 1 0
  presence : times 115 s ≡ cond q 1 0

letters : (p h q : Bool) → Letters p h q ((cond p (112 ∷ []) [] ++ cond h (104 ∷ []) []) ++ cond q (115 ∷ []) [])
letters true true true = record { publish = refl; history = refl; presence = refl }
letters true true false = record { publish = refl; history = refl; presence = refl }
letters true false true = record { publish = refl; history = refl; presence = refl }
letters true false false = record { publish = refl; history = refl; presence = refl }
letters false true true = record { publish = refl; history = refl; presence = refl }
letters false true false = record { publish = refl; history = refl; presence = refl }
letters false false true = record { publish = refl; history = refl; presence = refl }
letters false false false = record { publish = refl; history = refl; presence = refl }

same_bit : (p q : Bool) → cond {A = ℕ} p 1 0 ≡ cond q 1 0 → p ≡ q
same_bit true true e = refl
same_bit true false e = absurd (omega arith)
same_bit false true e = absurd (omega arith)
same_bit false false e = refl

abbrev made : ℕ → ℕ → Bool → Bool → Bool → Settings
made n m p h q = record { size = n; seconds = m; publish = p; history = h; presence = q }

pub one_setting : (s t : Settings) (flags : List ℕ) → s.size ≡ t.size → s.seconds ≡ t.seconds
    → IsPermutation (letters_of s) flags → IsPermutation (letters_of t) flags → s ≡ t
one_setting s t flags sizes times_of a b =
    let often : (x : ℕ) → times x (letters_of s) ≡ times x (letters_of t) =
    λ x. sym (sum_by-IsPermutation (one x) (letters_of s) flags a)
    ∙ sum_by-IsPermutation (one x) (letters_of t) flags b in
    let l = letters s.publish s.history s.presence in
    let r = letters t.publish t.history t.presence in
    let p : s.publish ≡ t.publish = same_bit _ _ (sym l.publish ∙ often 112 ∙ r.publish) in
    let h : s.history ≡ t.history = same_bit _ _ (sym l.history ∙ often 104 ∙ r.history) in
    let q : s.presence ≡ t.presence = same_bit _ _ (sym l.presence ∙ often 115 ∙ r.presence) in
    ap (λ x. made x s.seconds s.publish s.history s.presence) sizes
    ∙ ap (λ x. made t.size x s.publish s.history s.presence) times_of
    ∙ ap (λ x. made t.size t.seconds x s.history s.presence) p
    ∙ ap (λ x. made t.size t.seconds t.publish x s.presence) h
    ∙ ap (λ x. made t.size t.seconds t.publish t.history x) q
