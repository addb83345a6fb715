-- Names and passes by number.
use Rattle.std.proofs.Common.{◌≡◌, ℕ, zero, suc, ◌+◌, ◌<◌, List, [], ◌∷◌, ◌++◌, length, get_or, take, map, refl, ap}
use Rattle.std.proofs.Common.{sym, ◌∙◌, arith, length-append, ◌⊎◌, ⊎_elim, inl, inr}
use Rattle.std.proofs.lemmas.List.{take_more, get_or_append_left, get_or-map, get_or-set_same, length-map, map-append}
use Rattle.std.proofs.Math.Seq.{get_or-append_seam, take-length, map-set_same}
use Rattle.std.specs.Prelude.{slice_set}
use mathlib.Core.Logic.{dite}
use native.Mathlib.Decide.{dec_le}
use Rattle.atomic_table.specs.Seated.{TableId}
use Rattle.cf_order.specs.Passes.{PassState, first_pass}
use Rattle.cf_shard.specs.Naming.{no_word}
use Rattle.cf_shard.specs.Shards.{names, word_of, pass_at, AreOfShards, lent}

below : (i n : ℕ) → i < suc n → (i < n) ⊎ (i ≡ n)
below i n lt = dite (dec_le (suc i) n) (λ h. inl (omega arith)) (λ h. inr (omega arith))

pub names_length : (t : ℕ → TableId) (n : ℕ) → length (names t n) ≡ n
unfolding names
names_length t zero = refl
names_length t (suc n) = let r = names_length t n in omega (arith, length-append (names t n) (t n ∷ []))

pub names_at : (t : ℕ → TableId) (n i : ℕ) (d : TableId) → i < n → get_or (names t n) i d ≡ t i
unfolding names
names_at t zero i d lt = absurd (omega arith)
names_at t (suc n) i d lt =
    ⊎_elim
    (λ (lt : i < n). let lt' : i < length (names t n) = omega (arith, names_length t n) in get_or_append_left
    (names t n) (t n ∷ []) d i lt' ∙ names_at t n i d lt)
    (λ (same : i ≡ n). let at : i ≡ length (names t n) = same
    ∙ sym (names_length t n) in
    ap (λ (k : ℕ). get_or (names t n ++ t n ∷ []) k d) at ∙ get_or-append_seam (names t n) (t n) [] d
    ∙ ap t (sym same))
    (below i n lt)

words_lent : (ps : List PassState) → map word_of (map lent ps) ≡ map word_of ps
words_lent [] = refl
words_lent (p ∷ ps) = ap (λ (l : List TableId). p.word ∷ l) (words_lent ps)

-- sixteen passes, each of the word of its number
pub named_length : (t : ℕ → TableId) (ps : List PassState) → AreOfShards t ps → length ps ≡ 16
named_length t ps e = sym (length-map ps word_of) ∙ (ap length e ∙ names_length t 16)

pub named_get : (t : ℕ → TableId) (ps : List PassState) (i : ℕ) (p d : PassState) → AreOfShards t ps → i < 16
    → p ≡ get_or ps i d → p.word ≡ t i
named_get t ps i p d e lt is =
    let lt' : i < length ps = omega (arith, named_length t ps e) in
    ap word_of is ∙ (sym (get_or-map word_of ps i d (word_of d) lt')
    ∙ (ap (λ (l : List TableId). get_or l i (word_of d)) e ∙ names_at t 16 i (word_of d) lt))

pub named_at : (t : ℕ → TableId) (ps : List PassState) (i : ℕ) → AreOfShards t ps → i < 16 → (pass_at ps i).word ≡ t i
named_at t ps i e lt = named_get t ps i (pass_at ps i) (first_pass no_word) e lt refl

pub named_set : (t : ℕ → TableId) (ps : List PassState) (i : ℕ) (p : PassState) → AreOfShards t ps → i < 16
    → p.word ≡ t i → AreOfShards t (slice_set ps i p)
named_set t ps i p e lt is = map-set_same word_of ps i p (first_pass no_word) (is ∙ sym (named_at t ps i e lt)) ∙ e

-- the pass that was put at a number
pub pass_put : (t : ℕ → TableId) (ps : List PassState) (i : ℕ) (p : PassState) → AreOfShards t ps → i < 16
    → pass_at (slice_set ps i p) i ≡ p
pass_put t ps i p e lt = let lt' : i < length ps = omega (arith, named_length t ps e) in
    get_or-set_same ps i p (first_pass no_word) lt'

-- one pass more was lent
lent_more : (ps : List PassState) (n : ℕ) → n < length ps
    → map lent (take (n + 1) ps) ≡ map lent (take n ps) ++ lent (pass_at ps n) ∷ []
lent_more ps n lt =
    ap (map lent) (take_more ps n (first_pass no_word) lt) ∙ map-append lent (take n ps) (pass_at ps n ∷ [])

pub lent_all : (ps : List PassState) (n : ℕ) → length ps ≡ n → map lent (take n ps) ≡ map lent ps
lent_all ps n e = ap (map lent) (ap (λ (k : ℕ). take k ps) (sym e) ∙ take-length ps)

-- what is lent is of the same words
pub named_lent : (t : ℕ → TableId) (ps : List PassState) → AreOfShards t ps → AreOfShards t (map lent ps)
named_lent t ps e = words_lent ps ∙ e

pub lent_step : (ps : List PassState) (n : ℕ) (old new : List PassState) (q : PassState) → n < length ps
    → old ≡ map lent (take n ps) → q ≡ lent (pass_at ps n) → new ≡ old ++ q ∷ [] → new ≡ map lent (take (n + 1) ps)
lent_step ps n old new q lt is at more = more ∙ ((λ i. is i ++ at i ∷ []) ∙ sym (lent_more ps n lt))
