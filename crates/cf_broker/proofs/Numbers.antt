-- Names by number.
use Rattle.std.proofs.Common.{◌≡◌, ℕ, zero, suc, ◌+◌, ◌<◌, ◌≤◌, List, [], ◌∷◌, ◌++◌, length, get_or, take, map, refl}
use Rattle.std.proofs.Common.{ap, sym, ◌∙◌, arith, add-one, length-append}
use Rattle.std.proofs.lemmas.List.{take_more, map-append}
use Rattle.std.proofs.Math.Seq.{take-length}
use Rattle.atomic_table.specs.Seated.{TableId}
use Rattle.cf_order.specs.Passes.{PassState, first_pass}
use Rattle.cf_shard.specs.Naming.{no_word}
use Rattle.cf_shard.specs.Shards.{names, word_of, by_number, AreOfShards}

pub names_more : (t : ℕ → TableId) (i : ℕ) → names t (i + 1) ≡ names t i ++ t i ∷ []
unfolding names
names_more t i = rw add-one refl

pub last_same : {A : Type 0} (xs ys : List A) (x y : A) → xs ++ x ∷ [] ≡ ys ++ y ∷ [] → (xs ≡ ys) × (x ≡ y)
last_same [] [] x y e = (refl, cc)
last_same [] (b ∷ []) x y e = absurd (cc)
last_same [] (b ∷ c ∷ ys) x y e = absurd (cc)
last_same (a ∷ []) [] x y e = absurd (cc)
last_same (a ∷ c ∷ xs) [] x y e = absurd (cc)
last_same (a ∷ xs) (b ∷ ys) x y e =
    let r = last_same xs ys x y (cc) in
    (cc (r.0), r.1)

-- the last of the first names
pub last_name : (t : ℕ → TableId) (i : ℕ) (all xs : List TableId) (x : TableId) → all ≡ names t (i + 1)
    → all ≡ xs ++ x ∷ [] → (xs ≡ names t i) × (x ≡ t i)
last_name t i all xs x e f = last_same xs (names t i) x (t i) (sym f ∙ e ∙ names_more t i)

pub names_some : (t : ℕ → TableId) (i : ℕ) (all : List TableId) → all ≡ names t (i + 1) → 0 < length all
names_some t i all e = omega (arith, ap length (e ∙ names_more t i), length-append (names t i) (t i ∷ []))

-- the names that a list gives are the list
names_take : (l : List TableId) (d : TableId) (n : ℕ) → n ≤ length l → names (λ i. get_or l i d) n ≡ take n l
unfolding names
names_take l d zero le = refl
names_take l d (suc n) le =
    ap (λ (r : List TableId). r ++ get_or l n d ∷ []) (names_take l d n (omega arith))
    ∙ sym (take_more l n d (omega arith)) ∙ ap (λ (k : ℕ). take k l) (add-one n)

-- as many names as a list gives are the list
pub names_self : (l : List TableId) (n : ℕ) → length l ≡ n → l ≡ names (by_number l) n
names_self l n e = sym (names_take l no_word n (omega arith) ∙ ap (λ (k : ℕ). take k l) (sym e) ∙ take-length l)

-- one word more, and its first pass
pub firsts_more : (ts all : List TableId) (t : TableId) (ps qs : List PassState) (p : PassState)
    → ps ≡ map first_pass ts → p ≡ first_pass t → all ≡ ts ++ t ∷ [] → qs ≡ ps ++ p ∷ [] → qs ≡ map first_pass all
firsts_more ts all t ps qs p e is more passes =
    passes ∙ ((λ i. e i ++ is i ∷ []) ∙ (sym (map-append first_pass ts (t ∷ [])) ∙ ap (map first_pass) (sym more)))

words_of_firsts : (ts : List TableId) → map word_of (map first_pass ts) ≡ ts
words_of_firsts [] = refl
words_of_firsts (t ∷ ts) = ap (λ (l : List TableId). t ∷ l) (words_of_firsts ts)

-- the first passes of the words are of the words
pub firsts_named : (t : ℕ → TableId) (ts : List TableId) (ps : List PassState) → ps ≡ map first_pass ts
    → ts ≡ names t 16 → AreOfShards t ps
firsts_named t ts ps e is = ap (map word_of) e ∙ (words_of_firsts ts ∙ is)
