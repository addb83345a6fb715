-- Beginnings of one list.
use Rattle.std.proofs.Common.{◌≡◌, ℕ, ◌≤◌, ◌<◌, List, [], ◌∷◌, ◌++◌, length, refl, ap, sym, ◌∙◌, arith, append_assoc}
use Rattle.std.proofs.Common.{length-append}
use Rattle.std.specs.Prelude.{nat_lt, if◌then◌else◌, true, false, Bool}
use Rattle.std.proofs.lemmas.Bool.Decides.{nat_tests}
use mathlib.Core.List.{IsPrefix}
use Rattle.cf_protocol.specs.LogEntry.{Entry}
use Rattle.cf_order.specs.Passes.{longer, shorter}

pub prefix_self : {A : Type 0} (xs : List A) → IsPrefix xs xs
prefix_self [] = ([], refl)
prefix_self (x ∷ xs) = (let r = prefix_self xs in r.0, ap (λ ys. x ∷ ys) (prefix_self xs).1)

pub prefix_none : {A : Type 0} (xs : List A) → IsPrefix [] xs
prefix_none xs = (xs, refl)

pub prefix_front : {A : Type 0} (xs ys : List A) → IsPrefix xs (xs ++ ys)
prefix_front xs ys = (ys, refl)

pub prefix_trans : {A : Type 0} (xs ys zs : List A) → IsPrefix xs ys → IsPrefix ys zs → IsPrefix xs zs
prefix_trans xs ys zs p q = (p.0 ++ q.0, sym (append_assoc xs p.0 q.0) ∙ (ap (λ w. w ++ q.0) p.1 ∙ q.1))

-- of two beginnings of one list the shorter begins the longer
pub prefix_shorter : {A : Type 0} (xs ys zs : List A) → IsPrefix xs zs → IsPrefix ys zs → length xs ≤ length ys
    → IsPrefix xs ys
prefix_shorter [] ys zs p q le = (ys, refl)
prefix_shorter (x ∷ xs) [] zs p q le = absurd (omega arith)
prefix_shorter (x ∷ xs) (y ∷ ys) [] p q le = absurd (cc (p.1))
prefix_shorter (x ∷ xs) (y ∷ ys) (z ∷ zs) p q le =
    let heads : x ≡ y = cc (p.1, q.1) in
    let rest = prefix_shorter xs ys zs (p.0, cc (p.1)) (q.0, cc (q.1)) (omega arith) in
    (rest.0, cc (heads, rest.1))

-- a beginning as long as the whole is the whole
pub prefix_whole : {A : Type 0} (xs ys : List A) → IsPrefix xs ys → length ys ≤ length xs → xs ≡ ys
prefix_whole [] [] p le = refl
prefix_whole [] (y ∷ ys) p le = absurd (omega arith)
prefix_whole (x ∷ xs) [] p le = absurd (cc (p.1))
prefix_whole (x ∷ xs) (y ∷ ys) p le =
    let rest = prefix_whole xs ys (p.0, cc (p.1)) (omega arith) in cc (p.1, rest)

-- a log that is no longer than what was seen of it is that
pub still_that : (seen log : List Entry) (count mark : ℕ) → IsPrefix seen log → count ≡ length log → count ≤ mark
    → length seen ≡ mark → log ≡ seen
still_that seen log count mark p is le at = sym (prefix_whole seen log p (omega arith))

pub prefix_length : {A : Type 0} (xs ys : List A) → IsPrefix xs ys → length xs ≤ length ys
prefix_length xs ys p = omega (arith, sym (ap length p.1) ∙ length-append xs p.0)

-- two beginnings of one log of the same length are the same
pub prefix_same : {A : Type 0} (xs ys zs : List A) → IsPrefix xs zs → IsPrefix ys zs → length xs ≡ length ys → xs ≡ ys
prefix_same xs ys zs p q same = prefix_whole xs ys (prefix_shorter xs ys zs p q (omega arith)) (omega arith)

longer_by : (b : Bool) (log xs ys : List Entry) → nat_lt (length ys) (length xs) ≡ b → IsPrefix xs log → IsPrefix ys log
    → IsPrefix (if b then xs else ys) log × (length xs ≤ length (if b then xs else ys))
    × (length ys ≤ length (if b then xs else ys)) × IsPrefix (if b then ys else xs) (if b then xs else ys)
longer_by true log xs ys is p q =
    let le : length ys ≤ length xs = grind (arith, nat_tests) in
    (p, omega arith, le, prefix_shorter ys xs log q p le)
longer_by false log xs ys is p q =
    let le : length xs ≤ length ys = grind (arith, nat_tests) in
    (q, le, omega arith, prefix_shorter xs ys log p q le)

-- the longer of two beginnings of the log is one, as long as either, and the shorter begins it
pub longer_fits : (log xs ys : List Entry) → IsPrefix xs log → IsPrefix ys log
    → IsPrefix (longer xs ys) log × (length xs ≤ length (longer xs ys)) × (length ys ≤ length (longer xs ys))
    × IsPrefix (shorter xs ys) (longer xs ys)
longer_fits log xs ys p q = longer_by (nat_lt (length ys) (length xs)) log xs ys refl p q

-- either begins the longer
pub longer_begins : (log xs ys : List Entry) → IsPrefix xs log → IsPrefix ys log → IsPrefix xs (longer xs ys)
    × IsPrefix ys (longer xs ys)
longer_begins log xs ys p q =
    let l = longer_fits log xs ys p q in
    (prefix_shorter xs (longer xs ys) log p l.0 l.1, prefix_shorter ys (longer xs ys) log q l.0 l.2)

met_by : (b : Bool) (xs ys : List Entry) → IsPrefix (if b then ys else xs) (if b then xs else ys)
    → IsPrefix xs (if b then xs else ys) × IsPrefix ys (if b then xs else ys)
met_by true xs ys p = (prefix_self xs, p)
met_by false xs ys p = (p, prefix_self ys)

-- where the shorter begins the longer, both begin the longer
pub met_begins : (xs ys : List Entry) → IsPrefix (shorter xs ys) (longer xs ys) → IsPrefix xs (longer xs ys)
    × IsPrefix ys (longer xs ys)
met_begins xs ys p = met_by (nat_lt (length ys) (length xs)) xs ys p

-- what was seen of two logs of which the shorter begins the longer
pub seen_begins : (xs ys found more : List Entry) → IsPrefix xs found → IsPrefix ys more
    → IsPrefix (shorter found more) (longer found more)
    → IsPrefix xs (longer xs ys) × IsPrefix ys (longer xs ys)
seen_begins xs ys found more p q r =
    let both = met_begins found more r in
    longer_begins (longer found more) xs ys (prefix_trans xs found (longer found more) p both.0)
    (prefix_trans ys more (longer found more) q both.1)

longer_again_by : (b : Bool) (xs ys : List Entry) → nat_lt (length ys) (length xs) ≡ b
    → longer ys (if b then xs else ys) ≡ (if b then xs else ys)
longer_again_by true xs ys is =
    let no : nat_lt (length xs) (length ys) ≡ false = grind (arith, nat_tests) in rw no refl
longer_again_by false xs ys is =
    let no : nat_lt (length ys) (length ys) ≡ false = grind (arith, nat_tests) in rw no refl

-- taken in the other way round, the longer is the same
pub longer_again : (xs ys : List Entry) → longer ys (longer xs ys) ≡ longer xs ys
longer_again xs ys = longer_again_by (nat_lt (length ys) (length xs)) xs ys refl

longer_of_whole_by : (b : Bool) (xs ys : List Entry) → nat_lt (length ys) (length xs) ≡ b → IsPrefix xs ys
    → (if b then xs else ys) ≡ ys
longer_of_whole_by true xs ys is p =
    prefix_whole xs ys p (let less : length ys < length xs = grind (arith, nat_tests) in omega arith)
longer_of_whole_by false xs ys is p = refl

-- of a log and a beginning of it the log is the longer
pub longer_of_whole : (xs ys : List Entry) → IsPrefix xs ys → longer xs ys ≡ ys
longer_of_whole xs ys p = longer_of_whole_by (nat_lt (length ys) (length xs)) xs ys refl p

below_by : (b : Bool) (xs ys : List Entry) (n : ℕ) → length xs ≤ n → length ys ≤ n → length (if b then xs else ys) ≤ n
below_by true xs ys n p q = p
below_by false xs ys n p q = q

pub longer_below : (xs ys : List Entry) (n : ℕ) → length xs ≤ n → length ys ≤ n → length (longer xs ys) ≤ n
longer_below xs ys n p q = below_by (nat_lt (length ys) (length xs)) xs ys n p q
