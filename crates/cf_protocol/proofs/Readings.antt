-- A member that was written is read as what was written.
use Rattle.std.proofs.Common.{◌≡◌, ℕ, zero, suc, ◌≤◌, le_refl, ℤ, pos, negsuc, Bool, true, false, IsTrue, List, [], ◌∷◌}
use Rattle.std.proofs.Common.{map, Option, Some, None, refl, sym, ap, ◌∙◌, arith, ne_eqb, le-leb, leb-true}
use Rattle.std.proofs.lemmas.Fmt.{decimal_is_IsNumeral}
use Rattle.std.proofs.lemmas.Bool.{and_parts, cond-true, cond-false}
use Rattle.std.proofs.lemmas.Slice.Eq.{bytes_eq-Decides}
use Rattle.std.specs.Prelude.{codes, decimal, ◌==◌, neg_ℤ, int_le, option_map, if◌then◌else◌}
use Rattle.std.specs.List.{AllByRecursion}
use Rattle.std.specs.Str.Parse.{digits_value}
use Prim.Native.String.{String as Name}
use Rattle.cf_json.specs.Integers.{whole_of, signed_of}
use Rattle.cf_json.specs.Bytes.{is_digit}
use Rattle.cf_json.specs.Grammar.{Tree, number}
use Rattle.cf_json.specs.Members.{Fields}
use Rattle.cf_json.specs.Members as json
use Rattle.cf_protocol.specs.Position.{Position}
use Rattle.cf_protocol.specs.Fields.{◌>>=◌, read_all, look_up, object_as, object_or_none, objects, within, as_whole}
use Rattle.cf_protocol.specs.Fields.{present, unless_null, max_u32, max_u64, is_limit}
use Rattle.cf_protocol.specs.Fields as fields
use Rattle.cf_protocol.specs.Written.{list}
use Rattle.cf_protocol.specs.Written as written
use Rattle.cf_protocol.specs.Regular.{IsCode, IsPosition}
use Rattle.cf_protocol.proofs.JsonLaws.{JsonLaws}
use Rattle.cf_protocol.proofs.Spellings.{leading}
use Rattle.cf_protocol.proofs.Epochs.{epoch_of-epoch}

-- ---- texts and flags

pub read_text : JsonLaws → (r : Fields) (k : Name) (s : List ℕ) → look_up (codes k) r ≡ written.text s
    → fields.text r k ≡ Some s
read_text j r k [] e = rw e refl
read_text j r k (x ∷ xs) e = rw e (j.read (x ∷ xs))

pub read_flag : (r : Fields) (k : Name) (b : Bool) → look_up (codes k) r ≡ written.flag b → fields.flag r k ≡ Some b
read_flag r k true e = rw e refl
read_flag r k false e = rw e refl

-- ---- numbers

whole_is : (n : ℕ) → n ≤ max_u64 → whole_of (decimal n) ≡ Some n
whole_is n h =
    let value : digits_value 10 (decimal n) ≡ n = (decimal_is_IsNumeral n (omega arith)).1 in
    rw (value, (bytes_eq-Decides (decimal n) (decimal n)).1 refl) refl

within_is : (low high n : ℕ) → low ≤ n → n ≤ high → within low high n ≡ Some n
within_is low high n a b = rw (le-leb low n a, le-leb n high b) refl

pub read_whole : (r : Fields) (k : Name) (high n : ℕ) → look_up (codes k) r ≡ written.whole n → n ≤ high
    → high ≤ max_u64 → fields.whole high r k ≡ Some n
read_whole r k high zero e a b = rw e refl
read_whole r k high (suc n) e a b =
    let there = ne_eqb (suc n) 0 (omega arith) in
    let is = whole_is (suc n) (omega arith) in
    rw (e, there, is) (within_is 0 high (suc n) (omega arith) a)

pub read_code : (r : Fields) (k : Name) (n : ℕ) → look_up (codes k) r ≡ written.whole n → IsCode n
    → (present r k >>= as_whole 1 max_u32) ≡ Some n
read_code r k zero e h = absurd (omega arith)
read_code r k (suc n) e h =
    let there = ne_eqb (suc n) 0 (omega arith) in
    let is = whole_is (suc n) (omega arith) in
    rw (e, there, is) (within_is 1 max_u32 (suc n) h.0 h.1)

digit_no_minus : (x : ℕ) → is_digit x ≡ true → (x == 45) ≡ false
unfolding is_digit
digit_no_minus x h = grind arith

signed_by_digit : (x : ℕ) (xs : List ℕ) (n : ℕ) → is_digit x ≡ true → whole_of (x ∷ xs) ≡ Some n
    → signed_of (x ∷ xs) ≡ Some (pos n)
signed_by_digit x xs n d e = rw (digit_no_minus x d, e) refl

signed_pos : (n : ℕ) → 1 ≤ n → n ≤ max_u64 → signed_of (decimal n) ≡ Some (pos n)
signed_pos n low high =
    let l = leading n (omega arith) low in
    ap signed_of l.2 ∙ signed_by_digit l.0 l.1 n l.4.0 (ap whole_of (sym l.2) ∙ whole_is n high)

signed_neg : (n : ℕ) → suc n ≤ max_u64 → signed_of (45 ∷ decimal (suc n)) ≡ Some (negsuc n)
signed_neg n h = ap (option_map (λ m. neg_ℤ (pos m))) (whole_is (suc n) h)

limit_of : (o : Option ℤ) (z : ℤ) → o ≡ Some z → IsTrue (is_limit z)
    → (o >>= λ y. if is_limit y then Some y else None) ≡ Some z
limit_of o z e h = ap (λ p. p >>= λ y. if is_limit y then Some y else None) e ∙ cond-true (is_limit z) (Some z) None h

limit_by : (r : Fields) (k : Name) (s : List ℕ) (z : ℤ) → look_up (codes k) r ≡ Some (number s) → signed_of s ≡ Some z
    → IsTrue (is_limit z) → fields.limit r k ≡ Some z
limit_by r k s z e f h = rw e (limit_of (signed_of s) z f h)

pub high_limit : (n : ℕ) → IsTrue (is_limit (pos n)) → n ≤ 2147483647
high_limit n h =
    leb-true n 2147483647 (and_parts (int_le (negsuc 2147483647) (pos n)) (int_le (pos n) (pos 2147483647)) h).1

pub low_limit : (n : ℕ) → IsTrue (is_limit (negsuc n)) → n ≤ 2147483647
low_limit n h =
    leb-true n 2147483647 (and_parts (int_le (negsuc 2147483647) (negsuc n)) (int_le (negsuc n) (pos 2147483647)) h).0

pub read_signed : (r : Fields) (k : Name) (z : ℤ) → look_up (codes k) r ≡ written.signed z → IsTrue (is_limit z)
    → fields.limit r k ≡ Some z
read_signed r k (pos zero) e h = rw e refl
read_signed r k (pos (suc n)) e h =
    let there = ne_eqb (suc n) 0 (omega arith) in
    let low = high_limit (suc n) h in
    limit_by r k (decimal (suc n)) (pos (suc n)) (e
    ∙ cond-false (suc n == 0) None (Some (number (decimal (suc n)))) there)
    (signed_pos (suc n) (omega arith) (omega arith)) h
read_signed r k (negsuc n) e h =
    let high = low_limit n h in
    limit_by r k (45 ∷ decimal (suc n)) (negsuc n) e (signed_neg n (omega arith)) h

-- ---- positions

-- what is read, and then what is read with it
pub reads : {A B : Type 0} {o : Option A} {x : A} {y : Option B} (f : A → Option B) → o ≡ Some x → f x ≡ y
    → (o >>= f) ≡ y
reads f e g = ap (λ p. p >>= f) e ∙ g

pub in_turn : {A B C : Type 0} (o : Option A) (f : A → Option B) (g : B → Option C)
    → (o >>= λ x. f x >>= g) ≡ ((o >>= f) >>= g)
in_turn None f g = refl
in_turn (Some x) f g = refl

pub read_position : JsonLaws → (r : Fields) (p : Position) → look_up (codes "epoch") r ≡ written.text p.epoch
    → look_up (codes "offset") r ≡ written.whole p.offset → IsPosition p → fields.position r ≡ Some p
read_position j r p e f h =
    reads _ (read_whole r "offset" max_u64 p.offset f h.offset (le_refl max_u64))
    (reads _ (read_text j r "epoch" p.epoch e) (ap (λ x. Some (record { epoch = x; offset = p.offset }))
    (sym (epoch_of-epoch p.epoch h.epoch))))

-- ---- objects and lists

pub read_or_none : {A : Type 0} (f : Fields → Option A) (r : Fields) (k : Name) (t : Tree) (x : A)
    → look_up (codes k) r ≡ Some t → unless_null t ≡ Some t → object_as f t ≡ Some x
    → object_or_none f r k ≡ Some (Some x)
read_or_none f r k t x e there g = rw (e, there) (ap (option_map Some) g)

pub read_none : {A : Type 0} (f : Fields → Option A) (r : Fields) (k : Name) → look_up (codes k) r ≡ None
    → object_or_none f r k ≡ Some None
read_none f r k e = rw e refl

read_each : {A : Type 0} (f : Tree → Option A) (g : A → Tree) (P : A → Type 0) → ((x : A) → P x → f (g x) ≡ Some x)
    → (xs : List A) → AllByRecursion P xs → read_all f (json.items_of (written.items_of (map g xs))) ≡ Some xs
read_each f g P is [] all = refl
read_each f g P is (x ∷ xs) all = reads _ (is x all.0) (ap (option_map (λ ys. x ∷ ys)) (read_each f g P is xs all.1))

pub read_list : {A : Type 0} (f : Fields → Option A) (g : A → Tree) (P : A → Type 0)
    → ((x : A) → P x → object_as f (g x) ≡ Some x) → (r : Fields) (k : Name) (xs : List A)
    → look_up (codes k) r ≡ list (map g xs) → AllByRecursion P xs
    → objects f r k ≡ Some xs
read_list f g P is r k [] e all = rw e refl
read_list f g P is r k (x ∷ xs) e all = rw e (read_each (object_as f) g P is (x ∷ xs) all)
