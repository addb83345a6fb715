-- Texts cut at a byte, and numbers that stand in them.
use Rattle.std.proofs.Common.{◌≡◌, ◌≢◌, ℕ, zero, suc, ◌<◌, ◌≤◌, ◌^◌, Bool, true, false, List, [], ◌∷◌, ◌++◌, length}
use Rattle.std.proofs.Common.{get_or, refl, sym, ap, ◌∙◌, subst, arith, rules, MatchOption, Bor}
use Rattle.std.specs.Prelude.{Option, Some, None, Result}
use Rattle.std.specs.Result.{OkIff}
use Rattle.std.specs.Char.{is_ascii_digit}
use Rattle.std.specs.List.{list_all}
use Rattle.std.specs.Str.Parse.{digits_value, ParsesUnsigned}
use Rattle.std.specs.Fmt.{decimal}
use Rattle.std.proofs.lemmas.Bool.{and_parts, false≢true}
use Rattle.std.proofs.lemmas.Fmt.{digits_decimal, digits_value-decimal, decimal-digits_value, decimal_nonempty}
use Rattle.std.proofs.lemmas.Fmt.{decimal_digit, decimal_injective, first_decimal}
use Rattle.std.proofs.lemmas.Str.Parse.{IsNumeralModel, numerals_by_value, parse_plain, not_in_digits}
use Rattle.std.proofs.lemmas.Str.Pattern.{split_parts, IsSplitOnceResult}
use Rattle.cf_protocol.specs.SettingsRead.{Lacks, IsCut, IsCount}

-- ---- cuts

-- a text is cut at its first b in one way
pub one_cut : (b : ℕ) (x y s t : List ℕ) → Lacks b x → Lacks b y → x ++ b ∷ s ≡ y ++ b ∷ t → (x ≡ y) × (s ≡ t)
one_cut b [] [] s t u v e = (refl, cc)
one_cut b [] (c ∷ y) s t u v e = absurd (v.0 (cc))
one_cut b (c ∷ x) [] s t u v e = absurd (u.0 (cc))
one_cut b (c ∷ x) (d ∷ y) s t u v e =
    let rest : x ++ b ∷ s ≡ y ++ b ∷ t = cc in
    let first : c ≡ d = cc in
    let p = one_cut b x y s t u.1 v.1 rest in
    (ap (λ h. h ∷ x) first ∙ ap (λ l. d ∷ l) p.0, p.1)

-- what lacks b isn't cut there
pub never_cut : (b : ℕ) (s x t : List ℕ) → Lacks b s → s ≡ x ++ b ∷ t → ⊥
never_cut b [] [] t u e = cc
never_cut b [] (c ∷ x) t u e = cc
never_cut b (d ∷ s) [] t u e = u.0 (cc)
never_cut b (d ∷ s) (c ∷ x) t u e = let rest : s ≡ x ++ b ∷ t = cc in never_cut b s x t u.1 rest

-- the two parts of a text that was cut, where it is known how it is spelled
pub same_cut : (b : ℕ) (s before after x t : List ℕ) → IsCut b s before after → Lacks b x → s ≡ x ++ b ∷ t
    → (before ≡ x) × (after ≡ t)
same_cut b s before after x t h u e = one_cut b before x after t h.first u (sym h.whole ∙ e)

-- where each byte passes a test that b doesn't
pub lacks_all : (b : ℕ) (p : ℕ → Bool) → p b ≡ false → (s : List ℕ) → list_all p s ≡ true → Lacks b s
lacks_all b p misses [] h = tt
lacks_all b p misses (x ∷ s) h =
    let parts = and_parts (p x) (list_all p s) h in
    (λ e. false≢true (sym misses ∙ ap p (sym e) ∙ parts.0), lacks_all b p misses s parts.1)

-- by places
pub lacks_at : (b : ℕ) (s : List ℕ) → ((i : ℕ) → i < length s → get_or s i 0 ≢ b) → Lacks b s
lacks_at b [] h = tt
lacks_at b (x ∷ s) h = (h 0 (omega arith), lacks_at b s (λ i l. h (suc i) (omega arith)))

pub lacks_both : (b : ℕ) (s t : List ℕ) → Lacks b s → Lacks b t → Lacks b (s ++ t)
lacks_both b [] t h k = k
lacks_both b (x ∷ s) t h k = (h.0, lacks_both b s t h.1 k)

-- what a call of `split_once` answers
pub cut_by : (b : ℕ) → b < 128 → (s : List ℕ) (r : Option (Bor (List ℕ) × Bor (List ℕ))) → IsSplitOnceResult b s r
    → MatchOption r (Lacks b s) (λ p. IsCut b s p.0.now p.1.now)
cut_by b low s None h = lacks_at b s (split_parts b s None h low)
cut_by b low s (Some p) h =
    let parts = split_parts b s (Some p) h low in
    record { whole = parts.0; first = lacks_at b p.0.now parts.1 }

-- ---- numbers

own : IsNumeralModel (λ ds. list_all is_ascii_digit ds ≡ true) (digits_value 10)
own = numerals_by_value (λ ds. list_all is_ascii_digit ds ≡ true) (search rules)

pub lacks_number : (b : ℕ) → is_ascii_digit b ≡ false → (n : ℕ) → n < 2 ^ 64 → Lacks b (decimal n)
lacks_number b misses n h = lacks_all b is_ascii_digit misses (decimal n) (digits_decimal own n h)

pub one_number : (m n : ℕ) → m < 2 ^ 64 → n < 2 ^ 64 → decimal m ≡ decimal n → m ≡ n
one_number m n h k e = decimal_injective m n h k e

pub count_plus : (most : ℕ) (s : List ℕ) → most < 2 ^ 64 → get_or s 0 0 ≡ 43 → (n : ℕ) → IsCount most s n → ⊥
count_plus most s fits h n k =
    let low = k.within in
    not_in_digits own (decimal n) 43 (digits_decimal own n (omega arith)) (λ d. omega arith) 0
    (decimal_nonempty n (omega arith)) (sym (ap (λ t. get_or t 0 0) k.spelled) ∙ h)

pub count_zero : (most : ℕ) (s : List ℕ) → most < 2 ^ 64 → get_or s 0 0 ≡ 48 → (n : ℕ) → IsCount most s n → ⊥
count_zero most s fits h n k =
    let low = k.within in
    omega (arith, first_decimal n k.least (omega arith), ap (λ t. get_or t 0 0) k.spelled)

pub count_parsed : {E : Type 0} (s : List ℕ) (r : Result ℕ E) → ParsesUnsigned 64 10 s r → get_or s 0 0 ≢ 43
    → OkIff r ((list_all is_ascii_digit s ≡ true) × (0 < length s) × (digits_value 10 s < 2 ^ 64)) (digits_value 10 s)
count_parsed s r h n = parse_plain own 64 s r h n

pub count_found : (most : ℕ) (s : List ℕ) (n : ℕ) → list_all is_ascii_digit s ≡ true → get_or s 0 0 ≢ 48
    → (0 < length s) × (digits_value 10 s < 2 ^ 64) → n ≡ digits_value 10 s → n ≤ most → IsCount most s n
count_found most s n d z h e within =
    let spelled : s ≡ decimal n =
    sym (decimal-digits_value own s d h.0 (λ first. absurd (z first)) h.1) ∙ ap decimal (sym e) in
    record { least = least n spelled; within = within; spelled = spelled }
  where
    least : (m : ℕ) → s ≡ decimal m → 1 ≤ m
    least zero spelled = absurd (z (ap (λ t. get_or t 0 0) (spelled ∙ decimal_digit 0 (omega arith))))
    least (suc m) spelled = omega arith

pub count_other : (most : ℕ) (s : List ℕ) (n : ℕ) → most < 2 ^ 64 → n ≡ digits_value 10 s → most < n → (m : ℕ)
    → IsCount most s m → ⊥
count_other most s n fits e over m k =
    let low = k.within in
    let v : digits_value 10 s ≡ m = ap (digits_value 10) k.spelled ∙ digits_value-decimal own m (omega arith) in
    omega arith

pub count_unparsed : (most : ℕ) (s : List ℕ) → most < 2 ^ 64
    → ((list_all is_ascii_digit s ≡ true) × (0 < length s) × (digits_value 10 s < 2 ^ 64) → ⊥) → (m : ℕ)
    → IsCount most s m → ⊥
count_unparsed most s fits h m k =
    let low = k.within in
    let v : digits_value 10 s ≡ m = ap (digits_value 10) k.spelled ∙ digits_value-decimal own m (omega arith) in
    let long : 0 < length s = subst (λ t. 0 < length t) (sym k.spelled) (decimal_nonempty m (omega arith)) in
    h (ap (list_all is_ascii_digit) k.spelled ∙ digits_decimal own m (omega arith), long, omega arith)
