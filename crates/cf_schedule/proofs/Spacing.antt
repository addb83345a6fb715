-- Words separated by spaces.
use Rattle.std.proofs.Common.{◌≡◌, ◌≢◌, ℕ, suc, ◌<◌, ◌≤◌, Bool, true, false, not, eqb, ◌&&◌, nat_le, List, [], ◌∷◌}
use Rattle.std.proofs.Common.{◌++◌, length, get_or, refl, sym, ap, ◌∙◌, arith, rules}
use Rattle.std.specs.Str.Parse.{digits_value}
use Rattle.std.specs.Char.{is_ascii_digit, is_ascii_graphic}
use Rattle.std.specs.List.{list_all}
use Rattle.std.specs.Fmt.{decimal}
use Rattle.std.proofs.lemmas.Bool.{and_parts, false≢true}
use Rattle.std.proofs.lemmas.Fmt.{digits_decimal}
use Rattle.std.proofs.lemmas.Str.Parse.{IsNumeralModel, numerals_by_value}
use Rattle.cf_schedule.specs.Word.{is_name_byte, IsClientName, IsChannelName, IsKey, IsNamespaceName}
use Rattle.cf_schedule.specs.ScheduleLine.{last_number}
use Rattle.cf_schedule.specs.LineRead.{IsUnspaced, Lacks}

-- a text is cut at its first d in one way
pub cut_once : (d : ℕ) (a b x y : List ℕ) → Lacks d a → Lacks d b → a ++ d ∷ x ≡ b ++ d ∷ y → (a ≡ b) × (x ≡ y)
cut_once d [] [] x y u v e = (refl, cc)
cut_once d [] (c ∷ b) x y u v e = absurd (v.0 (cc))
cut_once d (c ∷ a) [] x y u v e = absurd (u.0 (cc))
cut_once d (c ∷ a) (f ∷ b) x y u v e =
    let rest : a ++ d ∷ x ≡ b ++ d ∷ y = cc in
    let first : c ≡ f = cc in
    let p = cut_once d a b x y u.1 v.1 rest in
    (ap (λ h. h ∷ a) first ∙ ap (λ t. f ∷ t) p.0, p.1)

pub one_cut : (a b x y : List ℕ) → IsUnspaced a → IsUnspaced b → a ++ 32 ∷ x ≡ b ++ 32 ∷ y → (a ≡ b) × (x ≡ y)
one_cut = cut_once 32

-- what has no d isn't cut
pub uncut : (d : ℕ) (s a b : List ℕ) → Lacks d s → s ≡ a ++ d ∷ b → ⊥
uncut d [] [] b u e = cc
uncut d [] (c ∷ a) b u e = cc
uncut d (x ∷ s) [] b u e = u.0 (cc)
uncut d (x ∷ s) (c ∷ a) b u e = let rest : s ≡ a ++ d ∷ b = cc in uncut d s a b u.1 rest

pub never_cut : (s a b : List ℕ) → IsUnspaced s → s ≡ a ++ 32 ∷ b → ⊥
never_cut = uncut 32

-- where each byte passes a test that d doesn't
lacks_all : (d : ℕ) (p : ℕ → Bool) → p d ≡ false → (s : List ℕ) → list_all p s ≡ true → Lacks d s
lacks_all d p lacks [] h = tt
lacks_all d p lacks (x ∷ xs) h =
    let parts = and_parts (p x) (list_all p xs) h in
    (λ e. false≢true (sym lacks ∙ ap p (sym e) ∙ parts.0), lacks_all d p lacks xs parts.1)

pub unspaced_all : (p : ℕ → Bool) → p 32 ≡ false → (s : List ℕ) → list_all p s ≡ true → IsUnspaced s
unspaced_all = lacks_all 32

-- for words that are written out
pub unspaced_word : (s : List ℕ) → list_all (λ b. not (eqb b 32)) s ≡ true → IsUnspaced s
unspaced_word = unspaced_all (λ b. not (eqb b 32)) refl

pub unspaced_client : (x : List ℕ) → IsClientName x → IsUnspaced x
unspaced_client x h =
    unspaced_all is_name_byte refl x (and_parts (nat_le 1 (length x) && nat_le (length x) 32) (list_all is_name_byte x)
    h).1

pub unspaced_channel : (c : List ℕ) → IsChannelName c → IsUnspaced c
unspaced_channel c h =
    unspaced_all is_ascii_graphic refl c (and_parts (nat_le 1 (length c) && nat_le (length c) 255)
    (list_all is_ascii_graphic c) h).1

pub unspaced_key : (k : List ℕ) → IsKey k → IsUnspaced k
unspaced_key k h =
    unspaced_all is_ascii_graphic refl k (and_parts (nat_le 1 (length k) && nat_le (length k) 64)
    (list_all is_ascii_graphic k) h).1

-- no equals sign stands in a namespace's name
pub namespace_lacks : (name : List ℕ) → IsNamespaceName name → Lacks 61 name
namespace_lacks name h =
    lacks_all 61 is_name_byte refl name (and_parts (nat_le (length name) 32) (list_all is_name_byte name) h).1

-- ---- numbers

pub own : IsNumeralModel (λ ds. list_all is_ascii_digit ds ≡ true) (digits_value 10)
own = numerals_by_value (λ ds. list_all is_ascii_digit ds ≡ true) (search rules)

pub unspaced_number : (n : ℕ) → n ≤ last_number → IsUnspaced (decimal n)
unspaced_number n h = unspaced_all is_ascii_digit refl (decimal n) (digits_decimal own n (omega arith))

-- by places
pub lacks_at : (d : ℕ) (s : List ℕ) → ((i : ℕ) → i < length s → get_or s i 0 ≢ d) → Lacks d s
lacks_at d [] h = tt
lacks_at d (x ∷ xs) h = (h 0 (omega arith), lacks_at d xs (λ i l. h (suc i) (omega arith)))
