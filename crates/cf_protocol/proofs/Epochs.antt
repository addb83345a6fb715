-- How an epoch stands in its 32 bytes.
use Rattle.std.proofs.Common.{◌≡◌, ℕ, zero, suc, ◌<◌, true, List, [], ◌∷◌, ◌++◌, length, take, drop, replicate, refl}
use Rattle.std.proofs.Common.{ap, arith, rules, get_or, nat_le}
use Rattle.std.specs.Str.{IsAscii}
use Rattle.std.specs.List.{list_all}
use Rattle.std.specs.Char.{is_ascii_alphanumeric}
use Rattle.std.proofs.lemmas.Bool.{and_parts}
use Rattle.std.proofs.lemmas.List.{drop-replicate}
use Rattle.std.proofs.Math.Seq.{take-append_seam}
use Rattle.std.proofs.lemmas.Bool.Decides.{nat_tests}
use Rattle.cf_protocol.specs.Epoch.{IsEpoch, epoch_of, padded}

-- what a copy into zeros leaves
pub padded-copied : (s : List ℕ) → s ++ drop (length s) (replicate 32 0) ≡ padded s
padded-copied s = ap (λ t. s ++ t) (drop-replicate (length s) 32 0)

pub take-copied : (s copy : List ℕ) → copy ≡ s → take (length s) (copy ++ drop (length s) (replicate 32 0)) ≡ s
take-copied s copy e = rw e (take-append_seam s (drop (length s) (replicate 32 0)))

abbrev pub IsKept : List ℕ → ℕ → Type 0
IsKept bytes len = (length (take len bytes) ≡ len) × IsEpoch (take len bytes) × (bytes ≡ padded (take len bytes))

pub kept-copied : (s copy : List ℕ) → copy ≡ s → IsEpoch s
    → IsKept (copy ++ drop (length s) (replicate 32 0)) (length s)
kept-copied s copy e h = rw (e, take-append_seam s (drop (length s) (replicate 32 0))) (refl, h, padded-copied s)

-- an epoch is read as itself
pub epoch_of-epoch : (s : List ℕ) → IsEpoch s → s ≡ epoch_of s
epoch_of-epoch s h = rw h refl

ascii_letter : (x : ℕ) → is_ascii_alphanumeric x ≡ true → x < 128
ascii_letter x h = grind (arith, nat_tests)

ascii_at : (s : List ℕ) → list_all is_ascii_alphanumeric s ≡ true → (i : ℕ) → get_or s i 0 < 128
ascii_at [] h i = search rules
ascii_at (x ∷ xs) h zero = ascii_letter x (and_parts (is_ascii_alphanumeric x) (list_all is_ascii_alphanumeric xs) h).0
ascii_at (x ∷ xs) h (suc i) =
    ascii_at xs (and_parts (is_ascii_alphanumeric x) (list_all is_ascii_alphanumeric xs) h).1 i

-- the characters of an epoch are ASCII
pub IsAscii-epoch : (s : List ℕ) → IsEpoch s → IsAscii s
IsAscii-epoch s h = ascii_at s (and_parts (nat_le (length s) 32) (list_all is_ascii_alphanumeric s) h).1
