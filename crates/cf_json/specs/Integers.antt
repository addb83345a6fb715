-- Whole numbers, by their spelling.
use Rattle.std.specs.Prelude.{◌^◌, ◌==◌, ℕ, ℤ, pos, negsuc, neg_ℤ, nat_lt, List, [], ◌∷◌, Bool, if◌then◌else◌, Option}
use Rattle.std.specs.Prelude.{Some, None, option_map, decimal}
use Rattle.std.specs.Str.{bytes_eq}
use Rattle.std.specs.Str.Parse.{digits_value}

-- a number that is spelled without sign, fraction, exponent or leading zeros
abbrev pub whole_of : List ℕ → Option ℕ
whole_of s = if bytes_eq s (decimal (digits_value 10 s)) then Some (digits_value 10 s) else None

-- the same, with a minus sign before it or none
abbrev pub signed_of : List ℕ → Option ℤ
signed_of [] = None
signed_of (x ∷ s) =
    if x == 45 then option_map (λ n. neg_ℤ (pos n)) (whole_of s) else option_map pos (whole_of (x ∷ s))

-- what fits 64 bits
abbrev pub as_u64 : ℕ → Option ℕ
as_u64 n = if nat_lt n (2 ^ 64) then Some n else None

abbrev pub fits_i64 : ℤ → Bool
fits_i64 (pos n) = nat_lt n (2 ^ 63)
fits_i64 (negsuc n) = nat_lt n (2 ^ 63)

abbrev pub as_i64 : ℤ → Option ℤ
as_i64 z = if fits_i64 z then Some z else None
