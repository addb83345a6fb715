-- The one text in which a string is written. RFC 8259, section 7, allows several: here what has to be escaped is, as
-- short as may be, and nothing else.
use Rattle.std.specs.Prelude.{ℕ, ◌+◌, ◌/◌, ◌%◌, List, [], ◌∷◌, ◌++◌, ◌==◌, nat_lt, if◌then◌else◌, Option, Some, None}
use Rattle.std.specs.Prelude.{flat_map, sum_by}

-- the letter that stands behind a backslash for this byte: itself for a quotation mark or a backslash, `b`, `f`, `n`,
-- `r` or `t`
unfoldable pub short_letter : ℕ → Option ℕ
short_letter x =
    if x == 34 then Some 34 else if x == 92 then Some 92 else if x == 8 then Some 98 else if x == 12 then Some 102
    else if x == 10 then Some 110 else if x == 13 then Some 114 else if x == 9 then Some 116 else None

abbrev pub hex_digit : ℕ → ℕ
hex_digit d = if nat_lt d 10 then 48 + d else 87 + d

-- a byte that no letter stands for: a control character by its code unit, `\u00` and two hexadecimal digits, and any
-- other by itself
abbrev pub escape_by_code : ℕ → List ℕ
escape_by_code x =
    if nat_lt x 32 then 92 ∷ 117 ∷ 48 ∷ 48 ∷ hex_digit (x / 16) ∷ hex_digit (x % 16) ∷ [] else x ∷ []

abbrev pub escape_by : ℕ → Option ℕ → List ℕ
escape_by x None = escape_by_code x
escape_by x (Some letter) = 92 ∷ letter ∷ []

unfoldable pub escape : ℕ → List ℕ
escape x = escape_by x (short_letter x)

abbrev pub escaped : List ℕ → List ℕ
escaped s = flat_map escape s

abbrev pub quoted : List ℕ → List ℕ
quoted s = 34 ∷ (escaped s ++ 34 ∷ [])

-- ---- how many bytes that is

abbrev pub length_by : ℕ → Option ℕ → ℕ
length_by x None = if nat_lt x 32 then 6 else 1
length_by x (Some letter) = 2

unfoldable pub escape_length : ℕ → ℕ
escape_length x = length_by x (short_letter x)

abbrev pub quoted_length : List ℕ → ℕ
quoted_length s = sum_by escape_length s + 2
